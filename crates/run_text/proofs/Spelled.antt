-- The digits that the kit writes are the definition's.
-- Assumes nothing.
use Prim.Native.Nat.{ℕ, zero, suc, ◌-◌, ◌*◌, ◌/◌, ◌%◌, ◌^◌, ◌≤◌, ◌<◌}
use mathlib.Core.Path.{◌≡◌, refl, sym, ap, ◌∙◌, subst}
use mathlib.Core.List.{List, [], ◌∷◌, ◌++◌}
use native.Mathlib.Nat.{pow-suc, one-le-pow, pow-le-pow_right}
use native.Mathlib.Omega.{arith}
use lib.ListN.{take}
use lib.Dec.{leb}
use borrow.Author.Tests.{lt-ltb, le-ltb, leb-true, leb-false}
use Rattle.base_lists.proofs.Choice.{choose_yes, choose_no, split}
use Rattle.io.specs.Digits.{hex_digit_ascii, last_digits, IsDigitCount}
use Rattle.run_text.specs.declared.Page.{Page}
use Rattle.run_text.specs.Text.{Prints}
use Rattle.run_text.specs.Numbers.{digits_within, decimal, field}
use Rattle.run_text.proofs.Written.{then, named}

small : (n : ℕ) → n < 10 → n % 10 ≡ n
small n h = omega (arith, h)

one_digit : (n f : ℕ) → n < 10 → last_digits 10 1 n ≡ digits_within (suc f) n
unfolding digits_within
one_digit n f h = ap (λ (d : ℕ). hex_digit_ascii d ∷ []) (small n h) ∙ sym (choose_yes _ _ _ (lt-ltb n 10 h))

spelled : (k f n : ℕ) → k ≤ f → IsDigitCount 10 1 n k → last_digits 10 k n ≡ digits_within f n
unfolding digits_within
spelled zero f n l h = absurd (omega (arith, h.0))
spelled (suc k) zero n l h = absurd (omega (arith, l))
spelled (suc zero) (suc f) n l h = one_digit n f h.1
spelled (suc (suc k)) (suc f) n l h =
    let most : n < 10 ^ suc k * 10 = subst (λ (x : ℕ). n < x) (pow-suc 10 (suc k)) h.1 in
    let one_less : suc (suc k) - 1 ≡ suc k = omega arith in
    let least : 10 ^ k * 10 ≤ n = subst (λ (x : ℕ). x ≤ n) (ap (λ (x : ℕ). 10 ^ x) one_less ∙ pow-suc 10 k) (h.2 (omega arith)) in
    let some : 1 ≤ 10 ^ k = positive k in
    let ten : 10 ≤ n = omega (arith, least, some) in
    ap (λ (z : List ℕ). z ++ (hex_digit_ascii (n % 10) ∷ [])) (spelled (suc k) f (n / 10) (omega (arith, l)) (omega arith, omega (arith, most), λ j. fewer k j n least))
    ∙ sym (choose_no _ _ _ (le-ltb n 10 ten))
  where
    positive : (j : ℕ) → 1 ≤ 10 ^ j
    positive j = one-le-pow j 10 (omega arith)

    fewer : (j : ℕ) → 1 < suc j → (m : ℕ) → 10 ^ j * 10 ≤ m → 10 ^ (suc j - 1) ≤ m / 10
    fewer j q m e = let z : j ≡ suc j - 1 = omega arith in subst (λ (x : ℕ). 10 ^ x ≤ m / 10) z (omega (arith, e))

larger : (b i j : ℕ) → 0 < b → i ≤ j → b ^ i ≤ b ^ j
larger b i j h l = pow-le-pow_right h l

-- a 64-bit number has at most 20 digits
few : (n k : ℕ) → n < 18446744073709551616 → IsDigitCount 10 1 n k → k ≤ 20
few n k l h =
    split (leb k 20) (λ e. leb-true k 20 e)
    (λ e. let over = leb-false k 20 e in
    let p : 10 ^ 20 ≤ 10 ^ (k - 1) = larger 10 20 (k - 1) (omega arith) (omega (arith, over)) in
    let q : 10 ^ (k - 1) ≤ n = h.2 (omega (arith, over)) in
    let big : 10 ^ 20 ≡ 100000000000000000000 = refl in
    absurd (omega (arith, l, p, q, big)))

pub put_digits : (n k : ℕ) (all : List ℕ) (t r : Page) → n < 18446744073709551616 → IsDigitCount 10 1 n k → take k all ≡ last_digits 10 k n → Prints (take k all) t r → Prints (decimal n) t r
unfolding decimal
put_digits n k all t r l f q p = named (q ∙ spelled k 20 n (few n k l f) f) p

pub put_after : (n x : ℕ) (t a r : Page) → Prints (x ∷ []) a r → Prints (decimal n) t a → Prints (field n x) t r
unfolding field
put_after n x t a r k₂ k₁ = then k₂ k₁
