-- Laws of lists in rising order.
-- Assumes nothing.
use mathlib.Core.Path.{◌≡◌, refl, sym, ap, subst}
use mathlib.Core.Bool.{false}
use mathlib.Core.List.{List, [], ◌∷◌}
use Prim.Native.Nat.{ℕ, zero, suc, ◌≤◌, ◌<◌}
use native.Mathlib.Nat.{le_of_suc-le-suc, not-suc-le-zero}
use native.Mathlib.Omega.{arith}
use lib.ListN.{length, drop, get_or}
use lib.Dec.{eqb, ltb}
use borrow.Author.Tests.{ltb-true, ltb-false, eqb-false, eq-eqb, ne_eqb}
use Rattle.base_lists.specs.Lists.{Above, Rising, mem, without, shift_remove, place, insert}
use Rattle.base_lists.proofs.Choice.{split, by_test}

above_without : (x p : ℕ) (xs : List ℕ) → Above x xs → Above x (without p xs)
unfolding Above without
above_without x p [] h = tt
above_without x p (y ∷ ys) h = by_test (Above x) (eqb p y) (λ e. above_without x p ys h.1) (λ e. (h.0, above_without x p ys h.1))

pub rising_without : (p : ℕ) (xs : List ℕ) → Rising xs → Rising (without p xs)
unfolding Rising without
rising_without p [] h = tt
rising_without p (y ∷ ys) h = by_test Rising (eqb p y) (λ e. rising_without p ys h.1) (λ e. (above_without y p ys h.0, rising_without p ys h.1))

above_place : (x p : ℕ) (xs : List ℕ) → x < p → Above x xs → Above x (place p xs)
unfolding Above place
above_place x p [] l h = (l, tt)
above_place x p (y ∷ ys) l h = by_test (Above x) (ltb p y) (λ e. (l, h)) (λ e. (h.0, above_place x p ys l h.1))

pub above_less : (x y : ℕ) (xs : List ℕ) → x < y → Above y xs → Above x xs
unfolding Above
above_less x y [] l h = tt
above_less x y (z ∷ zs) l h = (omega (arith, h.0), above_less x y zs l h.1)

pub rising_place : (p : ℕ) (xs : List ℕ) → mem p xs ≡ false → Rising xs → Rising (place p xs)
unfolding Rising Above place mem
rising_place p [] m h = (tt, tt)
rising_place p (y ∷ ys) m h =
    by_test Rising (ltb p y)
    (λ e. let l : p < y = ltb-true p y e in ((l, above_less p y ys l h.0), h))
    (λ e. let l : y ≤ p = ltb-false p y e in
    split (eqb p y)
    (λ f. let z : ◌≡◌ {A = ℕ} 0 1 = cc in absurd (omega arith))
    (λ f. let n : p ≡ y → ⊥ = eqb-false p y f in
    let w : mem p ys ≡ false = cc in
    (above_place y p ys (omega (arith, n)) h.0, rising_place p ys w h.1)))

pub rising_insert : (p : ℕ) (xs : List ℕ) → Rising xs → Rising (insert p xs)
unfolding insert
rising_insert p xs h = by_test Rising (mem p xs) (λ e. h) (λ e. rising_place p xs e h)

-- ---- an item at a place, which no other is

without_above : (p : ℕ) (xs : List ℕ) → Above p xs → without p xs ≡ xs
unfolding Above without
without_above p [] h = refl
without_above p (y ∷ ys) h = let e : p ≡ y → ⊥ = λ q. omega (arith, h.0) in rw (ne_eqb p y e) (ap (λ (l : List ℕ). y ∷ l) (without_above p ys h.1))

above_at : (x : ℕ) (xs : List ℕ) (i : ℕ) → Above x xs → i < length xs → x < get_or xs i 0
unfolding Above
above_at x [] i h p = absurd (not-suc-le-zero p)
above_at x (y ∷ ys) zero h p = h.0
above_at x (y ∷ ys) (suc i) h p = above_at x ys i h.1 (le_of_suc-le-suc p)

pub without_at : (xs : List ℕ) (i p : ℕ) → Rising xs → i < length xs → get_or xs i 0 ≡ p → without p xs ≡ shift_remove i xs
unfolding Rising without shift_remove
without_at [] i p r h e = refl
without_at (x ∷ xs) zero p r h e = rw (eq-eqb p x (sym e)) (without_above p xs (subst (λ (y : ℕ). Above y xs) e r.0))
without_at (x ∷ xs) (suc i) p r h e =
    let q : p ≡ x → ⊥ = λ z. omega (arith, above_at x xs i r.0 (le_of_suc-le-suc h), e) in
    rw (ne_eqb p x q) (ap (λ (l : List ℕ). x ∷ l) (without_at xs i p r.1 (le_of_suc-le-suc h) e))

pub drop_shift_remove : (i : ℕ) (xs : List ℕ) → drop i (shift_remove i xs) ≡ drop (suc i) xs
unfolding shift_remove
drop_shift_remove zero [] = refl
drop_shift_remove (suc i) [] = refl
drop_shift_remove zero (x ∷ xs) = refl
drop_shift_remove (suc i) (x ∷ xs) = drop_shift_remove i xs
