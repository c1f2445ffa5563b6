-- Laws of text in lent bytes.
-- Assumes nothing.
use Prim.Native.Nat.{ℕ, ◌+◌, ◌≤◌, ◌<◌}
use mathlib.Core.Path.{◌≡◌, refl, sym, ap, ◌∙◌, subst}
use mathlib.Core.Bool.{true}
use mathlib.Core.List.{List, [], ◌∷◌, ◌++◌, append-nil, append_assoc}
use native.Mathlib.Omega.{arith}
use lib.ListN.{length, take, get_or, set, length-append, length-set}
use borrow.Author.Tests.{lt-ltb, le-ltb}
use denote.MutBor.{MutBor}
use Rattle.std.proofs.lemmas.List.{take_more, set_past}
use Rattle.base_lists.specs.Bytes.{overwrite}
use Rattle.base_lists.proofs.Bytes.{overwrite_append, length_overwrite}
use Rattle.run_text.specs.declared.Page.{Page}
use Rattle.run_text.specs.Text.{Shows, Prints, Begins}

pub begun : {t : Page} {out : MutBor (List ℕ)} → Begins out t → Shows [] out.now t
unfolding overwrite
begun {t} {out} b = record { reached = b.at_start ∙ omega arith; over = b.room ∙ sym (le-ltb (length out.now) 0 (omega arith)); bytes = b.bytes }

one_more : (out₀ w : List ℕ) (x : ℕ) → set (overwrite out₀ 0 w) (length w) x ≡ overwrite out₀ 0 (w ++ (x ∷ []))
unfolding overwrite
one_more out₀ w x = let e : length w ≡ 0 + length w = omega arith in ap (λ (j : ℕ). set (overwrite out₀ 0 w) j x) e ∙ overwrite_append out₀ 0 w (x ∷ [])

module _ (t r : Page) (x : ℕ) (same : r.out.ghost_name ≡ t.out.ghost_name) where
  pub put_fits : t.text.at < length t.out.now → r.out.now ≡ set t.out.now t.text.at x → r.text.at ≡ t.text.at + 1 → r.text.full ≡ t.text.full → Prints (x ∷ []) t r
  put_fits h e a f = record {
    same = same;
    long = ap length e ∙ length-set t.out.now t.text.at x;
    puts = λ w out₀ k.
        let l : length t.out.now ≡ length out₀ = ap length k.bytes ∙ length_overwrite out₀ 0 w in
        let q : t.text.at ≡ length w = omega (arith, k.reached, l, h) in
        let m : length (w ++ (x ∷ [])) ≡ length w + 1 = length-append w (x ∷ []) in
        record {
          reached = omega (arith, a, q, l, h, m);
          over = f ∙ (k.over ∙ (le-ltb (length out₀) (length w) (omega (arith, q, l, h)) ∙ sym (le-ltb (length out₀) (length (w ++ (x ∷ []))) (omega (arith, q, l, h, m)))));
          bytes = e ∙ ((λ i. set (k.bytes i) (q i) x) ∙ one_more out₀ w x);
        };
  }

  pub put_past : length t.out.now ≤ t.text.at → r.out.now ≡ t.out.now → r.text.at ≡ t.text.at → r.text.full ≡ true → Prints (x ∷ []) t r
  put_past h e a f = record {
    same = same;
    long = ap length e;
    puts = λ w out₀ k.
        let l : length t.out.now ≡ length out₀ = ap length k.bytes ∙ length_overwrite out₀ 0 w in
        let g : length out₀ ≤ length w = omega (arith, k.reached, l, h) in
        let m : length (w ++ (x ∷ [])) ≡ length w + 1 = length-append w (x ∷ []) in
        record {
          reached = omega (arith, a, k.reached, g, m);
          over = f ∙ sym (lt-ltb (length out₀) (length (w ++ (x ∷ []))) (omega (arith, g, m)));
          bytes = e ∙ (k.bytes ∙ (sym (set_past (overwrite out₀ 0 w) (length w) x (omega (arith, length_overwrite out₀ 0 w, g))) ∙ one_more out₀ w x));
        };
  }

pub nothing : {t : Page} → Prints [] t t
nothing {t} = record { same = refl; long = refl; puts = λ w out₀ k. subst (λ (z : List ℕ). Shows z out₀ t) (sym (append-nil w)) k }

-- x and then y
pub then : {x y : List ℕ} {t a r : Page} → Prints y a r → Prints x t a → Prints (x ++ y) t r
then {x} {y} {r = r} k₂ k₁ = record {
  same = k₂.same ∙ k₁.same;
  long = k₂.long ∙ k₁.long;
  puts = λ w out₀ k. subst (λ (z : List ℕ). Shows z out₀ r) (append_assoc w x y) (k₂.puts (w ++ x) out₀ (k₁.puts w out₀ k));
}

-- the same text by another name
pub named : {x y : List ℕ} {t r : Page} → x ≡ y → Prints x t r → Prints y t r
named {t = t} {r} e k = subst (λ (z : List ℕ). Prints z t r) e k

-- one more of the bytes s
pub bytes_next : (s : List ℕ) (t a r : Page) (i : ℕ) → Prints (take i s) t a → i < length s → Prints (get_or s i 0 ∷ []) a r → Prints (take (i + 1) s) t r
bytes_next s t a r i v h k = named (sym (take_more s i 0 h)) (then k v)
