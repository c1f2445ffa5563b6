-- Two columns that lie side by side: both are put back.
-- Assumes nothing.
use Prim.Native.Nat.{ℕ, ◌+◌, ◌-◌, ◌<◌}
use mathlib.Core.Path.{◌≡◌, sym, ap, ◌∙◌, subst}
use mathlib.Core.List.{List}
use native.Mathlib.Omega.{arith}
use lib.ListN.{length, take}
use borrow.Rule.Slice.PartMut.{put_mid}
use Rattle.base_lists.specs.Array.{pad}
use Rattle.base_lists.specs.Lists.{shift_remove, insert_at}
use Rattle.base_lists.proofs.Array.{length_pad}
use Rattle.base_util.specs.Section.{part, Filled}
use Rattle.base_util.proofs.Parts.{part_long, part_put, part_before, put_long, first_put_long, after_first}
use Rattle.base_columns.specs.Columns.{Two}

module _ (n : ℕ) (s ys xs : List ℕ) (l : length s ≡ n + n) (o : ys ≡ pad 0 (length (part 0 n s)) xs) where
  two_first : ys ≡ pad 0 n xs
  two_first = rw (part_long 0 n s (omega arith)) at o

  two_first_long : length ys ≡ n
  two_first_long = ap length two_first ∙ length_pad 0 n xs

  two_once_long : length (put_mid 0 n s ys) ≡ n + n
  two_once_long = first_put_long n s ys (omega arith) two_first_long ∙ l

  two_second : part n (n + n - n) (put_mid 0 n s ys) ≡ part n n s
  two_second =
      let d : n + n - n ≡ n = omega arith in
      ap (λ (k : ℕ). part n k (put_mid 0 n s ys)) d ∙ after_first n n s ys (omega arith) two_first_long

  pub two_filled : (k : ℕ) → Filled (part n n s) k → Filled (part n (n + n - n) (put_mid 0 n s ys)) k
  two_filled k f = subst (λ (t : List ℕ). Filled t k) (sym two_second) f

  pub two_fits : (k : ℕ) → k < n → k < length (part n (n + n - n) (put_mid 0 n s ys))
  two_fits k h = omega (arith, ap length two_second ∙ part_long n n s (omega arith))

  module _ (zs : List ℕ) (k : ℕ) (f : List ℕ → List ℕ) (q : zs ≡ pad 0 (length (part n (n + n - n) (put_mid 0 n s ys))) (f (take k (part n (n + n - n) (put_mid 0 n s ys))))) where
    two_made : zs ≡ pad 0 n (f (take k (part n n s)))
    two_made =
        q ∙ (λ a. pad 0 (length (two_second a)) (f (take k (two_second a))))
        ∙ ap (λ (j : ℕ). pad 0 j (f (take k (part n n s)))) (part_long n n s (omega arith))

    two_long : length zs ≡ n
    two_long = ap length two_made ∙ length_pad 0 n (f (take k (part n n s)))

    two_stored : Two n (put_mid n (n + n - n) (put_mid 0 n s ys) zs) xs (f (take k (part n n s)))
    two_stored =
        let d : n + n - n ≡ n = omega arith in
        let b : List ℕ = put_mid n (n + n - n) (put_mid 0 n s ys) zs in
        let w : part n (n + n - n) b ≡ zs = part_put n (n + n - n) (put_mid 0 n s ys) zs (omega (arith, two_once_long)) (two_long ∙ sym d) in
        record {
          long = put_long n (n + n) (put_mid 0 n s ys) zs (omega arith) (omega (arith, two_once_long)) (omega (arith, two_long)) ∙ two_once_long;
          first = part_before 0 n n (n + n - n) (put_mid 0 n s ys) zs (omega arith) (omega (arith, two_once_long)) ∙ part_put 0 n s ys (omega arith) two_first_long ∙ two_first;
          second = ap (λ (j : ℕ). part n j b) (sym d) ∙ w ∙ two_made;
        }

module _ (n : ℕ) (s ys zs : List ℕ) (k i : ℕ) (l : length s ≡ n + n) where
  pub two_out : ys ≡ pad 0 (length (part 0 n s)) (shift_remove i (take k (part 0 n s))) → zs ≡ pad 0 (length (part n (n + n - n) (put_mid 0 n s ys))) (shift_remove i (take k (part n (n + n - n) (put_mid 0 n s ys))))
      → Two n (put_mid n (n + n - n) (put_mid 0 n s ys) zs) (shift_remove i (take k (part 0 n s))) (shift_remove i (take k (part n n s)))
  two_out o q = two_stored n s ys _ l o zs k (shift_remove i) q

  pub two_in : (x y : ℕ) → ys ≡ pad 0 (length (part 0 n s)) (insert_at i x (take k (part 0 n s))) → zs ≡ pad 0 (length (part n (n + n - n) (put_mid 0 n s ys))) (insert_at i y (take k (part n (n + n - n) (put_mid 0 n s ys))))
      → Two n (put_mid n (n + n - n) (put_mid 0 n s ys) zs) (insert_at i x (take k (part 0 n s))) (insert_at i y (take k (part n n s)))
  two_in x y o q = two_stored n s ys _ l o zs k (insert_at i y) q

pub two_inside : (n : ℕ) (s : List ℕ) → length s ≡ n + n → n ≡ length (part 0 n s)
two_inside n s l = sym (part_long 0 n s (omega arith))

pub two_room : (n : ℕ) (s : List ℕ) (k : ℕ) → length s ≡ n + n → k < n → k < length (part 0 n s)
two_room n s k l h = omega (arith, part_long 0 n s (omega arith))
