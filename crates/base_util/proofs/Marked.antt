-- The loop of `is_distinct`: none of the n words from place i on stands twice, and each has its mark. By the marks of scan.
-- Assumes nothing.
use Prim.Native.Nat.{ℕ, suc, ◌+◌, ◌-◌, ◌%◌, ◌≤◌, ◌<◌}
use mathlib.Core.Path.{◌≡◌, sym, ap, ◌∙◌}
use mathlib.Core.Bool.{Bool, true, false}
use mathlib.Core.List.{List, [], ◌∷◌}
use native.Mathlib.Omega.{arith}
use lib.ListN.{length, take, drop, get_or, set, length-set, drop_of_length-le}
use lib.Seq.{slice-cons, length-take-le, get_or-set_same}
use Rattle.base_lists.specs.Lists.{mem, distinct}
use Rattle.base_lists.specs.Tests.{every}
use Rattle.base_lists.proofs.Choice.{split, clash}
use Rattle.base_lists.proofs.Tests.{both_true}
use Rattle.base_scan.proofs.Marks.{mark, unmarked, marks_kept, distinct_drop}
use Rattle.base_util.proofs.Parts.{slice_lent}

pub record Marking (n : ℕ) (s : List ℕ) (seen : List Bool) (i : ℕ) : Type 0 where
  pub low : i ≤ n
  pub fits : n ≤ length s
  pub size : length seen ≡ 256
  pub apart : distinct (drop i (take n s)) ≡ true
  pub marked : every (mark seen) (drop i (take n s)) ≡ true

pub mark_start : (n : ℕ) (s : List ℕ) (seen : List Bool) → n ≤ length s → length seen ≡ 256 → Marking n s seen n
unfolding distinct every
mark_start n s seen h e =
    let z : drop n (take n s) ≡ [] = drop_of_length-le (take n s) {i = n} (omega (arith, length-take-le n s h)) in
    record { low = omega arith; fits = h; size = e; apart = rw z; marked = rw z }

module _ (n : ℕ) (s : List ℕ) (seen : List Bool) (i : ℕ) (v : Marking n s seen i) (h : 0 < i) where
  abbrev x : ℕ
  x = get_or s (i - 1) 0

  abbrev later : List ℕ
  later = drop i (take n s)

  one_more : drop (i - 1) (take n s) ≡ x ∷ later
  one_more =
      let k : suc (i - 1) ≡ i = omega arith in
      slice-cons (i - 1) n s 0 (omega (arith, v.low)) v.fits ∙ ap (λ (j : ℕ). x ∷ drop j (take n s)) k

  next : mem x later ≡ false → Marking n s (set seen (x % 256) true) (i - 1)
  unfolding distinct every
  next e =
      let k : x % 256 < length seen = omega (arith, v.size) in
      record {
        low = omega (arith, v.low);
        fits = v.fits;
        size = length-set seen _ true ∙ v.size;
        apart = rw (one_more, e) v.apart;
        marked = rw one_more (both_true _ _ (get_or-set_same seen (x % 256) true false k) (marks_kept seen (x % 256) k later v.marked));
      }

  pub mark_new : mark seen x ≡ false → Marking n s (set seen (x % 256) true) (i - 1)
  mark_new e = next (unmarked seen x later v.marked e)

  -- b says whether it is among the later ones, as the code lends them
  module _ (b : Bool) (e : b ≡ mem x (take (n - (i - 1 + 1)) (drop (i - 1 + 1) s))) where
    found : b ≡ mem x later
    found =
        let q : i - 1 + 1 ≡ i = omega arith in
        e ∙ ap (λ (j : ℕ). mem x (take (n - j) (drop j s))) q ∙ ap (mem x) (slice_lent i n s v.low v.fits)

    pub mark_twice : b ≡ true → false ≡ distinct (take n s)
    unfolding distinct
    mark_twice t =
        let m : mem x later ≡ true = sym found ∙ t in
        let z : distinct (drop (i - 1) (take n s)) ≡ false = rw (one_more, m) in
        split (distinct (take n s)) (λ t. clash _ (distinct_drop (i - 1) (take n s) t) z) sym

    pub mark_once : b ≡ false → Marking n s (set seen (x % 256) true) (i - 1)
    mark_once t = next (sym found ∙ t)

pub mark_end : (n : ℕ) (s : List ℕ) (seen : List Bool) (i : ℕ) → Marking n s seen i → i ≤ 0 → true ≡ distinct (take n s)
mark_end n s seen i v h =
    let z : i ≡ 0 = omega arith in
    sym (rw z at v.apart)
