-- The loops of `subset` and `disjoint`.
-- Assumes nothing.
use Prim.Native.Nat.{ℕ, zero, suc, ◌+◌, ◌%◌, ◌≤◌, ◌<◌}
use mathlib.Core.Path.{◌≡◌, refl, sym, ap, ◌∙◌}
use mathlib.Core.Bool.{Bool, true, false, not}
use mathlib.Core.List.{List, [], ◌∷◌}
use native.Mathlib.Nat.{le_of_suc-le-suc, not-suc-le-zero}
use native.Mathlib.Omega.{arith}
use lib.ListN.{length, take, get_or, set, length-set}
use lib.Seq.{drop-cons, take_all, get_or-set_same}
use Rattle.std.proofs.lemmas.List.{take_more}
use lib.Dec.{eqb}
use borrow.Author.Tests.{eq-eqb}
use Rattle.base_lists.specs.Lists.{mem, disjoint}
use Rattle.base_lists.specs.Tests.{every}
use Rattle.base_lists.proofs.Choice.{split}
use Rattle.base_lists.proofs.Tests.{both_true, every_append}
use Rattle.base_scan.proofs.Tests.{not_in}
use Rattle.base_scan.proofs.Marks.{mark, unmarked, marks_kept}
use Rattle.base_scan.proofs.Loops.{Left, Every, disjoint_start, every_asked, every_end}

-- a word is among those of which it is one
mem_at : (s : List ℕ) (h : ℕ) → h < length s → mem (get_or s h 0) s ≡ true
unfolding mem
mem_at [] h p = absurd (not-suc-le-zero p)
mem_at (y ∷ s) zero p = rw (eq-eqb y y refl)
mem_at (y ∷ s) (suc h) p = split (eqb (get_or s h 0) y) (λ t. rw t) (λ t. rw t (mem_at s h (le_of_suc-le-suc p)))

pub at_hint : (s : List ℕ) (h x : ℕ) → h < length s → x ≡ get_or s h 0 → true ≡ mem x s
at_hint s h x p e = sym (ap (λ (y : ℕ). mem y s) e ∙ mem_at s h p)

-- ---- the words before place i are marked

pub record Noting (s : List ℕ) (seen : List Bool) (i : ℕ) : Type 0 where
  pub size : length seen ≡ 256
  pub marked : every (mark seen) (take i s) ≡ true

pub noting_start : (s : List ℕ) (seen : List Bool) → length seen ≡ 256 → Noting s seen 0
unfolding every
noting_start s seen e = record { size = e; marked = refl }

module _ (s : List ℕ) (seen : List Bool) (i : ℕ) (v : Noting s seen i) where
  pub noting_next : i < length s → Noting s (set seen (get_or s i 0 % 256) true) (i + 1)
  unfolding every
  noting_next h =
      let x = get_or s i 0 in
      let q : x % 256 < length seen = omega (arith, v.size) in
      record {
        size = length-set seen _ true ∙ v.size;
        marked = ap (every (mark (set seen (x % 256) true))) (take_more s i 0 h)
            ∙ every_append (mark (set seen (x % 256) true)) (take i s) (x ∷ [])
            ∙ both_true _ _ (marks_kept seen (x % 256) q (take i s) v.marked) (both_true _ _ (get_or-set_same seen (x % 256) true false q) refl);
      }

  pub noting_end : length s ≤ i → every (mark seen) s ≡ true
  noting_end h = ap (every (mark seen)) (sym (take_all i s h)) ∙ v.marked

-- ---- none of the words passed is in b

pub record Passing (a b : List ℕ) (seen : List Bool) (i : ℕ) : Type 0 where
  pub size : length seen ≡ 256
  pub marked : every (mark seen) b ≡ true
  pub left : Left (Every (not_in b)) a (disjoint a b) true i

pub passing_start : (a b : List ℕ) (seen : List Bool) → length seen ≡ 256 → every (mark seen) b ≡ true → Passing a b seen 0
passing_start a b seen e m = record { size = e; marked = m; left = disjoint_start a b }

module _ (a b : List ℕ) (seen : List Bool) (i : ℕ) (v : Passing a b seen i) where
  pass : i < length a → mem (get_or a i 0) b ≡ false → Passing a b seen (i + 1)
  pass h e = record { size = v.size; marked = v.marked; left = every_asked (not_in b) a (disjoint a b) true i v.left true (sym (ap not e)) h }

  pub pass_unmarked : i < length a → mark seen (get_or a i 0) ≡ false → Passing a b seen (i + 1)
  pass_unmarked h e = pass h (unmarked seen (get_or a i 0) b v.marked e)

  module _ (r : Bool) (e : r ≡ mem (get_or a i 0) b) (h : i < length a) where
    pub pass_looked : r ≡ false → Passing a b seen (i + 1)
    pass_looked t = pass h (sym e ∙ t)

    pub stop : r ≡ true → false ≡ disjoint a b
    unfolding every
    stop t =
        let f : false ≡ not (mem (get_or a i 0) b) = sym (ap not (sym e ∙ t)) in
        sym (v.left.same ∙ ap (every (not_in b)) (drop-cons a i 0 h) ∙ rw (← f))

  pub pass_end : length a ≤ i → true ≡ disjoint a b
  pass_end h = every_end (not_in b) a (disjoint a b) true i v.left h
