-- Marks by the low byte: an item without its mark is in no list whose items are all marked.
-- Assumes nothing.
use Prim.Native.Nat.{ℕ, zero, suc, ◌%◌, ◌<◌}
use mathlib.Core.Path.{◌≡◌, refl, ap, ◌∙◌}
use mathlib.Core.Bool.{Bool, true, false, not}
use mathlib.Core.List.{List, [], ◌∷◌}
use lib.ListN.{length, drop, get_or, set}
use lib.Seq.{get_or-set_same, get_or-set_other}
use lib.Dec.{eqb}
use borrow.Author.Tests.{eqb-true, eqb-false}
use Rattle.base_lists.specs.Lists.{mem, distinct}
use Rattle.base_lists.specs.Tests.{every}
use Rattle.base_lists.proofs.Choice.{split, clash, and_left, and_right}
use Rattle.base_lists.proofs.Tests.{both_true}

abbrev pub mark : List Bool → ℕ → Bool
mark seen x = get_or seen (x % 256) false

pub unmarked : (seen : List Bool) (x : ℕ) (l : List ℕ) → every (mark seen) l ≡ true → mark seen x ≡ false → mem x l ≡ false
unfolding every mem
unmarked seen x [] e f = refl
unmarked seen x (p ∷ l) e f =
    split (eqb x p) (λ t. clash (mark seen x) (ap (mark seen) (eqb-true x p t) ∙ and_left (mark seen p) _ e) f)
    (λ t. rw t (unmarked seen x l (and_right (mark seen p) _ e) f))

-- a mark more takes none away
module _ (seen : List Bool) (k : ℕ) (h : k < length seen) where
  mark_kept : (y : ℕ) → mark seen y ≡ true → mark (set seen k true) y ≡ true
  mark_kept y e =
      split (eqb (y % 256) k)
      (λ t. ap (λ (j : ℕ). get_or (set seen k true) j false) (eqb-true (y % 256) k t) ∙ get_or-set_same seen k true false h)
      (λ t. get_or-set_other seen k (y % 256) true false (eqb-false (y % 256) k t) ∙ e)

  pub marks_kept : (l : List ℕ) → every (mark seen) l ≡ true → every (mark (set seen k true)) l ≡ true
  unfolding every
  marks_kept [] e = refl
  marks_kept (y ∷ l) e =
      both_true (mark (set seen k true) y) _ (mark_kept y (and_left (mark seen y) _ e)) (marks_kept l (and_right (mark seen y) _ e))

-- the later items of a list in which none stands twice
pub distinct_drop : (k : ℕ) (l : List ℕ) → distinct l ≡ true → distinct (drop k l) ≡ true
unfolding distinct
distinct_drop zero l e = e
distinct_drop (suc k) [] e = e
distinct_drop (suc k) (x ∷ l) e = distinct_drop k l (and_right (not (mem x l)) _ e)
