-- 02, S-14: the neighbours without a pin have no repeats, so that places and peers are one; the claims of S-6 on places carry over.
-- Assumes nothing.
use Prim.Native.Nat.{ℕ, zero, suc, ◌-◌, ◌≤◌, ◌<◌}
use mathlib.Core.Path.{◌≡◌, refl, sym, ap, subst, ◌∙◌}
use mathlib.Core.Bool.{Bool, true, false, ◌&&◌}
use mathlib.Core.List.{List, [], ◌∷◌, ◌++◌}
use native.Mathlib.Omega.{arith}
use lib.ListN.{length, get_or}
use lib.Dec.{eqb}
use borrow.Author.Tests.{leb-true, eqb-true, eqb-false, eq-eqb, ne_eqb}
use Rattle.base_lists.specs.Lists.{choose, null, count, mem, distinct, subset, without_all, index_of}
use Rattle.base_lists.proofs.Choice.{split, and_right, choose_yes, choose_no}
use Rattle.base_lists.proofs.Count.{is_self, mem_true, count_at, index_lt, index_at}
use Rattle.base_lists.proofs.Members.{null_yes, null_no}
use Rattle.base_lists.proofs.Tests.{and_no}
use Rattle.base_lists.proofs.Skips.{without_none, few_taken, count_left, count_skipped}
use Rattle.base_util.specs.Chances.{all_draws, is_kept, pick}
use Rattle.base_util.specs.Equal.{count_below, decides}
use Rattle.base_util.proofs.Chances.{pick_below}
use Rattle.base_util.proofs.Equal.{sum_same, sum_nothing, equal_chances}
use Rattle.spec_hyparview.specs.Station.{Station, is_alone, active_is_full, most_pins, without_pin}
use Rattle.spec_hyparview.specs.Run.{to_draw, one_of, picked, draw_one_of}
use Rattle.spec_hyparview.specs.Active as A
use Rattle.spec_hyparview.specs.Rules.{settings_rule, pins_rule}
use Rattle.spec_hyparview.specs.Pins.{FindsOne, OldWithoutPins, demotes, EqualDemotions, PinnedNeverPicked}
use Rattle.spec_hyparview.proofs.Tested.{distinct_true, ranges_of}

pub finds_one : FindsOne
unfolding active_is_full settings_rule pins_rule most_pins without_pin
finds_one s set once pin full =
    let cap = s.config.active_view_capacity in
    let few = leb-true (length s.pins) (cap - 1) (and_right (subset s.pins s.active) _ pin) in
    split (null (without_pin s))
    (λ e. absurd (omega (arith, leb-true cap (length s.active) full, (ranges_of s.config set).some_slot, few, few_taken s.pins s.active (distinct_true s.active once), null_yes (without_pin s) e)))
    (λ e. e)

-- in a list without repeats an item has one place
one_place : (xs : List ℕ) (j : ℕ) → ((x : ℕ) → count x xs ≤ 1) → j < length xs → index_of (get_or xs j 0) xs ≡ j
unfolding index_of count
one_place [] j h l = absurd (omega arith)
one_place (q ∷ xs) zero h l = rw (eq-eqb q q refl) refl
one_place (q ∷ xs) (suc j) h l =
    let x = get_or xs j 0 in
    let other : x ≡ q → ⊥ = (λ e. omega (arith, h q, is_self q, subst (λ (y : ℕ). 1 ≤ count y xs) e (count_at xs j (omega arith)))) in
    rw (ne_eqb x q other) (ap suc (one_place xs j (λ y. omega (arith, h y)) (omega arith)))

pub old_without_pins : OldWithoutPins
unfolding A.free_random_slot_in_active_view A.remove_picked without_pin picked one_of is_alone
old_without_pins r ok e =
    let act = r.station.active in
    let n = length act in
    let free : without_pin r.station ≡ act = ap (λ (l : List ℕ). without_all l act) e ∙ without_none act in
    (λ i. choose (null (free i)) r (A.remove_active_by_index (index_of (get_or (free i) (pick (length (free i)) (to_draw r)) 0) act) A.random (draw_one_of (length (free i)) r)))
    ∙ split (null act) (λ t. choose_yes (null act) r _ t ∙ sym (choose_yes (null act) r _ t))
    (λ t. ap (λ (i : ℕ). choose (null act) r (A.remove_active_by_index i A.random (draw_one_of n r))) (one_place act (pick n (to_draw r)) (distinct_true act ok) (pick_below n (to_draw r) (null_no act t))))

module _ (s : Station) (p : ℕ) (over more : List ℕ) where
  abbrev free : List ℕ
  free = without_pin s

  abbrev place_by : ℕ → ℕ
  place_by d = pick (length free) (over ++ (d ∷ more))

  -- p is picked where its place is
  same_test : distinct s.active ≡ true → mem p free ≡ true → (d : ℕ) → ◌≡◌ {A = ℕ} (choose (demotes s p over more d) 1 0) (choose (decides (length free) (index_of p free) over more d) 1 0)
  unfolding demotes decides without_pin
  same_test ok m d =
      let once : (x : ℕ) → count x free ≤ 1 = (λ x. omega (arith, distinct_true s.active ok x, count_left x s.pins s.active)) in
      let l : place_by d < length free = pick_below (length free) (over ++ (d ∷ more)) (omega (arith, index_lt p free m)) in
      let same : eqb (get_or free (place_by d) 0) p ≡ eqb (place_by d) (index_of p free) =
      split (eqb (place_by d) (index_of p free))
      (λ e. eq-eqb _ _ (ap (λ (i : ℕ). get_or free i 0) (eqb-true _ _ e) ∙ index_at p free m) ∙ sym e)
      (λ e. ne_eqb _ _ (λ q. eqb-false _ _ e (sym (one_place free (place_by d) once l) ∙ ap (λ (x : ℕ). index_of x free) q)) ∙ sym e) in
      ap (λ (b : Bool). choose {A = ℕ} (is_kept (length free) d && b) 1 0) same

  -- a pinned one is not among those that can be picked
  none_picked : null free ≡ false → mem p s.pins ≡ true → (d : ℕ) → ◌≡◌ {A = ℕ} (choose (demotes s p over more d) 1 0) 0
  unfolding demotes without_pin
  none_picked t m d =
      let l = pick_below (length free) (over ++ (d ∷ more)) (null_no free t) in
      let other : get_or free (place_by d) 0 ≡ p → ⊥ =
      (λ q. omega (arith, count_at free (place_by d) l, subst (λ (x : ℕ). count x free ≡ 0) (sym q) (count_skipped p s.pins s.active (mem_true p s.pins m)))) in
      choose_no {A = ℕ} _ 1 0 (ap (λ (b : Bool). is_kept (length free) d && b) (ne_eqb _ _ other) ∙ and_no (is_kept (length free) d))

pub equal_demotions : EqualDemotions
unfolding count_below
equal_demotions s ok p over more h m =
    sum_same _ _ all_draws (λ d _. same_test s p over more ok m d) ∙ equal_chances (length (without_pin s)) (index_of p (without_pin s)) (index_lt p (without_pin s) m) over more h

pub pinned_never_picked : PinnedNeverPicked
unfolding count_below
pinned_never_picked s p over more t m = sum_nothing _ all_draws (λ d _. none_picked s p over more t m d)
