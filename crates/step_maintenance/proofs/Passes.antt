-- The passes of a node that knows a peer.
-- Assumes nothing.
use Prim.Native.Nat.{ℕ}
use mathlib.Core.Path.{◌≡◌, refl, sym, ap, ◌∙◌, subst}
use mathlib.Core.Bool.{Bool, true, false, ◌&&◌}
use mathlib.Core.List.{List, []}
use native.Mathlib.Omega.{arith}
use lib.ListN.{get_or}
use lib.Dec.{eqb}
use Rattle.base_lists.specs.Lists.{null}
use Rattle.base_lists.proofs.Choice.{by_choice}
use Rattle.base_timing.specs.Timing.{backoff_due}
use Rattle.base_util.specs.Section.{items_at}
use Rattle.base_util.proofs.Parts.{part_read}
use Rattle.base_util.proofs.Sets.{empty_is_null}
use Rattle.spec_hyparview.specs.Station.{Refill, is_alone, is_short, is_recovery}
use Rattle.spec_hyparview.specs.Setters.{set_passes_alone}
use Rattle.spec_hyparview.specs.Run.{Run, guard, on}
use Rattle.spec_hyparview.specs.Refill.{few_requests, end_recovery, start_refill}
use Rattle.spec_hyparview.specs.Active.{clear_refused}
use Rattle.spec_hyparview.specs.Timers.{count_short, refill_anew, refill_if_due, in_recovery, pass_short, pass_neighbors, pass_known, not_alone, knows_none, pass_alone, maintain}
use Rattle.hyparview_state.specs.declared.RefillLimit.{RefillLimit}
use Rattle.hyparview_state.specs.declared.RefillLimit.TheVariants.{Recovery}
use Rattle.work.specs.declared.Work.{Work}
use Rattle.hyparview_state.specs.Layout.{passive_part, passes_short, passive_at, passive_count, passive_places, passive_size}
use Rattle.hyparview_state.specs.Unpack.{unpack, station_of, refill_in, limit_at, PackedState}
use Rattle.hyparview_state.proofs.Access.{of_passive}
use Rattle.hyparview_state.specs.Work.{Held, work_of, run, run_of, Changes, Fine, Does}
use Rattle.hyparview_state.proofs.Bridge.{on_twice, change_then, still, then, seq, seq_at, taken, left, holds_at}

-- ---- refills

pub refilled_anew : (w a r : Work) (xs ys zs ds out o : List ℕ) (limit : RefillLimit) → Fine (work_of w xs) ds out → refill_in limit ≡ few_requests
    → Does (work_of r zs) ds o (start_refill (refill_in limit) [] (run (work_of a ys) ds out)) → Changes (on clear_refused) (work_of w xs) (work_of a ys) → Does (work_of r zs) ds o (refill_anew (run (work_of w xs) ds out))
unfolding refill_anew
refilled_anew w a r xs ys zs ds out o limit v e k₂ k₁ = seq_at (λ (l : Refill). start_refill l []) e k₂ (then k₁ (still v))

module _ (w : Work) (xs ds out : List ℕ) (t : Bool) (e : t ≡ backoff_due (passes_short xs)) where
  due : {b : Bool} → t ≡ b → backoff_due (run (work_of w xs) ds out).station.passes_short ≡ b
  unfolding run_of unpack station_of
  due h = sym e ∙ h

  pub refill_due : (r : Work) (ys o : List ℕ) → t ≡ true → Does (work_of r ys) ds o (refill_anew (run (work_of w xs) ds out)) → Does (work_of r ys) ds o (refill_if_due (run (work_of w xs) ds out))
  unfolding refill_if_due
  refill_due r ys o h k = taken _ _ (due h) k

  pub refill_not_due : Fine (work_of w xs) ds out → t ≡ false → Does (work_of w xs) ds out (refill_if_due (run (work_of w xs) ds out))
  unfolding refill_if_due
  refill_not_due v h = left _ _ (due h) (still v)

-- ---- tests

pub recovery_known : (xs : List ℕ) (l : RefillLimit) (t : Bool) → l ≡ limit_at xs → t ≡ is_recovery (refill_in l) → t ≡ in_recovery (unpack xs)
unfolding in_recovery unpack station_of
recovery_known xs l t e h = h ∙ ap (λ (x : RefillLimit). is_recovery (refill_in x)) e

-- the count of the passive view, as it stands in the words
none_passive : (xs : List ℕ) → PackedState xs → eqb (get_or xs passive_count 0) 0 ≡ null (items_at passive_places (passive_part xs))
none_passive xs v = ap (λ (n : ℕ). eqb n 0) (sym (part_read passive_at passive_size passive_places xs (omega arith))) ∙ empty_is_null passive_places (passive_part xs) (of_passive xs v)

pub none_known : (xs : List ℕ) (a : Bool) → PackedState xs → a ≡ is_alone (unpack xs) → (a && eqb (get_or xs passive_count 0) 0) ≡ knows_none (unpack xs)
unfolding knows_none is_alone unpack station_of
none_known xs a v x = λ i. x i && none_passive xs v i

-- ---- the branches of a pass

module _ (w : Work) (xs ds out : List ℕ) (t : Bool) (v : Fine (work_of w xs) ds out) where
  pub paused : t ≡ in_recovery (unpack xs) → t ≡ true → Does (work_of w xs) ds out (pass_short (run (work_of w xs) ds out))
  unfolding pass_short
  paused e h = taken _ _ (holds_at (work_of w xs) ds out in_recovery e h) (still v)

  pub passed_short : (a r : Work) (ys zs o : List ℕ) → t ≡ in_recovery (unpack xs) → t ≡ false → Does (work_of r zs) ds o (refill_if_due (run (work_of a ys) ds out)) → Changes count_short (work_of w xs) (work_of a ys)
      → Does (work_of r zs) ds o (pass_short (run (work_of w xs) ds out))
  unfolding pass_short
  passed_short a r ys zs o e h k₂ k₁ = left _ _ (holds_at (work_of w xs) ds out in_recovery e h) (seq refill_if_due k₂ (then k₁ (still v)))

  pub short_passed : (r : Work) (ys o : List ℕ) → t ≡ is_short (unpack xs) → t ≡ true → Does (work_of r ys) ds o (pass_short (run (work_of w xs) ds out)) → Does (work_of r ys) ds o (pass_neighbors (run (work_of w xs) ds out))
  unfolding pass_neighbors
  short_passed r ys o e h k = taken _ _ (holds_at (work_of w xs) ds out is_short e h) k

  pub enough_passed : (r : Work) (ys : List ℕ) → t ≡ is_short (unpack xs) → t ≡ false → Changes (on clear_refused) (work_of w xs) (work_of r ys) → Does (work_of r ys) ds out (pass_neighbors (run (work_of w xs) ds out))
  unfolding pass_neighbors
  enough_passed r ys e h k = left _ _ (holds_at (work_of w xs) ds out is_short e h) (then k (still v))

  pub recovers : (r : Work) (ys o : List ℕ) → t ≡ is_alone (unpack xs) → t ≡ true → Does (work_of r ys) ds o (start_refill (refill_in Recovery) [] (run (work_of w xs) ds out)) → Does (work_of r ys) ds o (pass_known (run (work_of w xs) ds out))
  unfolding pass_known refill_in
  recovers r ys o e h k = taken _ _ (holds_at (work_of w xs) ds out is_alone e h) k

  pub neighbors_passed : (r : Work) (ys o : List ℕ) → t ≡ is_alone (unpack xs) → t ≡ false → Does (work_of r ys) ds o (pass_neighbors (run (work_of w xs) ds out)) → Does (work_of r ys) ds o (pass_known (run (work_of w xs) ds out))
  unfolding pass_known
  neighbors_passed r ys o e h k = left _ _ (holds_at (work_of w xs) ds out is_alone e h) k

  pub maintained_alone : (r : Work) (ys o : List ℕ) → t ≡ knows_none (unpack xs) → t ≡ true → Does (work_of r ys) ds o (pass_alone (run (work_of w xs) ds out)) → Does (work_of r ys) ds o (maintain (run (work_of w xs) ds out))
  unfolding maintain
  maintained_alone r ys o e h k = taken _ _ (holds_at (work_of w xs) ds out knows_none e h) k

  pub maintained : (a r : Work) (ys zs o : List ℕ) → t ≡ knows_none (unpack xs) → t ≡ false → Does (work_of r zs) ds o (pass_known (run (work_of a ys) ds out)) → Changes (on not_alone) (work_of w xs) (work_of a ys)
      → Does (work_of r zs) ds o (maintain (run (work_of w xs) ds out))
  unfolding maintain
  maintained a r ys zs o e h k₂ k₁ = left _ _ (holds_at (work_of w xs) ds out knows_none e h) (seq pass_known k₂ (then k₁ (still v)))

-- ---- two changes are one

pub knows_some : (w a r : Held) → Changes (on end_recovery) a r → Changes (on (set_passes_alone 0)) w a → Changes (on not_alone) w r
unfolding not_alone
knows_some w a r k₂ k₁ = change_then {f = on (set_passes_alone 0)} {g = on end_recovery} (on not_alone) (λ ds out. on_twice (set_passes_alone 0) end_recovery (run w ds out)) k₂ k₁

-- the same words
pub words_as : (f : Run → Run) (w : Held) (a : Work) (xs ys : List ℕ) → ys ≡ xs → Changes f w (work_of a xs) → Changes f w (work_of a ys)
words_as f w a xs ys e k = subst (λ (l : List ℕ). Changes f w (work_of a l)) (sym e) k

-- a pass leaves the neighbors as they are before it asks anyone
alone_as : (g : Run) → is_alone (on not_alone g).station ≡ is_alone g.station
unfolding on guard not_alone end_recovery is_alone
alone_as g = by_choice (λ (x : Run). null x.station.active ≡ null g.station.active) (eqb g.code 0) (λ t. refl) (λ t. refl)

pub alone_still : (w r : Work) (xs ys : List ℕ) (t : Bool) → Changes (on not_alone) (work_of w xs) (work_of r ys) → t ≡ is_alone (unpack xs) → t ≡ is_alone (unpack ys)
unfolding run_of
alone_still w r xs ys t k e = e ∙ sym (ap (λ (g : Run). is_alone g.station) (k.same [] []) ∙ alone_as (run (work_of w xs) [] []))
