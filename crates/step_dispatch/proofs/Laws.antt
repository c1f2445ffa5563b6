-- Laws of what an event starts from, of its first timers and of the steps in a row.
-- Assumes nothing.
use Prim.Native.Nat.{ℕ, ◌≤◌}
use Rattle.record.specs.Kinds.{Quit, kind_byte, DoMaintenance}
use Rattle.step_dispatch.specs.Begun.{Opens}
use Rattle.spec_hyparview.proofs.Keeping.{ease}
use Rattle.spec_hyparview.specs.Budgets.{arriving}
use Rattle.spec_hyparview.specs.Handle.{note_scheduled, first_timers, dispatch, forget_declined, steps}
use Rattle.base_timing.specs.Timing.{maintenance_interval}
use Rattle.spec_hyparview.specs.Run.{Run, on, emit, timer}
use Rattle.spec_hyparview.specs.Timers.{schedule_shuffle, schedule_maintenance}
use Rattle.record.specs.Format.{Rec}
use Rattle.hyparview_state.proofs.Any.{then_tell_any}
use Rattle.hyparview_state.proofs.Bridge.{on_passed, on_done, emit_passed, still, taken, left, then, then_tell, seq}
use Rattle.hyparview_state.proofs.Fields.{put_scheduled}
use Rattle.hyparview_state.specs.Layout as layout
use Rattle.hyparview_state.specs.Layout.{timers_scheduled_at}
use Rattle.hyparview_state.specs.Unpack.{station_of, unpack}
use Rattle.hyparview_state.specs.Work.{Held, work_of, run, run_of, Changes, Fine, Does, TellsAny}
use Rattle.work.specs.declared.Work.{Work}
use Rattle.step_events.specs.Free.{KnownJoins}
use Rattle.step_messages.specs.Between.{Between}
use Rattle.base_lists.proofs.Choice.{split, and_left, and_right, and_false}
use Rattle.step_sending.proofs.Told.{room_of}
use Rattle.step_timers.proofs.Shuffles.{not_scheduled}
use Rattle.base_util.specs.Section.{part}
use borrow.Author.Tests.{eqb-true, eqb-false}
use lib.Dec.{eqb}
use lib.ListN.{length, set}
use mathlib.Core.Bool.{Bool, true, false, not, ◌&&◌}
use mathlib.Core.List.{List}
use mathlib.Core.Path.{◌≡◌, refl, sym, ◌∙◌, subst}
use native.Mathlib.Omega.{arith}

is_no : (x : Bool) → not x ≡ true → x ≡ false
is_no true z = sym z
is_no false z = refl

is_yes : (x : Bool) → not x ≡ false → x ≡ true
is_yes true z = refl
is_yes false z = sym z

pub between_less : (b c d e : ℕ) (g : Run) → c ≤ b → e ≤ d → Between 0 b d g → Between 0 c e g
between_less b c d e g l m k = record { fixed = k.fixed; messages = k.messages; bytes = k.bytes; draws = k.draws; ok = ease (omega arith) (omega arith) (omega arith) k.ok }

pub opens_between : (x : ℕ) (g : Run) (k : ℕ) → x ≡ k → (k ≡ kind_byte Quit → ⊥) → Opens x g → Between 0 arriving 40 g
opens_between x g k e n o = o.between (λ z. n (sym e ∙ z))

pub opens_join : (x : ℕ) (w : Work) (xs ds out : List ℕ) (k : ℕ) → x ≡ k → (k ≡ kind_byte Quit → ⊥) → Opens x (run (work_of w xs) ds out) → KnownJoins w.code (unpack xs)
unfolding run_of
opens_join x w xs ds out k e n o =
    let b = opens_between x (run (work_of w xs) ds out) k e n o in
    record { known = λ z. (b.ok.good z).core.waits.known; once = λ z. (b.ok.good z).core.waits.boots; few = λ z. (b.ok.good z).core.waits.few }

module _ (w : Work) (xs ds out : List ℕ) (v : Fine (work_of w xs) ds out) where
  timers_run : eqb (layout.timers_scheduled xs) 1 ≡ true → Does (work_of w xs) ds out (first_timers (run (work_of w xs) ds out))
  unfolding first_timers run_of unpack station_of
  timers_run h = taken _ _ h (still v)

  maintenance_rests : (w.code ≡ 0 → ⊥) → Does (work_of w xs) ds out (schedule_maintenance (run (work_of w xs) ds out))
  unfolding schedule_maintenance
  maintenance_rests h = then_tell (emit_passed w xs out _ (room_of _ _ _ v) h) (still v)

  -- where a code is set, no timer is started
  timers_rest : (w.code ≡ 0 → ⊥) → Does (work_of w xs) ds out (first_timers (run (work_of w xs) ds out))
  unfolding first_timers
  timers_rest h =
      split (run (work_of w xs) ds out).station.scheduled (λ t. taken _ _ t (still v))
      (λ t. left _ _ t (seq schedule_maintenance (maintenance_rests h) (seq schedule_shuffle (not_scheduled w xs ds out v h) (then (on_passed (work_of w xs) v.ready.packed note_scheduled h) (still v)))))

  pub noted : w.code ≡ 0 → Changes (on note_scheduled) (work_of w xs) (work_of w (set xs layout.timers_scheduled_at 1))
  unfolding note_scheduled unpack station_of part
  noted h = on_done (work_of w xs) v.ready.packed _ _ h (put_scheduled true)

  timers_start : (b r : Work) (zs o o₂ : List ℕ) → eqb (layout.timers_scheduled xs) 1 ≡ false → w.code ≡ 0 → TellsAny (emit (timer (kind_byte DoMaintenance) 0 maintenance_interval 0)) b r o o₂ → Does (work_of b zs) ds o (schedule_shuffle (run (work_of w (set xs layout.timers_scheduled_at 1)) ds out))
      → Does (work_of r zs) ds o₂ (first_timers (run (work_of w xs) ds out))
  unfolding first_timers run_of unpack station_of schedule_maintenance
  timers_start b r zs o o₂ h z k₃ k₂ = left _ _ h (then_tell_any _ k₃ (seq schedule_shuffle k₂ (then (noted z) (still v))))

-- the work a with the words zs and the output o is what the first timers make of the work w with xs and out
pub record Timed (w : Work) (xs ds out : List ℕ) (a : Work) (zs o : List ℕ) : Type 0 where
  pub room : length o ≡ length out
  pub does : Does (work_of a zs) ds o (first_timers (run (work_of w xs) ds out))

module _ (w : Work) (xs ds out : List ℕ) (v : Fine (work_of w xs) ds out) (a : Work) (zs o : List ℕ) where
  pub timed_rest : zs ≡ xs → o ≡ out → a ≡ w → (eqb w.code 0 && not (eqb (layout.timers_scheduled xs) 1)) ≡ false → Timed w xs ds out a zs o
  timed_rest p q s t =
      subst (λ (x : Work). Timed w xs ds out x zs o) (sym s) (subst (λ (x : List ℕ). Timed w xs ds out w x o) (sym p) (subst (λ (x : List ℕ). Timed w xs ds out w xs x) (sym q)
      (record {
        room = refl;
        does = and_false (eqb w.code 0) _ t (λ z. timers_rest w xs ds out v (eqb-false _ _ z)) (λ z. timers_run w xs ds out v (is_yes _ z));
      })))

  pub timed_start : (b r : Work) (ys o₁ o₂ : List ℕ) → zs ≡ ys → o ≡ o₂ → a ≡ r → (eqb w.code 0 && not (eqb (layout.timers_scheduled xs) 1)) ≡ true → length o₁ ≡ length out → length o₂ ≡ length o₁
      → TellsAny (emit (timer (kind_byte DoMaintenance) 0 maintenance_interval 0)) b r o₁ o₂ → Does (work_of b ys) ds o₁ (schedule_shuffle (run (work_of w (set xs layout.timers_scheduled_at 1)) ds out)) → Timed w xs ds out a zs o
  timed_start b r ys o₁ o₂ p q s t n n₂ k₂ k₁ =
      subst (λ (x : Work). Timed w xs ds out x zs o) (sym s) (subst (λ (x : List ℕ). Timed w xs ds out r x o) (sym p) (subst (λ (x : List ℕ). Timed w xs ds out r ys x) (sym q)
      (record {
        room = n₂ ∙ n;
        does = timers_start w xs ds out v b r ys o₁ o₂ (is_no _ (and_right (eqb w.code 0) _ t)) (eqb-true _ _ (and_left _ _ t)) k₂ k₁;
      })))

pub stepped : (w a b r : Held) (ds out o₁ o : List ℕ) (e : Rec) → Changes (on forget_declined) b r → Does b ds o (first_timers (run a ds o₁)) → Does a ds o₁ (dispatch e (run w ds out)) → Does r ds o (steps e (run w ds out))
unfolding steps
stepped w a b r ds out o₁ o e k₃ k₂ k₁ = then k₃ (seq first_timers k₂ k₁)
