-- The terms that prove a step, of crate work.
-- Assumes nothing.
use Prim.Native.Nat.{ℕ, ◌≤◌}
use mathlib.Core.Path.{◌≡◌}
use mathlib.Core.Bool.{Bool, true}
use mathlib.Core.List.{List}
use Rattle.spec_hyparview.specs.Station.{Station}
use Rattle.spec_hyparview.specs.Run.{require}
use Rattle.work.proofs.Bridge as work
pub use Rattle.work.proofs.Bridge.{guard_shut, guard_open, on_twice, on_passed, on_done, emit_passed, unchanged, change_by, change_then, change_yes, change_no, telling, tell_by, tell_then, tell_yes, tell_no, still, by, then, then_draw, then_tell, seq, seq_at, taken, left}
use Rattle.hyparview_state.specs.Unpack.{unpack, station_form}
use Rattle.hyparview_state.specs.Work.{Held, run, Changes}

-- what a test in code said, of the run's station
pub holds_at : (w : Held) (ds out : List ℕ) {t b : Bool} (f : Station → Bool) → t ≡ f (unpack w.state) → t ≡ b → f (run w ds out).station ≡ b
holds_at = work.holds_at station_form

-- what is read of the state is read of the run's station
pub at_run : (w : Held) (ds out : List ℕ) {A : Type 0} (f : Station → A) → f (unpack w.state) ≡ f (run w ds out).station
at_run = work.at_run station_form

-- what a test that was passed says
pub require_said : (w a : Held) (k : ℕ) (t : Bool) → 1 ≤ k → Changes (require k t) w a → a.code ≡ 0 → (unpack a.state ≡ unpack w.state) × (t ≡ true)
require_said = work.require_said

-- a test was made only where the run went on
pub required_code : (k : ℕ) (b : Bool) (w a : Held) → Changes (require k b) w a → a.code ≡ 0 → w.code ≡ 0
required_code = work.required_code
