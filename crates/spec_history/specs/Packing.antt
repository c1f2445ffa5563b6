-- A machine whose states are packed stations, and that answers as the definition does.
-- Assumes nothing.
use Rattle.std.specs.Prelude.{◌≡◌, Bool, true}
use Rattle.spec_hyparview.specs.Station.{Station}
use Rattle.spec_hyparview.specs.Rules.{station_ok}
use Rattle.spec_history.specs.Calls.{Call, Machine, code_of, state_of, output_of, result_of}

-- of the station g that a state stands for, and the test `ok` of every station rule on any state
pub record Packs {G S : Type 0} (m : Machine G S) (pack : Station → S) (station : S → Station) (ok : S → Bool) : Type 0 where
  pub stands : (g : Station) → station_ok g ≡ true → station (pack g) ≡ g
  pub passes : (g : Station) → station_ok g ≡ true → ok (pack g) ≡ true
  pub code : (v : Call) (g : Station) → station_ok g ≡ true → code_of m v (pack g) ≡ (result_of v g).code
  pub state : (v : Call) (g : Station) → station_ok g ≡ true → state_of m v (pack g) ≡ pack (result_of v g).state
  pub output : (v : Call) (g : Station) → station_ok g ≡ true → output_of m v (pack g) ≡ (result_of v g).output
