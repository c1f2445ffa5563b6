-- Document 01, "The run program": the place reached in a run, and the next one.
-- Assumes nothing.
use Rattle.std.specs.Prelude.{ℕ, ◌+◌, ◌≡◌, List, length, take, drop}
use Rattle.base_lists.specs.Lent.{Lent, Seen}
use Rattle.hyparview.specs.Handled.{Outcome, handled}
use Rattle.run_input.specs.Input.{event_length}
use Rattle.base_draws.specs.Place.{past}
use Rattle.run_walk.specs.declared.Runner.{Runner}
use Rattle.run_walk.specs.declared.Ran.{Ran}

-- what the event at p gives, with the draws left and `room` bytes of output; "Events are cut by bytes 14–15", since document 02, S-8 by 22–23
abbrev pub met : ℕ → Runner → List ℕ → List ℕ → Outcome
met room p events draws = handled p.state.words (take (event_length (drop p.at events)) (drop p.at events)) (drop p.used draws) room

-- the place after it; "Draws go on where the last accepted event stopped."
unfoldable pub passed : ℕ → Runner → List ℕ → List ℕ → Runner
passed room p events draws = record {
  state = record { words = (met room p events draws).words };
  at = p.at + event_length (drop p.at events);
  used = past draws p.used (met room p events draws).draws;
}

-- r is that place with the code and the draws of the event, o its output
pub record Runs (room : ℕ) (p : Runner) (events ds : List ℕ) (r : Ran) (o : List ℕ) : Type 0 where
  pub runner : r.runner ≡ passed room p events ds
  pub code : r.code ≡ (met room p events ds).code
  pub draws : r.draws ≡ (met room p events ds).draws
  pub output : o ≡ (met room p events ds).output

-- the same as a contract says it of the parameters
abbrev pub Steps : Runner → Seen → Seen → Ran → Lent → Type 0
Steps p events ds r records = Runs (length records.entry.now) p events.entry.now ds.entry.now r records.exit.now
