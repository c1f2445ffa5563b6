-- Document 01, "The run program": what is decided before the first event, and the text that is left at a place.
-- Assumes nothing.
use Rattle.std.specs.Prelude.{ℕ, ◌-◌, List, drop, eqb, Option, Some, None, Result, Ok, Err}
use Rattle.std.proofs.Math.Option.{none}
use Rattle.base_lists.specs.Lists.{choose}
use Rattle.spec_hyparview.specs.Handle.{new}
use Rattle.hyparview.specs.Room.{output_room}
use Rattle.hyparview.specs.Made.{pack_made}
use Rattle.record.specs.declared.Refusal.{Refusal}
use Rattle.record.specs.declared.Refusal.TheVariants.{Settings, Malformed}
use Rattle.record.specs.Refusals.{refusal_code}
use Rattle.run_input.specs.declared.Head.{Head}
use Rattle.run_input.specs.Input.{cut_events, input_of}
use Rattle.run_walk.specs.declared.Runner.{Runner}
use Rattle.run_text.specs.Lines.{end_line}
use Rattle.run_listing.specs.Run.{events_text, laid_text}

-- the place before the first event; "Own data is absent."
unfoldable pub first_place : Head → Runner
first_place head = record { state = record { words = (pack_made (new head.me none head.config)).words }; at = 0; used = 0 }

-- "otherwise out-of-range settings print only `= 1 0`"
unfoldable pub opened_head : Head → Result Head Refusal
opened_head head = choose (eqb (pack_made (new head.me none head.config)).code 0) (Ok head) (Err Settings)

-- a refused input "prints only `= 3 0`"
unfoldable pub opened_input : Option Head → Result Head Refusal
opened_input None = Err Malformed
opened_input (Some head) = opened_head head

unfoldable pub opened_run : List ℕ → Result Head Refusal
opened_run b = opened_input (input_of b)

-- what is printed of the input b after this decision
unfoldable pub opened_text : Result Head Refusal → List ℕ → List ℕ
opened_text (Err r) b = end_line (refusal_code r) 0
opened_text (Ok head) b = laid_text output_room (first_place head).state.words head b

-- what is left to print at the place p before the i-th of n events
unfoldable pub rest_text : ℕ → Runner → ℕ → ℕ → List ℕ → List ℕ → List ℕ
rest_text room p i n events draws = events_text room i p.state.words (cut_events (n - i) (drop p.at events)) (drop p.used draws)
