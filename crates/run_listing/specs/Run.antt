-- Document 01, "The run program": the text of a run.
-- Assumes nothing.
use Rattle.std.specs.Prelude.{ℕ, ◌+◌, List, [], ◌∷◌, ◌++◌, drop, eqb, Option, Some, None}
use Rattle.std.proofs.Math.Option.{none}
use Rattle.std.proofs.Math.Seq.{slice}
use Rattle.base_lists.specs.Lists.{choose}
use Rattle.spec_hyparview.specs.Handle.{new}
use Rattle.hyparview.specs.Room.{output_room}
use Rattle.hyparview.specs.Made.{MadeWords, pack_made}
use Rattle.hyparview.specs.Handled.{Outcome, handled}
use Rattle.run_input.specs.declared.Head.{Head}
use Rattle.run_input.specs.Input.{head_length, numbers, cut_events, input_of}
use Rattle.run_text.specs.Lines.{end_line, event_text}

-- the lines of the i-th event
unfoldable pub outcome_text : ℕ → Outcome → List ℕ
outcome_text i o = event_text i o.code o.draws o.output

-- the lines of these events, from the i-th on and from the words xs, with so much room for output; "Draws go on where the last accepted event stopped."
unfoldable pub events_text : ℕ → ℕ → List ℕ → List (List ℕ) → List ℕ → List ℕ
events_text room i xs [] ds = []
events_text room i xs (b ∷ bs) ds =
    outcome_text i (handled xs b ds room) ++ events_text room (i + 1) (handled xs b ds room).words bs (drop (handled xs b ds room).draws ds)

-- the lines of the events that stand in b, with its draws
unfoldable pub laid_text : ℕ → List ℕ → Head → List ℕ → List ℕ
laid_text room xs head b = events_text room 0 xs (cut_events head.events (slice head_length head.draws_at b)) (numbers head.draws 0 (drop head.draws_at b))

-- "otherwise out-of-range settings print only `= 1 0`"
unfoldable pub made_text : MadeWords → Head → List ℕ → List ℕ
made_text m head b = choose (eqb m.code 0) (laid_text output_room m.words head b) (end_line 1 0)

-- "whose events, so cut, or draws do not exactly fill their places .. prints only `= 3 0`"; "Own data is absent."
unfoldable pub input_text : Option Head → List ℕ → List ℕ
input_text None b = end_line 3 0
input_text (Some head) b = made_text (pack_made (new head.me none head.config)) head b

-- what the run program prints for the input b
unfoldable pub run_text : List ℕ → List ℕ
run_text b = input_text (input_of b) b
