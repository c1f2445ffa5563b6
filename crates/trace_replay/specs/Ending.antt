-- Document 01, "The run program": how a history ends, from the room and the counters that it starts with.
-- Assumes nothing.
use Rattle.std.specs.Prelude.{ℕ, min, List, [], ◌∷◌, drop, eqb, Option, Some, None}
use Rattle.std.proofs.Math.Option.{none}
use Rattle.std.proofs.Math.Seq.{slice}
use Rattle.base_lists.specs.Lists.{choose}
use Rattle.spec_hyparview.specs.Station.{Station}
use Rattle.spec_hyparview.specs.Setters.{set_passes_alone, set_passes_short, set_next_request, set_next_join}
use Rattle.spec_hyparview.specs.Handle.{Made, new, zero_station}
use Rattle.hyparview_rules.specs.Pack.{pack}
use Rattle.hyparview.specs.Room.{output_room}
use Rattle.hyparview.specs.Handled.{handled}
use Rattle.run_input.specs.declared.Head.{Head}
use Rattle.run_input.specs.Input.{head_length, numbers, cut_events, input_of}
use Rattle.trace_replay.specs.declared.TraceStart.{TraceStart}
use Rattle.trace_replay.specs.declared.Ended.{Ended}

-- the bytes of output lent to each event: "8,192 output bytes .. always suffice", and no more are there
unfoldable pub room_of : TraceStart → ℕ
room_of start = min start.room output_room

-- the run program's start: all the room there is, and a new station's own counters
abbrev pub usual_start : TraceStart
usual_start = record {
  room = output_room;
  next_neighbor_request = 0;
  next_join = 0;
  passes_alone = 0;
  passes_short = 0;
}

-- the station g with the counters of a start
unfoldable pub counting : TraceStart → Station → Station
counting start g =
    set_passes_short start.passes_short
    (set_passes_alone start.passes_alone (set_next_join start.next_join (set_next_request start.next_neighbor_request g)))

-- the words after these events; "Draws go on where the last accepted event stopped."
unfoldable pub words_after : ℕ → List ℕ → List (List ℕ) → List ℕ → List ℕ
words_after room xs [] ds = xs
words_after room xs (b ∷ bs) ds = words_after room (handled xs b ds room).words bs (drop (handled xs b ds room).draws ds)

-- the words after the events that stand in b, with its draws
unfoldable pub laid_words : ℕ → List ℕ → Head → List ℕ → List ℕ
laid_words room xs head b = words_after room xs (cut_events head.events (slice head_length head.draws_at b)) (numbers head.draws 0 (drop head.draws_at b))

-- a code, and the state of these words
abbrev pub ended_at : ℕ → List ℕ → Ended
ended_at code xs = record { code = code; state = record { words = xs } }

-- "otherwise out-of-range settings": the answer of `new`; else code 0 and the state after the last event
unfoldable pub made_end : TraceStart → Made → Head → List ℕ → Ended
made_end start m head b =
    choose (eqb m.code 0) (ended_at 0 (laid_words (room_of start) (pack (counting start m.state)) head b)) (ended_at m.code (pack m.state))

-- an input that is refused as a whole: code 3, and "a state of zeroes"; "Own data is absent."
unfoldable pub input_end : TraceStart → Option Head → List ℕ → Ended
input_end start None b = ended_at 3 (pack zero_station)
input_end start (Some head) b = made_end start (new head.me none head.config) head b

-- how the history of the input b ends
unfoldable pub ended_of : TraceStart → List ℕ → Ended
ended_of start b = input_end start (input_of b) b
