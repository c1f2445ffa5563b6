-- The events to come are listed after what was written.
use lib.ListN.{length}
use Rattle.run_input.specs.Input.{cut_events}
use Rattle.run_listing.specs.Run.{events_text}
use Rattle.run_listing.proofs.Laws.{Running}
use Rattle.run_listing.proofs.put_walk.Given as goal

abbrev pub invariant-loop-i : goal.invariant-loop-i
invariant-loop-i l =
    Running (length l.initial.records) (events_text (length l.initial.records) 0 l.initial.p.state.words (cut_events l.i-end l.events) l.draws) l.events l.draws l.i-end l.initial.t l.records l.p l.t l.i
