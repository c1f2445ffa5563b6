-- The state that the events to come lead to is the last.
use mathlib.Core.Path.{◌≡◌}
use lib.ListN.{length}
use Rattle.run_input.specs.Input.{cut_events}
use Rattle.trace_replay.specs.Ending.{words_after}
use Rattle.trace_replay.proofs.Laws.{Walking}
use Rattle.trace_replay.proofs.walk.Given as goal

abbrev pub invariant-loop : goal.invariant-loop
invariant-loop l =
    (l.room ≡ length l.out) × Walking l.room (words_after l.room l.initial.p.state.words (cut_events l.fn.head.events l.events) l.draws) l.events l.draws l.p l.fn.head.events l.counter
