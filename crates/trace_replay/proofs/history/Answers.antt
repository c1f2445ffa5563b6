-- By cases: the input is refused, its settings are, or the events run from the counters stored, in the smaller of both rooms.
use borrow.Author.Rules.{rules}
use Rattle.trace_replay.specs.Ending.{room_of}
use Rattle.trace_replay.proofs.Laws.{counters_stored, there, whole_refused, whole_run, ends_refused, ends_whole}
use Rattle.trace_replay.proofs.history.Goals as goal

pub returns-in_default : goal.returns-in_default
returns-in_default c = search (ends_refused, rules)

pub returns-then-m-ne0 : goal.returns-then-m-ne0
returns-then-m-ne0 c =
    ends_whole _ _ _ c.read_input.ensures _ _ c.in-Some.is (whole_refused _ _ _ _ _ c.new-m.ensures c.if-m-ne0.true)

pub walk-requires-clause-laid : goal.walk-requires-clause-laid
walk-requires-clause-laid c = there c.args.start _ _ c.read_input.ensures _ c.in-Some.is

pub returns : goal.returns
unfolding room_of
returns c =
    ends_whole _ _ _ c.read_input.ensures _ _ c.in-Some.is
    (whole_run _ _ _ _ _ c.new-m.ensures _ _ _ c.if-m-ne0.false (λ g e. counters_stored _ g _ e) c.min-room.ensures c.walk.ensures)
