-- By cases in the order of the refusals: too short, too many nodes, an event's record, or malformed.
use Rattle.record.proofs.Laws.{event_short, event_crowded, event_record, event_refused}
use borrow.Author.Rules.{rules}
use Rattle.record.proofs.read_event.Goals as goal

pub returns-then-b-lt-HEADER : goal.returns-then-b-lt-HEADER
returns-then-b-lt-HEADER c = search event_short

pub returns-then-b-gt-MOST_NODES : goal.returns-then-b-gt-MOST_NODES
returns-then-b-gt-MOST_NODES c = event_crowded _ (search rules) (search rules)

pub returns-then-well_formed-event : goal.returns-then-well_formed-event
returns-then-well_formed-event c = search event_record

pub returns : goal.returns
returns c = search event_refused
