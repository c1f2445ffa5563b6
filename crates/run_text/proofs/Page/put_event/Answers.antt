-- The records' lines and then the line that ends them are the event's text, by `event_put`.
use Rattle.run_text.proofs.Laws.{event_put}
use Rattle.run_text.proofs.Page.put_event.Goals as goal

pub returns : goal.returns
returns c = event_put _ _ _ _ _ _ _ c.put_end.ensures c.put_records.ensures
