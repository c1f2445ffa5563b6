-- By cases: no entries, the soonest is later than the limit, or it is due, as `due_in` chooses.
use Rattle.timer_map.proofs.Ways.{due_empty, due_later, due_found}
use Rattle.timer_map.proofs.find_due.Goals as goal

pub returns-then-n-eq0 : goal.returns-then-n-eq0
returns-then-n-eq0 c = search due_empty

pub returns-then-limit-entry : goal.returns-then-limit-entry
returns-then-limit-entry c = due_later _ _ c.requires _ _ c.soonest-place.ensures c.entry_at-entry.ensures c.if-limit-entry.true

pub returns : goal.returns
returns c = due_found _ _ c.requires _ _ c.soonest-place.ensures c.entry_at-entry.ensures c.if-limit-entry.false
