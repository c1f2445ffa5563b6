-- By cases: no entries, or the due time of the soonest.
use Rattle.timer_map.proofs.Ways.{first_none, first_some}
use Rattle.timer_map.proofs.first_ok.Goals as goal

pub returns-then-n-eq0 : goal.returns-then-n-eq0
returns-then-n-eq0 c = search first_none

pub returns : goal.returns
returns c = first_some _ c.requires _ _ c.soonest-i.ensures c.entry_at.ensures
