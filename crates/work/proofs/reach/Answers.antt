-- By cases: work that was refused passes on unchanged, too few draws refuse it, and otherwise the place is taken.
use Rattle.work.proofs.Any.{reach_passed, reach_short, reach_next}
use Rattle.work.proofs.reach.Goals as goal

pub returns-then-w-ne0 : goal.returns-then-w-ne0
returns-then-w-ne0 c = search reach_passed

pub returns-then-draws-next : goal.returns-then-draws-next
returns-then-draws-next c = search reach_short

pub returns : goal.returns
returns c = search reach_next
