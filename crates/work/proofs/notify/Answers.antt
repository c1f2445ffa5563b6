-- A notice is a timer's record with neither delay nor number.
use Rattle.work.proofs.notify.Goals as goal

pub returns : goal.returns
returns c = c.schedule.ensures
