-- The limit is set where it may be, after which the refill's contract is the rest.
use Rattle.step_refill.proofs.Asking.{refill_started}
use Rattle.step_refill.proofs.start_refill.Goals as goal

pub returns : goal.returns
returns c = refill_started _ _ _ _ _ _ _ _ _ _ _ c.requires.given c.begin_refill-a.ensures c.refill_active_from_passive.ensures
