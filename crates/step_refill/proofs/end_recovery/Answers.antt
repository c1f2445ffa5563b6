-- By cases of the test: the recovery is over, or a code, another limit or a request in flight leaves all as it was.
use Rattle.step_refill.proofs.Limits.{ended, not_ended}
use Rattle.step_refill.proofs.end_recovery.Goals as goal

pub returns-then-w-is_recovery : goal.returns-then-w-is_recovery
returns-then-w-is_recovery c = ended _ _ c.requires.packed_state _ c.asked_outside.ensures _ _ c.limit_of-limit.ensures c.is_recovery.ensures _ c.if-w-is_recovery.true c.keep_limit.ensures

pub returns-else-w-is_recovery : goal.returns-else-w-is_recovery
returns-else-w-is_recovery c = not_ended _ _ c.requires.packed_state _ c.asked_outside.ensures _ _ c.limit_of-limit.ensures c.is_recovery.ensures c.if-w-is_recovery.false
