-- Work with a code changes nothing; else the limit is the new one, or the recovery that is under way.
use Rattle.hyparview_state.proofs.Bridge.{on_passed}
use Rattle.step_refill.proofs.Limits.{begun}
use Rattle.step_refill.proofs.begin_refill.Goals as goal

pub returns-then-w-ne0 : goal.returns-then-w-ne0
returns-then-w-ne0 c = search on_passed

pub returns : goal.returns
returns c = begun _ _ c.requires.packed_state _ c.limit_of-old.ensures _ _ _ c.if-w-ne0.false c.unless_recovery.ensures c.keep_limit.ensures
