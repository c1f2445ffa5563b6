-- By cases: a recovery stays one, and any other limit gives way to the new one.
use Rattle.hyparview_state.proofs.Limits.{in_recovery, no_recovery}
use Rattle.hyparview_state.proofs.RefillLimit.unless_recovery.Goals as goal

pub returns-then-is_recovery : goal.returns-then-is_recovery
returns-then-is_recovery c = search in_recovery

pub returns : goal.returns
returns c = search no_recovery
