-- The section's count is the active view's length, so the test of the two words is the definition's.
use Rattle.hyparview_state.proofs.Counts.{active_full}
use Rattle.hyparview_state.proofs.active_is_full.Goals as goal

pub returns : goal.returns
returns c = search active_full
