-- The section's count is the active view's length, so it is 0 just where the view is empty.
use Rattle.hyparview_state.proofs.Counts.{alone}
use Rattle.hyparview_state.proofs.is_alone.Goals as goal

pub returns : goal.returns
returns c = search alone
