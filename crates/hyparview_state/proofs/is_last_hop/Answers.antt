-- The section's count is the active view's length, so the test of the word is the definition's.
use Rattle.hyparview_state.proofs.Counts.{last_hop}
use Rattle.hyparview_state.proofs.is_last_hop.Goals as goal

pub returns : goal.returns
returns c = search last_hop
