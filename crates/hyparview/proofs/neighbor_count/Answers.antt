-- By cases: words that keep the rules are packed, so the section's count is the view's length; any others have no neighbor.
use Rattle.hyparview.proofs.Asked.{ok_packed, counted, counted_none}
use Rattle.base_util.specs.Section.{part}
use Rattle.hyparview_state.proofs.Access.{of_active}
use Rattle.hyparview.proofs.neighbor_count.Goals as goal

pub returns-in_default : goal.returns-in_default
returns-in_default c = counted_none _ c.in_default.ensures

pub count-requires : goal.count-requires
unfolding part
count-requires c = of_active _ (ok_packed _ _ c.in-Some.ensures)

pub returns : goal.returns
unfolding part
returns c = counted _ _ c.in-Some.ensures _ c.count.ensures.0
