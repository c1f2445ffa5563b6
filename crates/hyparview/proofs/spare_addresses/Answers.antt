-- By cases: words that keep the rules are packed, so the section's count is the passive view's length; any others have none.
use Rattle.hyparview.proofs.Asked.{ok_packed, spares, spares_none}
use Rattle.base_util.specs.Section.{part}
use Rattle.hyparview_state.proofs.Access.{of_passive}
use Rattle.hyparview.proofs.spare_addresses.Goals as goal

pub returns-in_default : goal.returns-in_default
returns-in_default c = spares_none _ c.in_default.ensures

pub count-requires : goal.count-requires
unfolding part
count-requires c = of_passive _ (ok_packed _ _ c.in-Some.ensures)

pub returns : goal.returns
unfolding part
returns c = spares _ _ c.in-Some.ensures _ c.count.ensures.0
