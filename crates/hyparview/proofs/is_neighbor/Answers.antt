-- By cases: words that keep the rules are packed, so `in_active` answers; by any others nobody is a neighbor.
use Rattle.hyparview.proofs.Asked.{ok_packed, met, met_not}
use Rattle.hyparview.proofs.is_neighbor.Goals as goal

pub returns-in_default : goal.returns-in_default
returns-in_default c = met_not _ c.in_default.ensures _

pub in_active-requires : goal.in_active-requires
in_active-requires c = record { packed_state = ok_packed _ _ c.in-Some.ensures }

pub returns : goal.returns
returns c = met _ _ c.in-Some.ensures _ _ c.in_active.ensures
