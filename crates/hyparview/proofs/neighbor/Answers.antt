-- By cases: words that keep the rules are packed, so a place below the count is read; one past it, and any other words, give 0.
use Rattle.hyparview.proofs.Asked.{ok_packed, past_last, named, named_none}
use Rattle.base_util.specs.Section.{part}
use Rattle.hyparview_state.proofs.Access.{of_active}
use Rattle.hyparview_state.specs.Unpack.{unpack, station_of}
use Rattle.hyparview.proofs.neighbor.Goals as goal

pub returns-in_default : goal.returns-in_default
returns-in_default c = named_none _ c.in_default.ensures _

pub count-requires : goal.count-requires
unfolding part
count-requires c = of_active _ (ok_packed _ _ c.in-Some.ensures)

pub get_index-requires-clause-valid_set : goal.get_index-requires-clause-valid_set
unfolding part
get_index-requires-clause-valid_set c = of_active _ (ok_packed _ _ c.in-Some.ensures)

pub get_index-requires-clause-i_in_bounds : goal.get_index-requires-clause-i_in_bounds
get_index-requires-clause-i_in_bounds c = rw c.count.ensures.0 at c.if-i-count.true

pub returns-then-i-count : goal.returns-then-i-count
unfolding unpack station_of part
returns-then-i-count c = named _ _ c.in-Some.ensures _ _ c.get_index.ensures

pub returns : goal.returns
unfolding part
returns c = named _ _ c.in-Some.ensures _ _ (past_last _ _ _ c.count.ensures.0 c.if-i-count.false)
