-- Packed words have a well formed section, and the view is read from it, so `contains` answers for the view.
use Rattle.base_util.specs.Section.{part}
use Rattle.spec_hyparview.specs.Station.{in_active}
use Rattle.hyparview_state.specs.Unpack.{unpack, station_of}
use Rattle.hyparview_state.proofs.Access.{of_packed}
use borrow.Author.Rules.{rules}
use Rattle.hyparview_state.proofs.in_active.Goals as goal

pub contains-requires : goal.contains-requires
unfolding part
contains-requires c = search (of_packed, rules)

pub returns : goal.returns
unfolding in_active unpack station_of part
returns c = c.contains.ensures
