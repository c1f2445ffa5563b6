-- Packed words have a well formed section, and the requests are read from it, so `contains_number` answers for the map.
use Rattle.base_lists.specs.Maps.{has}
use Rattle.spec_hyparview.specs.Station.{is_requested}
use Rattle.hyparview_state.specs.Unpack.{unpack, station_of}
use Rattle.base_util.specs.Section.{part}
use Rattle.hyparview_state.proofs.Access.{of_packed}
use borrow.Author.Rules.{rules}
use Rattle.hyparview_state.proofs.is_requested.Goals as goal

pub contains_number-requires : goal.contains_number-requires
unfolding part
contains_number-requires c = search (of_packed, rules)

pub returns : goal.returns
unfolding is_requested unpack station_of has part
returns c = c.contains_number.ensures
