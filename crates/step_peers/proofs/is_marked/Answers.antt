-- Packed words have a well formed section, and the marks are read from it, so `contains` answers for them.
use Rattle.base_util.specs.Section.{part}
use Rattle.hyparview_state.specs.Unpack.{unpack, station_of}
use Rattle.hyparview_state.proofs.Access.{of_packed}
use Rattle.spec_hyparview.specs.Peers.{is_marked}
use borrow.Author.Rules.{rules}
use Rattle.step_peers.proofs.is_marked.Goals as goal

pub contains-requires : goal.contains-requires
unfolding part
contains-requires c = search (of_packed, rules)

pub returns : goal.returns
unfolding is_marked unpack station_of part
returns c = c.contains.ensures
