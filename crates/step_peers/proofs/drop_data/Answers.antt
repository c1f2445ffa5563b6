-- Work with a code changes nothing; else the data leaves its section, which puts the shorter map into the station.
use Rattle.base_util.specs.Section.{part}
use Rattle.hyparview_state.specs.Unpack.{unpack, station_of}
use Rattle.hyparview_state.proofs.Access.{of_packed}
use Rattle.hyparview_state.proofs.Bridge.{on_passed, on_done}
use Rattle.spec_hyparview.specs.Peers.{drop_data}
use Rattle.hyparview_state.proofs.Fields.{put_peer_data}
use borrow.Author.Rules.{rules}
use Rattle.step_peers.proofs.drop_data.Goals as goal

pub returns-then-w-ne0 : goal.returns-then-w-ne0
returns-then-w-ne0 c = search on_passed

pub remove_data-requires : goal.remove_data-requires
unfolding part
remove_data-requires c = search (of_packed, rules)

pub returns : goal.returns
unfolding drop_data unpack station_of part
returns c = on_done _ (search rules) _ _ (search rules) (put_peer_data c.remove_data.ensures)
