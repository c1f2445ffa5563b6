-- Work with a code changes nothing; else the mark leaves its section, which puts the shorter set into the station.
use Rattle.base_util.specs.Section.{part}
use Rattle.hyparview_state.specs.Unpack.{unpack, station_of}
use Rattle.hyparview_state.proofs.Access.{of_packed}
use Rattle.hyparview_state.proofs.Bridge.{on_passed, on_done}
use Rattle.spec_hyparview.specs.Peers.{drop_mark}
use Rattle.hyparview_state.proofs.Fields.{put_alive}
use borrow.Author.Rules.{rules}
use Rattle.step_peers.proofs.drop_mark.Goals as goal

pub returns-then-w-ne0 : goal.returns-then-w-ne0
returns-then-w-ne0 c = search on_passed

pub without-requires : goal.without-requires
unfolding part
without-requires c = search (of_packed, rules)

pub returns : goal.returns
unfolding drop_mark unpack station_of part
returns c = on_done _ (search rules) _ _ (search rules) (put_alive c.without.ensures)
