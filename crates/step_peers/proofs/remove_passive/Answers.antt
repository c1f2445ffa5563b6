-- Work with a code changes nothing; else the view loses p, and being no longer than before still fits its capacity.
use Rattle.base_util.specs.Section.{part}
use Rattle.hyparview_state.specs.Unpack.{unpack, station_of}
use Rattle.hyparview_state.proofs.Access.{of_packed}
use Rattle.hyparview_state.proofs.Bridge.{on_passed, on_done}
use Rattle.spec_hyparview.specs.Peers.{remove_passive}
use Rattle.hyparview_state.proofs.Fields.{put_passive}
use Rattle.step_peers.proofs.Laws.{shrunk}
use borrow.Author.Rules.{rules}
use Rattle.step_peers.proofs.remove_passive.Goals as goal

pub returns-then-w-ne0 : goal.returns-then-w-ne0
returns-then-w-ne0 c = search on_passed

pub remove-requires : goal.remove-requires
unfolding part
remove-requires c = search (of_packed, rules)

pub returns : goal.returns
unfolding remove_passive unpack station_of part
returns c = on_done _ (search rules) _ _ (search rules) (put_passive c.remove.ensures (search shrunk))
