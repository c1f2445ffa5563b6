-- Work with a code changes nothing; else the request leaves its section, which puts the shorter map into the station.
use Rattle.base_util.specs.Section.{part}
use Rattle.spec_hyparview.specs.Messages.{drop_request}
use Rattle.hyparview_state.specs.Unpack.{unpack, station_of}
use Rattle.hyparview_state.proofs.Access.{of_packed}
use Rattle.hyparview_state.proofs.Bridge.{on_passed, on_done}
use Rattle.hyparview_state.proofs.Fields.{put_requests}
use borrow.Author.Rules.{rules}
use Rattle.hyparview_state.proofs.drop_request.Goals as goal

pub returns-then-w-ne0 : goal.returns-then-w-ne0
returns-then-w-ne0 c = search on_passed

pub remove_number-requires : goal.remove_number-requires
unfolding part
remove_number-requires c = search (of_packed, rules)

pub returns : goal.returns
unfolding drop_request unpack station_of part
returns c = on_done _ (search rules) _ _ (search rules) (put_requests c.remove_number.ensures)
