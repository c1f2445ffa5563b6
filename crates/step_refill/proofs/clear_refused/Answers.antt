-- Work with a code changes nothing; else the empty section puts an empty set of refusals into the station.
use Rattle.base_util.specs.Section.{part}
use Rattle.spec_hyparview.specs.Active.{clear_refused}
use Rattle.hyparview_state.specs.Unpack.{unpack, station_of}
use Rattle.hyparview_state.proofs.Bridge.{on_passed, on_done}
use Rattle.hyparview_state.proofs.Fields.{put_refused}
use borrow.Author.Rules.{rules}
use Rattle.step_refill.proofs.clear_refused.Goals as goal

pub returns-then-w-ne0 : goal.returns-then-w-ne0
returns-then-w-ne0 c = search on_passed

pub returns : goal.returns
unfolding clear_refused unpack station_of part
returns c = on_done _ (search rules) _ _ (search rules) (put_refused c.clear.ensures)
