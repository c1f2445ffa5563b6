-- Work with a code changes nothing; else there is a free place, and the marks with p in order are put into the station.
use Rattle.base_util.specs.Section.{part}
use Rattle.spec_hyparview.specs.Active.{mark_alive}
use Rattle.hyparview_state.specs.Unpack.{unpack, station_of}
use Rattle.hyparview_state.proofs.Access.{of_packed}
use Rattle.hyparview_state.proofs.Bridge.{on_passed, on_done}
use Rattle.hyparview_state.proofs.Fields.{put_alive}
use Rattle.step_active.proofs.Leaving.{mark_place}
use borrow.Author.Rules.{rules}
use Rattle.step_active.proofs.mark_alive.Goals as goal

pub returns-then-w-ne0 : goal.returns-then-w-ne0
returns-then-w-ne0 c = search on_passed

pub insert_sorted-requires-clause-valid_set : goal.insert_sorted-requires-clause-valid_set
unfolding part
insert_sorted-requires-clause-valid_set c = search (of_packed, rules)

pub insert_sorted-requires-clause-s_len_bound : goal.insert_sorted-requires-clause-s_len_bound
unfolding part
insert_sorted-requires-clause-s_len_bound c = search mark_place

pub returns : goal.returns
unfolding mark_alive unpack station_of part
returns c = on_done _ (search rules) _ _ (search rules) (put_alive c.insert_sorted.ensures)
