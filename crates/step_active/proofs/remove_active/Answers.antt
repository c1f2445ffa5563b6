-- By cases: a neighbor has a place, leaves by it, and the refill starts from fine work; any other peer changes nothing.
use Rattle.base_util.specs.Section.{part}
use Rattle.hyparview_state.specs.Unpack.{unpack, station_of}
use Rattle.hyparview_state.proofs.Access.{of_packed}
use Rattle.step_active.proofs.Leaving.{refilled, place_of, removed, not_removed}
use borrow.Author.Rules.{rules}
use Rattle.step_active.proofs.remove_active.Goals as goal

pub position-i-requires : goal.position-i-requires
unfolding part
position-i-requires c = search (of_packed, rules)

pub remove_active_by_index-a-requires-clause-i_in_bounds : goal.remove_active_by_index-a-requires-clause-i_in_bounds
unfolding part unpack station_of
remove_active_by_index-a-requires-clause-i_in_bounds c = search place_of

pub returns-then-in_active : goal.returns-then-in_active
unfolding part unpack station_of
returns-then-in_active c =
    let filled = refilled _ _ _ _ _ _ _ _ _ _ _ c.remove_active_by_index-a.ensures.fine c.start_refill.ensures (search rules) c.clear_refused-b.ensures in
    removed _ _ _ _ _ _ _ c.requires.given c.in_active.ensures _ _ _ _ _ _ _ c.if-in_active.true c.position-i.ensures.0
    filled c.remove_active_by_index-a.ensures

pub returns : goal.returns
returns c = search not_removed
