-- The two tests stand in the definition's order; where both pass, the pin has a place and goes in by its number.
use Rattle.base_util.specs.Section.{part}
use Rattle.spec_hyparview.specs.Events.{note_pin}
use Rattle.hyparview_state.specs.Unpack.{unpack, station_of}
use Rattle.hyparview_state.proofs.Access.{of_packed}
use Rattle.hyparview_state.proofs.Bridge.{on_passed, on_done}
use Rattle.hyparview_state.proofs.Fields.{put_pins}
use Rattle.step_events.proofs.Pins.{left_known, few_pins, pin_place, pin_noted}
use borrow.Author.Rules.{rules}
use Rattle.step_events.proofs.handle_pin.Goals as goal

pub contains-pinned-requires : goal.contains-pinned-requires
unfolding part
contains-pinned-requires c = search (of_packed, rules)

pub overflow_add-more : goal.overflow_add-more
overflow_add-more c = let few = few_pins _ c.requires.packed_state in search rules

pub returns-then-b-ne0 : goal.returns-then-b-ne0
unfolding part
returns-then-b-ne0 c =
    pin_noted _ _ c.requires.packed_state _ _ _ _ _ _ _ c.in_active-active.ensures (left_known _ _ c.requires.packed_state _ c.contains-pinned.ensures) (on_passed _ c.requires.packed_state _ (search rules)) c.require-b.ensures c.require-a.ensures

pub insert_sorted-requires-clause-valid_set : goal.insert_sorted-requires-clause-valid_set
unfolding part
insert_sorted-requires-clause-valid_set c = search (of_packed, rules)

pub insert_sorted-requires-clause-s_len_bound : goal.insert_sorted-requires-clause-s_len_bound
unfolding part
insert_sorted-requires-clause-s_len_bound c =
    pin_place _ _ c.requires.packed_state _ _ _ (left_known _ _ c.requires.packed_state _ c.contains-pinned.ensures) c.require-b.ensures (search rules)

pub returns : goal.returns
unfolding note_pin unpack station_of part
returns c =
    pin_noted c.args.st.now _ c.requires.packed_state _ _ _ _ _ _ _ c.in_active-active.ensures (left_known c.args.st.now _ c.requires.packed_state _ c.contains-pinned.ensures)
    (on_done _ c.requires.packed_state _ _ (search rules) (put_pins c.insert_sorted.ensures)) c.require-b.ensures c.require-a.ensures
