-- By cases: a neighbor, the station itself, no number left, and a join noted, for which a place is free after the push.
use native.Mathlib.Omega.{arith}
use Rattle.base_util.specs.Section.{part}
use Rattle.spec_hyparview.specs.Events.{note_join}
use Rattle.hyparview_state.specs.Unpack.{unpack, station_of}
use Rattle.hyparview_state.proofs.Access.{of_packed}
use Rattle.hyparview_state.proofs.Bridge.{on_done}
use Rattle.hyparview_state.proofs.Fields.{put_joins, put_next_join}
use Rattle.step_events.proofs.Joining.{free_after_push, free_after_join, number_left, place_left, not_new, joined_self, join_opened, join_refused, awaited, joined_other}
use borrow.Author.Rules.{rules}
use Rattle.step_events.proofs.handle_join.Goals as goal

pub returns-then-in_active : goal.returns-then-in_active
returns-then-in_active c =
    not_new _ _ _ _ _ c.requires.given_room c.push_bootstrap-a.ensures c.in_active.ensures c.if-in_active.true

pub returns-then-is_me : goal.returns-then-is_me
returns-then-is_me c =
    let told = c.join-b.ensures in
    joined_self _ _ _ _ _ c.requires.given_room c.push_bootstrap-a.ensures c.in_active.ensures _ c.if-in_active.false c.is_me.ensures _ _ c.if-is_me.true told

pub returns-then-d-ne0 : goal.returns-then-d-ne0
returns-then-d-ne0 c =
    let told = c.join-b.ensures in
    joined_other _ _ _ _ _ c.requires.given_room c.push_bootstrap-a.ensures c.in_active.ensures _ c.if-in_active.false c.is_me.ensures _ _ _ _ c.if-is_me.false (join_refused _ _ _ _ told.room.packed c.require-d.ensures _ told.room c.if-d-ne0.true) told

pub insert_number-requires : goal.insert_number-requires
unfolding part unpack station_of
insert_number-requires c =
    let told = c.join-b.ensures in
    let packed = told.room.packed in
    let free = free_after_push _ _ _ _ _ c.push_bootstrap-a.ensures c.requires.known_joins in record {
      valid_numbers = search (of_packed, rules, packed);
      cap_value = place_left _ _ _ _ packed c.require-d.ensures (free_after_join _ _ _ _ _ _ _ told free) c.if-d-ne0.false;
    }

pub overflow_add-st : goal.overflow_add-st
overflow_add-st c =
    record { fits = omega (arith, number_left _ _ _ 0 c.join-b.ensures.room.packed c.require-d.ensures c.if-d-ne0.false) }

pub returns : goal.returns
unfolding note_join unpack station_of part
returns c =
    let told = c.join-b.ensures in
    let packed = told.room.packed in
    joined_other _ _ _ _ _ c.requires.given_room c.push_bootstrap-a.ensures c.in_active.ensures _ c.if-in_active.false c.is_me.ensures _ _ _ _ c.if-is_me.false (awaited _ _ _ _ _ _ _ _ told.room c.schedule.ensures (join_opened _ _ _ _ packed c.require-d.ensures _ _ (on_done _ packed _ _ c.if-d-ne0.false (λ b. put_next_join _ (put_joins c.insert_number.ensures b))))) told
