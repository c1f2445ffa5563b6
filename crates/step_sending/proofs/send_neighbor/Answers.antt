-- By cases: a request is open, no number or place is left (codes 10 and 6), or the request is noted, and then told with its timer.
use Prim.Native.Nat.{ℕ, ◌+◌}
use mathlib.Core.List.{List}
use lib.ListN.{get_or, set}
use borrow.Rule.Slice.PartMut.{put_mid}
use native.Mathlib.Omega.{arith}
use Rattle.base_util.specs.Section.{part}
use Rattle.spec_hyparview.specs.Run.{on}
use Rattle.spec_hyparview.specs.Sending.{note_request}
use Rattle.hyparview_state.specs.Unpack.{unpack, station_of}
use Rattle.hyparview_state.specs.Work.{work_of, Changes, Room}
use Rattle.hyparview_state.proofs.Access.{of_packed}
use Rattle.hyparview_state.proofs.Bridge.{on_done}
use Rattle.hyparview_state.proofs.Fields.{put_requests, put_next_request}
use Rattle.step_sending.proofs.Told.{asked, requests_counted, number_left, place_left, noted_room, request_told, neighbor_sent, neighbor_refused}
use borrow.Author.Rules.{rules}
use Rattle.hyparview_state.specs.Layout.{requests_at, requests_size, next_neighbor_request_at}
use Rattle.step_sending.proofs.send_neighbor.Goals as goal
use Rattle.step_sending.proofs.send_neighbor.Goals.{After-insert_number}

-- The words after the request was noted.
abbrev after : After-insert_number → List ℕ
after c =
    let xs = c.args.st.now in
    set (put_mid requests_at requests_size xs c.insert_number.new.m) next_neighbor_request_at (get_or xs next_neighbor_request_at 0 + 1)

request_noted : (c : After-insert_number) → Changes (on (note_request c.args.p)) (work_of c.require-b.result c.args.st.now) (work_of c.require-b.result (after c))
unfolding note_request unpack station_of part
request_noted c = on_done _ c.requires.given_room.packed _ _ c.if-b-ne0.false (λ b. put_next_request _ (put_requests c.insert_number.ensures b))

-- What the Neighbor is told with.
room : (c : After-insert_number) → Room (work_of c.require-b.result (after c)) c.args.out.now
room c =
    noted_room _ _ _ _ _ c.requires.given_room.packed c.require-a.ensures (requests_counted _ c.requires.given_room.packed) c.require-b.ensures _ _ (request_noted c) _ c.requires.given_room

pub returns-then-is_requested : goal.returns-then-is_requested
returns-then-is_requested c = search asked

pub returns-then-b-ne0 : goal.returns-then-b-ne0
unfolding part
returns-then-b-ne0 c =
    neighbor_refused _ _ _ _ _ c.requires.given_room.packed c.require-a.ensures (requests_counted _ c.requires.given_room.packed) c.require-b.ensures _ _ _ _ c.requires.given_room c.is_requested.ensures c.if-is_requested.false c.if-b-ne0.true

pub insert_number-requires-clause-valid_numbers : goal.insert_number-requires-clause-valid_numbers
unfolding part
insert_number-requires-clause-valid_numbers c = search (of_packed, rules)

pub insert_number-requires-clause-cap_value : goal.insert_number-requires-clause-cap_value
unfolding part
insert_number-requires-clause-cap_value c =
    place_left _ _ _ _ _ c.requires.given_room.packed c.require-a.ensures (requests_counted _ c.requires.given_room.packed) c.require-b.ensures c.if-b-ne0.false _

pub overflow_add-st : goal.overflow_add-st
unfolding part
overflow_add-st c =
    record { fits = omega (arith, number_left _ _ _ _ _ c.requires.given_room.packed c.require-a.ensures (requests_counted _ c.requires.given_room.packed) c.require-b.ensures c.if-b-ne0.false) }

pub own_data-data-requires : goal.own_data-data-requires
own_data-data-requires c = record { packed_state = (room (goal.at.own_data-data-requires c).After-insert_number).packed }

pub send_node-c-requires : goal.send_node-c-requires
send_node-c-requires c = (room (goal.at.send_node-c-requires c).After-insert_number).written

pub returns : goal.returns
returns c =
    neighbor_sent _ _ _ _ _ c.requires.given_room.packed c.require-a.ensures (requests_counted _ c.requires.given_room.packed) c.require-b.ensures _ _ (request_noted (goal.at.returns c).After-insert_number)
    _ _ _ _ _ c.requires.given_room c.is_requested.ensures c.if-is_requested.false
    (request_told _ _ _ _ _ _ _ _ _ _ _ _ (room (goal.at.returns c).After-insert_number) c.flag_if-flags.ensures c.own_data-data.ensures c.send_node-c.ensures c.schedule.ensures)
