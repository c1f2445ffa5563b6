-- By cases: no newcomer, work refused while room was made, and a newcomer for whom the room made leaves a place.
use Rattle.base_util.specs.Section.{part}
use Rattle.hyparview_state.specs.Unpack.{unpack, station_of}
use Rattle.hyparview_state.proofs.Access.{of_packed}
use Rattle.hyparview_state.proofs.Bridge.{on_done}
use Rattle.hyparview_state.proofs.Fields.{put_passive}
use Rattle.spec_hyparview.specs.Peers.{push_passive}
use Rattle.step_peers.proofs.Laws.{after_info, place_passive, one_more, not_entered, entered, refused}
use borrow.Author.Rules.{rules}
use Rattle.step_peers.proofs.add_passive.Goals as goal

pub returns-then-t-ne0 : goal.returns-then-t-ne0
returns-then-t-ne0 c =
    refused _ _ _ _ _ _ _ _ _ _ c.requires.given c.insert_peer_info-a.ensures c.is_newcomer.ensures _ _ _ c.if-is_newcomer.true c.make_room-t.ensures c.if-t-ne0.true

pub push-requires-clause-valid_set : goal.push-requires-clause-valid_set
unfolding part
push-requires-clause-valid_set c = search (of_packed, rules)

pub push-requires-clause-s_len_bound : goal.push-requires-clause-s_len_bound
unfolding part
push-requires-clause-s_len_bound c =
    place_passive _ _ _ _ _ _ _ _ (after_info _ _ _ _ _ _ _ c.requires.given c.insert_peer_info-a.ensures) c.make_room-t.ensures c.if-t-ne0.false

pub returns-then-is_newcomer : goal.returns-then-is_newcomer
unfolding push_passive unpack station_of part
returns-then-is_newcomer c =
    let fine = after_info _ _ _ _ _ _ _ c.requires.given c.insert_peer_info-a.ensures in
    entered _ _ _ _ _ _ _ _ _ _ c.requires.given c.insert_peer_info-a.ensures c.is_newcomer.ensures _ _ _ c.if-is_newcomer.true c.make_room-t.ensures _
    (on_done _ c.make_room-t.ensures.does.fine.ready.packed _ _ c.if-t-ne0.false (put_passive c.push.ensures (one_more _ _ _ _ _ _ _ _ fine c.make_room-t.ensures c.if-t-ne0.false _)))

pub returns : goal.returns
returns c =
    not_entered _ _ _ _ _ _ _ _ _ _ c.requires.given c.insert_peer_info-a.ensures c.is_newcomer.ensures c.if-is_newcomer.false
