-- By cases: no neighbor, or one drawn; then both views without it are shuffled and cut by the next draws, and all named fit one record.
use native.Mathlib.Omega.{arith}
use Rattle.base_util.specs.Section.{part}
use Rattle.hyparview_state.specs.Layout.{shuffle_active_view_count, shuffle_passive_view_count}
use Rattle.hyparview_state.proofs.Access.{of_packed, of_active, of_passive}
use Rattle.step_sending.proofs.Sets.{lent_count, lent_few}
use Rattle.step_sending.proofs.Told.{fine_drawn, room_of}
use Rattle.step_timers.proofs.Shuffles.{place_named, walk_fits, shuffle_told, peers_drawn, peers_are, few_active, both_fit, all_fit, passive_done, with_done, none_asked, one_asked}
use borrow.Author.Rules.{rules}
use Rattle.step_timers.proofs.shuffle_any.Goals as goal

pub count-neighbors-requires : goal.count-neighbors-requires
unfolding part
count-neighbors-requires c = search (of_packed, rules)

pub returns-then-neighbors-eq0 : goal.returns-then-neighbors-eq0
unfolding part
returns-then-neighbors-eq0 c = search none_asked

pub get_index-to-requires-clause-valid_set : goal.get_index-to-requires-clause-valid_set
unfolding part
get_index-to-requires-clause-valid_set c = search (of_packed, rules)

pub copy_into-requires-clause-valid_set : goal.copy_into-requires-clause-valid_set
unfolding part
copy_into-requires-clause-valid_set c = of_active _ c.requires.given.ready.packed

pub copy_into-requires-2-clause-valid_set : goal.copy_into-requires-2-clause-valid_set
unfolding part
copy_into-requires-2-clause-valid_set c = of_passive _ c.requires.given.ready.packed

pub append-requires : goal.append-requires
unfolding part
append-requires c =
    let active = peers_are c.draw_one_of-chosen.result.work c.shuffle_and_cap-a.result c.args.draws.now _ _ _ _ c.copy_into.ensures c.without.ensures _ (shuffle_active_view_count c.args.st.now) c.shuffle_and_cap-a.ensures.changes_set in
    let passive = peers_are c.shuffle_and_cap-a.result c.shuffle_and_cap-b.result c.args.draws.now _ _ _ _ c.copy_into-2.ensures c.without-2.ensures _ (shuffle_passive_view_count c.args.st.now) c.shuffle_and_cap-b.ensures.changes_set in
    let packed = c.requires.given.ready.packed in record {
      valid_set = active.valid;
      valid_set_2 = passive.valid;
      more_len_bound = both_fit _ packed _ _ _ passive (few_active _ packed _ _ active);
    }

pub slice_bounds-peer_infos-end : goal.slice_bounds-peer_infos-end
slice_bounds-peer_infos-end c =
    lent_count _ _ c.append.ensures.valid c.count-n.ensures.0

pub peer_infos-named-requires-clause-packed_state : goal.peer_infos-named-requires-clause-packed_state
peer_infos-named-requires-clause-packed_state c = c.requires.given.ready.packed

pub peer_infos-named-requires-clause-ids_len_bound : goal.peer_infos-named-requires-clause-ids_len_bound
peer_infos-named-requires-clause-ids_len_bound c = lent_few _ _ c.append.ensures.valid c.count-n.ensures.0

pub overflow_cast-ttl : goal.overflow_cast-ttl
overflow_cast-ttl c = record { fits = omega (arith, walk_fits _ c.requires.given.ready.packed) }

pub push-requires : goal.push-requires
unfolding part
push-requires c =
    let active = peers_are c.draw_one_of-chosen.result.work c.shuffle_and_cap-a.result c.args.draws.now _ _ _ _ c.copy_into.ensures c.without.ensures _ (shuffle_active_view_count c.args.st.now) c.shuffle_and_cap-a.ensures.changes_set in
    let passive = peers_are c.shuffle_and_cap-a.result c.shuffle_and_cap-b.result c.args.draws.now _ _ _ _ c.copy_into-2.ensures c.without-2.ensures _ (shuffle_passive_view_count c.args.st.now) c.shuffle_and_cap-b.ensures.changes_set in
    let packed = c.requires.given.ready.packed in
    place_named _ _ _ _ c.append.ensures.valid c.count-n.ensures.0 (all_fit _ packed _ _ _ _ passive (few_active _ packed _ _ active) c.append.ensures) c.peer_infos-named.ensures

pub send_nodes-requires : goal.send_nodes-requires
unfolding part
send_nodes-requires c =
    let active_drawn = peers_drawn _ _ _ _ _ _ _ c.copy_into.ensures c.without.ensures c.shuffle_and_cap-a.ensures.draws_any in
    let passive_drawn = peers_drawn _ _ _ _ _ _ _ c.copy_into-2.ensures c.without-2.ensures c.shuffle_and_cap-b.ensures.draws_any in
    let chosen = fine_drawn _ _ _ _ _ c.requires.given c.draw_one_of-chosen.ensures.draws_any in
    let asked = fine_drawn _ _ _ _ _ chosen active_drawn in
    let told = fine_drawn _ _ _ _ _ asked passive_drawn in
    told.written

pub returns : goal.returns
unfolding part
returns c =
    let active = peers_are c.draw_one_of-chosen.result.work c.shuffle_and_cap-a.result c.args.draws.now _ _ _ _ c.copy_into.ensures c.without.ensures _ (shuffle_active_view_count c.args.st.now) c.shuffle_and_cap-a.ensures.changes_set in
    let passive = peers_are c.shuffle_and_cap-a.result c.shuffle_and_cap-b.result c.args.draws.now _ _ _ _ c.copy_into-2.ensures c.without-2.ensures _ (shuffle_passive_view_count c.args.st.now) c.shuffle_and_cap-b.ensures.changes_set in
    let active_drawn = peers_drawn _ _ _ _ _ _ _ c.copy_into.ensures c.without.ensures c.shuffle_and_cap-a.ensures.draws_any in
    let passive_drawn = peers_drawn _ _ _ _ _ _ _ c.copy_into-2.ensures c.without-2.ensures c.shuffle_and_cap-b.ensures.draws_any in
    let chosen = fine_drawn _ _ _ _ _ c.requires.given c.draw_one_of-chosen.ensures.draws_any in
    let asked = fine_drawn _ _ _ _ _ chosen active_drawn in
    let told = fine_drawn _ _ _ _ _ asked passive_drawn in
    one_asked _ _ _ _ _ c.requires.given c.count-neighbors.ensures.0 _ _ c.draw_one_of-chosen.ensures.index_value.0 c.get_index-to.ensures _ _ _ c.if-neighbors-eq0.false
    (with_done _ _ _ _ _ _ _ _ chosen _ active_drawn active
    (passive_done _ _ _ _ _ _ _ _ asked _ _ _ passive_drawn passive c.append.ensures
    (shuffle_told _ _ _ _ _ _ _ _ _ _ _ (room_of _ _ _ told) c.append.ensures.valid c.count-n.ensures.0 c.own_data-own.ensures c.peer_infos-named.ensures c.push.ensures c.send_nodes.ensures)))
    c.draw_one_of-chosen.ensures.draws_any
