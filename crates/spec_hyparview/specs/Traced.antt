-- For cases that are evaluated: everything that an answer unfolds to.
-- Assumes nothing.
use Rattle.std.specs.Prelude.{ℕ, List}
use Rattle.std.specs.Int.Count.{ones}
use Rattle.base_lists.specs.Lists.{choose, null, mem, index_of, shift_remove, swap_remove, remove, without, without_all, place, insert, renew, swap, distinct, rising, same, subset, disjoint}
use Rattle.base_lists.specs.Maps.{keys, values, has, lookup, cut, retain, replace, place_entry, put}
use Rattle.base_lists.specs.Bytes.{le, read_le}
use Rattle.base_timing.specs.Timing.{expired, next, within, in_range, backoff_due, delay}
use Rattle.base_util.specs.Chances.{kept_end, is_kept, passed_over, pick_draws, pick, shuffle_down, draws_down, shuffle, shuffle_draws}
use Rattle.base_peer.specs.Data.{bytes_of, holds}
use Rattle.base_peer.specs.Maps.{numbers_under}
use Rattle.record.specs.Kinds.{event_kind}
use Rattle.record.specs.Format.{present, offset, entry_by, entries_by, datas, size_by, header_by, encode_by}
use Rattle.record.specs.Read.{fixed_size, header_of_by, entry_from, entry_at_by, is_message, is_timer, is_data, kind_ok, flags_ok, count_ok, peer_ok, fields_ok, header_ok, data_ok, entry_ok, entries_ok_by, well_formed_by, data_at, node_at_by, nodes_of_by, rec_of_by, decode_by, is_event, read_event}
use Rattle.spec_hyparview.specs.Station.{Station, is_me, in_active, in_passive, in_view, is_requested, is_alone, active_is_full, passive_is_full, is_short, is_last_hop, is_recovery, is_automatic, is_spent, asked_outside, recovery_is_over, most_pins, without_pin, is_pinned, data_peers}
use Rattle.spec_hyparview.specs.Run.{guard, on, emit, draw, require, drawn, to_draw, one_of, draw_one_of, picked, shuffled, draw_shuffle, emit_all, flag, peer_info, peer_infos}
use Rattle.spec_hyparview.specs.Peers.{is_known, data_fits, store_data, keep_data, announce_data, insert_data, insert_peer_info, drop_data, drop_mark, drop_traces, forget_peer, shift_passive, push_passive, evict_at, must_evict, evicted, evict, tell_evicted, make_room, is_newcomer, enter_passive, add_passive, add_nodes, any_new, remove_passive, drop_passive, is_marked}
use Rattle.spec_hyparview.specs.Sending.{join_to, join, send_nodes, fill_active, send_filled, reply_with, send_shuffle_reply, reply_length, send_disconnect, request_counts, request_fits, note_request, count_request, open_request, neighbor_to, tell_request, send_neighbor, reply_neighbor}
use Rattle.spec_hyparview.specs.Refill.{unless_recovery, one_less, use_request, end_recovery, needs_limit, limit_short, skipped, candidates, ask_picked, ask_one, refill_limited, needs_none, refill_active_from_passive, begin_refill, start_refill}
use Rattle.spec_hyparview.specs.Active.{drop_pin, leave_active, swap_active, drop_active, demote, mark_alive, demote_alive, settle_closed, settle, remove_active_by_index, clear_refused, refill_after, remove_active, remove_picked, free_random_slot_in_active_view, remember_neighbor, push_active, move_in, gain_neighbor, enter_active, add_active_unchecked, admit_full, admit_new, admit, add_active, accepts}
use Rattle.spec_hyparview.specs.Messages.{drop_join, drop_request, drop_pending, forward_join_to, forward_joins, on_join, ends_here, ask_joiner, learn_joiner, forward_join_on, walk_on, on_forward_join, answers_shuffle, answer_shuffle, forward_shuffle, on_shuffle, stops_at_refusal, renews_limit, refill_with, after_reply, on_shuffle_reply, refuse_neighbor, answer_neighbor, on_neighbor, drop_recent, forget_recent, refused_fits, add_refused, note_refused, note_refusal, mark_passive, left_topic, disconnect_other, disconnected, on_disconnect}
use Rattle.spec_hyparview.specs.Events.{must_drop_oldest, oldest, drop_oldest_join, push_bootstrap, join_counts, note_join, open_join, await_join, join_other, join_new, handle_join, drop_dead, lose_passive, lose_other, lose, handle_connection_closed, update_own_data, pins_left, note_pin, require_neighbor, pin_neighbor, handle_pin, remove_neighbor, quit_one, quit_all, clear_all, handle_quit}
use Rattle.spec_hyparview.specs.Timers.{is_number, request_is, request_failed, handle_pending_neighbor_timer, join_is, retry_join, double_interval, schedule_shuffle, shuffle_nodes, send_shuffle, active_sample, passive_sample, shuffle_passive, shuffle_with, shuffle_any, handle_shuffle_timer, renew_all, remember_all, other_recent, rejoin_recent, rejoin_bootstrap, rejoin, alone_counts, add_alone, count_alone, rejoin_if_due, pass_alone, short_counts, add_short, count_short, refill_anew, refill_if_due, in_recovery, pass_short, pass_neighbors, pass_known, not_alone, knows_none, maintain, schedule_maintenance, handle_maintenance_timer}
use Rattle.spec_hyparview.specs.Rules.{all_hold, all_under, lists_under, all_short, short_data, limit_ok, settings_rule, repeats_rule, order_rule, capacity_rule, views_rule, alive_rule, few_rule, joins_rule, numbers_rule, self_rule, room_rule, data_rule, limit_rule, interval_rule, width_rule, held_rule, pins_rule, rules, station_ok}
use Rattle.spec_hyparview.specs.Handle.{Result, new_station, zero_config, zero_station, new, first_node, first_data, is_high, says_alive, handle_message, handle_kind, dispatch, note_scheduled, first_timers, forget_declined, steps, refusal, accepted, finish, handle_reading, handle}

-- `handle`, which a proof that says `unfolding traced` can evaluate
unfoldable pub traced : Station → List ℕ → List ℕ → ℕ → Result
unfolding ones choose null mem index_of shift_remove swap_remove remove without without_all place insert renew swap distinct rising same keys values has lookup cut retain replace place_entry put le read_le expired next within in_range backoff_due delay kept_end is_kept passed_over pick_draws pick shuffle_down draws_down shuffle shuffle_draws bytes_of present offset entry_by entries_by datas size_by header_by encode_by fixed_size header_of_by entry_from entry_at_by is_message is_timer is_data kind_ok flags_ok count_ok peer_ok fields_ok header_ok data_ok entry_ok entries_ok_by well_formed_by data_at node_at_by nodes_of_by rec_of_by decode_by is_event read_event is_me in_active in_passive in_view is_requested is_alone active_is_full passive_is_full is_short is_last_hop is_recovery is_automatic is_spent asked_outside recovery_is_over most_pins without_pin is_pinned data_peers guard on emit draw require drawn to_draw one_of draw_one_of picked shuffled draw_shuffle emit_all flag peer_info peer_infos holds is_known data_fits store_data keep_data announce_data insert_data insert_peer_info drop_data drop_mark drop_traces forget_peer shift_passive push_passive evict_at must_evict evicted evict tell_evicted make_room is_newcomer enter_passive add_passive add_nodes any_new remove_passive drop_passive is_marked join_to join send_nodes fill_active send_filled reply_with send_shuffle_reply reply_length send_disconnect request_counts request_fits note_request count_request open_request neighbor_to tell_request send_neighbor reply_neighbor unless_recovery one_less use_request end_recovery needs_limit limit_short skipped candidates ask_picked ask_one refill_limited needs_none refill_active_from_passive begin_refill start_refill drop_pin leave_active swap_active drop_active demote mark_alive demote_alive settle_closed settle remove_active_by_index clear_refused refill_after remove_active remove_picked free_random_slot_in_active_view remember_neighbor push_active move_in gain_neighbor enter_active add_active_unchecked admit_full admit_new admit add_active accepts drop_join drop_request drop_pending forward_join_to forward_joins on_join ends_here ask_joiner learn_joiner forward_join_on walk_on on_forward_join answers_shuffle answer_shuffle forward_shuffle on_shuffle stops_at_refusal renews_limit refill_with after_reply on_shuffle_reply refuse_neighbor answer_neighbor on_neighbor drop_recent forget_recent refused_fits add_refused note_refused note_refusal mark_passive left_topic disconnect_other disconnected on_disconnect must_drop_oldest oldest drop_oldest_join push_bootstrap join_counts note_join open_join await_join join_other join_new handle_join drop_dead lose_passive lose_other lose handle_connection_closed update_own_data pins_left note_pin require_neighbor pin_neighbor handle_pin remove_neighbor quit_one quit_all clear_all handle_quit is_number request_is request_failed handle_pending_neighbor_timer join_is retry_join double_interval schedule_shuffle shuffle_nodes send_shuffle active_sample passive_sample shuffle_passive shuffle_with shuffle_any handle_shuffle_timer renew_all remember_all other_recent rejoin_recent rejoin_bootstrap rejoin alone_counts add_alone count_alone rejoin_if_due pass_alone short_counts add_short count_short refill_anew refill_if_due in_recovery pass_short pass_neighbors pass_known not_alone knows_none maintain schedule_maintenance handle_maintenance_timer all_hold subset disjoint all_under lists_under numbers_under all_short short_data limit_ok settings_rule repeats_rule order_rule capacity_rule views_rule alive_rule few_rule joins_rule numbers_rule self_rule room_rule data_rule limit_rule interval_rule width_rule held_rule pins_rule rules station_ok new_station zero_config zero_station new first_node first_data is_high says_alive handle_message event_kind handle_kind dispatch note_scheduled first_timers forget_declined steps refusal accepted finish handle_reading handle
traced s b ds room = handle s b ds room
