-- The four timers.
-- Assumes nothing.
use Rattle.std.specs.Prelude.{ℕ, ◌+◌, ◌*◌, min, Bool, false, ◌&&◌, List, [], ◌∷◌, ◌++◌, length, take, ltb, eqb}
use Rattle.std.proofs.Math.Option.{Option, none, some}
use Rattle.base_lists.specs.Lists.{choose, null, without, without_all, renew}
use Rattle.base_lists.specs.Maps.{lookup}
use Rattle.base_timing.specs.Timing.{max_recent_neighbors, maintenance_interval, backoff_due, delay}
use Rattle.base_peer.specs.Data.{Node}
use Rattle.record.specs.Kinds.{DoShuffle, DoMaintenance, kind_byte}
use Rattle.spec_hyparview.specs.Station.{Station, recovery, is_alone, is_short, is_recovery, top_passes}
use Rattle.spec_hyparview.specs.Setters.{set_next_interval, set_passes_alone, set_passes_short, set_recent}
use Rattle.spec_hyparview.specs.Run.{Run, on, emit, draw, require, drawn, draw_one_of, picked, shuffled, draw_shuffle, emit_all, node, message, timer, peer_infos}
use Rattle.spec_hyparview.specs.Peers.{drop_passive}
use Rattle.spec_hyparview.specs.Sending.{join_to, join}
use Rattle.spec_hyparview.specs.Refill.{few_requests, end_recovery, refill_active_from_passive, start_refill}
use Rattle.spec_hyparview.specs.Active.{clear_refused}
use Rattle.spec_hyparview.specs.Messages.{drop_join, drop_request}

-- whether a timer is that of what is open now
unfoldable pub is_number : ℕ → Option ℕ → Bool
is_number n none = false
is_number n (some m) = eqb n m

-- handle_pending_neighbor_timer; a timer with another number is that of an earlier Neighbor, and nothing happens

unfoldable pub request_is : ℕ → ℕ → Station → Bool
request_is p id s = is_number id (lookup p s.requests)

-- a request: p is taken as failed, and another is asked. An answer, which nobody answers: p is a neighbour and keeps its data, only the
-- note goes, and another is asked only where the active view has room
unfoldable pub request_failed : ℕ → Run → Run
request_failed p r = refill_active_from_passive [] (drop_passive p (on (drop_request p) r))

unfoldable pub handle_pending_neighbor_timer : ℕ → ℕ → Run → Run
handle_pending_neighbor_timer p id r = choose (request_is p id r.station) (request_failed p r) r

-- RetryJoin: "`RetryJoin` sends once."

unfoldable pub join_is : ℕ → ℕ → Station → Bool
join_is p id s = is_number id (lookup p s.joins)

unfoldable pub retry_join : ℕ → ℕ → Run → Run
retry_join p id r = choose (join_is p id r.station) (join p (on (drop_join p) r)) r

-- schedule_shuffle

-- the next interval is twice as long, and at most the setting: a join brings few passive peers, those that its walks met, so the first
-- shuffles come close together to fill the view; the paper's period is fixed
unfoldable pub double_interval : Station → Station
double_interval s = set_next_interval (min (2 * s.next_interval) s.config.shuffle_interval) s

-- the delay is of the interval before it was doubled; it varies by a quarter, or stations that started together would go on shuffling all
-- at once
unfoldable pub schedule_shuffle : Run → Run
schedule_shuffle r = emit (timer (kind_byte DoShuffle) 0 (delay r.station.next_interval (drawn r)) 0) (draw 1 (on double_interval r))

-- handle_shuffle_timer

-- the nodes chosen, and the station itself last, so that others learn of it
unfoldable pub shuffle_nodes : List ℕ → Station → List Node
shuffle_nodes ps s = peer_infos s ps ++ (node s.me s.own_data ∷ [])

unfoldable pub send_shuffle : ℕ → List ℕ → Run → Run
send_shuffle to ps r =
    emit (message 2 to 0 r.station.me r.station.config.shuffle_random_walk_length (shuffle_nodes ps r.station)) r

-- shuffled_without_and_capped, of each view; not the neighbour that it is sent to, which knows itself
unfoldable pub active_sample : ℕ → Run → List ℕ
active_sample to r = take r.station.config.shuffle_active_view_count (shuffled (without to r.station.active) r)

unfoldable pub passive_sample : ℕ → Run → List ℕ
passive_sample to r = take r.station.config.shuffle_passive_view_count (shuffled (without to r.station.passive) r)

unfoldable pub shuffle_passive : ℕ → List ℕ → Run → Run
shuffle_passive to acts r =
    send_shuffle to (acts ++ passive_sample to r) (draw_shuffle (without to r.station.passive) r)

unfoldable pub shuffle_with : ℕ → Run → Run
shuffle_with to r = shuffle_passive to (active_sample to r) (draw_shuffle (without to r.station.active) r)

unfoldable pub shuffle_any : Run → Run
shuffle_any r = choose (is_alone r.station) r (shuffle_with (picked r.station.active r) (draw_one_of (length r.station.active) r))

-- handle_shuffle_timer
unfoldable pub handle_shuffle_timer : Run → Run
handle_shuffle_timer r = schedule_shuffle (shuffle_any r)

-- handle_maintenance_timer

-- neighbours that are still there become the latest seen, so that others who come and go do not push them out
unfoldable pub renew_all : List ℕ → List ℕ → List ℕ
renew_all [] xs = xs
renew_all (p ∷ ps) xs = renew_all ps (renew max_recent_neighbors p xs)

unfoldable pub remember_all : Station → Station
remember_all s = set_recent (renew_all s.active s.recent) s

-- the recent neighbours that are no bootstrap peers, which get a Join anyway
unfoldable pub other_recent : Station → List ℕ
other_recent s = without_all s.bootstrap s.recent

unfoldable pub rejoin_recent : List ℕ → Run → Run
rejoin_recent from r = choose (null from) r (join (picked from r) (draw_one_of (length from) r))

unfoldable pub rejoin_bootstrap : Run → Run
rejoin_bootstrap r = emit_all (join_to r.station.own_data) r.station.bootstrap r

unfoldable pub rejoin : Run → Run
rejoin r = rejoin_recent (other_recent r.station) (rejoin_bootstrap r)

-- code 10 for the passes alone
unfoldable pub alone_counts : Station → Bool
alone_counts s = ltb s.passes_alone top_passes

unfoldable pub add_alone : Station → Station
add_alone s = set_passes_alone (s.passes_alone + 1) s

unfoldable pub count_alone : Run → Run
count_alone r = on add_alone (require 10 (alone_counts r.station) r)

unfoldable pub rejoin_if_due : Run → Run
rejoin_if_due r = choose (backoff_due r.station.passes_alone) (rejoin r) r

-- with both views empty nothing but a Join brings peers, as a shuffle needs a neighbour: to the bootstrap peers and, as they may all be
-- gone, to one recent neighbour
unfoldable pub pass_alone : Run → Run
pass_alone r = rejoin_if_due (count_alone r)

-- code 10 for the short passes
unfoldable pub short_counts : Station → Bool
short_counts s = ltb s.passes_short top_passes

unfoldable pub add_short : Station → Station
add_short s = set_passes_short (s.passes_short + 1) s

unfoldable pub count_short : Run → Run
count_short r = on add_short (require 10 (short_counts r.station) r)

-- who refused may have room by now, and is asked again
unfoldable pub refill_anew : Run → Run
refill_anew r = start_refill few_requests [] (on clear_refused r)

-- its passive peers are probably full, so it tries them less and less often
unfoldable pub refill_if_due : Run → Run
refill_if_due r = choose (backoff_due r.station.passes_short) (refill_anew r) r

-- the passes of a short station are not counted while it recovers, as it then asks without a limit
unfoldable pub in_recovery : Station → Bool
in_recovery s = is_recovery s.refill

unfoldable pub pass_short : Run → Run
pass_short r = choose (in_recovery r.station) r (refill_if_due (count_short r))

unfoldable pub pass_neighbors : Run → Run
pass_neighbors r = choose (is_short r.station) (pass_short r) (on clear_refused r)

-- a station with passive peers alone recovers at every pass, as nobody refuses its high priority; one with neighbours is filled up only
-- when short, and at passes further and further apart
unfoldable pub pass_known : Run → Run
pass_known r = choose (is_alone r.station) (start_refill recovery [] r) (pass_neighbors r)

-- passes_alone = 0, and a recovery without an open request ends
unfoldable pub not_alone : Station → Station
not_alone s = end_recovery (set_passes_alone 0 s)

-- both views empty
unfoldable pub knows_none : Station → Bool
knows_none s = null s.active && null s.passive

-- nothing of this is in the paper: a station whose views are empty cannot shuffle, and would stay alone
unfoldable pub maintain : Run → Run
maintain r = choose (knows_none r.station) (pass_alone r) (pass_known (on not_alone r))

unfoldable pub schedule_maintenance : Run → Run
schedule_maintenance r = emit (timer (kind_byte DoMaintenance) 0 maintenance_interval 0) r

-- handle_maintenance_timer
unfoldable pub handle_maintenance_timer : Run → Run
handle_maintenance_timer r = schedule_maintenance (maintain (on remember_all r))
