-- What comes from the station's own side: a request to join, a closed connection, a pin, and Quit.
-- Assumes nothing.
use Rattle.std.specs.Prelude.{ℕ, ◌+◌, Bool, false, ◌||◌, List, [], ◌∷◌, length, get_or, ltb}
use Rattle.base_lists.specs.Lists.{choose, remove, without, insert, renew}
use Rattle.base_lists.specs.Maps.{cut, put}
use Rattle.base_timing.specs.Timing.{max_bootstrap_peers, join_retry_delay}
use Rattle.base_peer.specs.Data.{Data}
use Rattle.record.specs.Kinds.{RetryJoin, kind_byte}
use Rattle.spec_hyparview.specs.Station.{Station, is_me, in_active, is_requested, is_pinned, most_pins, top_counter}
use Rattle.spec_hyparview.specs.Setters.{set_own_data, set_passive, set_bootstrap, set_requests, set_joins, set_next_join, set_peer_data, set_alive, set_refused, set_pins}
use Rattle.spec_hyparview.specs.Run.{Run, on, emit, require, timer}
use Rattle.spec_hyparview.specs.Peers.{drop_data, drop_mark, remove_passive, is_marked}
use Rattle.spec_hyparview.specs.Sending.{join, send_disconnect}
use Rattle.spec_hyparview.specs.Refill.{refill_active_from_passive}
use Rattle.spec_hyparview.specs.Active.{connection_closed, remove_active, leave_active}
use Rattle.spec_hyparview.specs.Messages.{drop_request}

-- handle_join

-- p would be one too many
unfoldable pub must_drop_oldest : ℕ → Station → Bool
must_drop_oldest p s = ltb max_bootstrap_peers (length (without p s.bootstrap) + 1)

-- the oldest bootstrap peer but p
unfoldable pub oldest : ℕ → Station → ℕ
oldest p s = get_or (without p s.bootstrap) 0 0

-- "A ninth bootstrap peer evicts the oldest and its pending join."
unfoldable pub drop_oldest_join : ℕ → Station → Station
drop_oldest_join p s = set_joins (choose (must_drop_oldest p s) (cut (oldest p s) s.joins) s.joins) s

-- the latest contacts, oldest first: a station with empty views joins through each of them again
unfoldable pub push_bootstrap : ℕ → Station → Station
push_bootstrap p s = set_bootstrap (renew max_bootstrap_peers p s.bootstrap) (drop_oldest_join p s)

-- code 10 for joins
unfoldable pub join_counts : Station → Bool
join_counts s = ltb s.next_join top_counter

-- the number tells the retry of this Join from that of an earlier one to p
unfoldable pub note_join : ℕ → Station → Station
note_join p s = set_joins (put p s.next_join s.joins) (set_next_join (s.next_join + 1) s)

unfoldable pub open_join : ℕ → Run → Run
open_join p r = on (note_join p) (require 10 (join_counts r.station) r)

-- a Join may be lost without a sign, so it is sent once more after a while, whatever neighbours there are by then
unfoldable pub await_join : ℕ → Run → Run
await_join p r = emit (timer (kind_byte RetryJoin) p join_retry_delay r.station.next_join) (open_join p r)

-- the station itself gets a Join, but no retry
unfoldable pub join_other : ℕ → Run → Run
join_other p r = choose (is_me p r.station) (join p r) (await_join p (join p r))

-- a neighbour is not sent a Join: it would tell all its neighbours of it, and views would change for nothing
unfoldable pub join_new : ℕ → Run → Run
join_new p r = choose (in_active p r.station) r (join_other p r)

-- handle_join
unfoldable pub handle_join : ℕ → Run → Run
handle_join p r = join_new p (on (push_bootstrap p) r)

-- handle_connection_closed

unfoldable pub drop_dead : ℕ → Station → Station
drop_dead p s = drop_data p (remove_passive p s)

-- a mark saves a passive peer once: this may be the close that follows its alive Disconnect
unfoldable pub lose_passive : ℕ → Run → Run
lose_passive p r = choose (is_marked p r.station) (on (drop_mark p) r) (on (drop_dead p) r)

-- an open request to p has failed with its dial, and its timer is not waited for
unfoldable pub lose_other : ℕ → Bool → Run → Run
lose_other p requested r =
    choose requested (refill_active_from_passive (p ∷ []) (lose_passive p r)) (lose_passive p r)

unfoldable pub lose : ℕ → Bool → Run → Run
lose p requested r =
    choose (in_active p r.station) (remove_active p connection_closed r) (lose_other p requested r)

-- handle_connection_closed
unfoldable pub handle_connection_closed : ℕ → Run → Run
handle_connection_closed p r = lose p (is_requested p r.station) (on (drop_request p) r)

-- UpdatePeerData
unfoldable pub update_own_data : Data → Station → Station
update_own_data d s = set_own_data d s

-- 02, S-14: Pin, which the Rust does not have

-- one more may be pinned
unfoldable pub pins_left : Station → Bool
pins_left s = ltb (length s.pins) (most_pins s)

unfoldable pub note_pin : ℕ → Station → Station
note_pin p s = set_pins (insert p s.pins) s

-- "17, peer is not active"
unfoldable pub require_neighbor : ℕ → Run → Run
require_neighbor p r = require 17 (in_active p r.station) r

-- "18, the pin limit is reached and the peer has no pin"; "Pinning twice changes nothing"
unfoldable pub pin_neighbor : ℕ → Run → Run
pin_neighbor p r = on (note_pin p) (require 18 (is_pinned p r.station || pins_left r.station) r)

-- "17 first"
unfoldable pub handle_pin : ℕ → Run → Run
handle_pin p r = pin_neighbor p (require_neighbor p r)

-- handle_quit

unfoldable pub remove_neighbor : ℕ → Station → Station
unfolding leave_active
remove_neighbor p s = leave_active p (remove p s.active) s

-- not alive: whoever is told forgets the station, which can let nobody in any more
unfoldable pub quit_one : ℕ → Run → Run
quit_one p r = send_disconnect p false (on (remove_neighbor p) r)

unfoldable pub quit_all : List ℕ → Run → Run
quit_all [] r = r
quit_all (p ∷ ps) r = quit_all ps (quit_one p r)

unfoldable pub clear_all : Station → Station
clear_all s = set_requests [] (set_passive [] (set_peer_data [] (set_alive [] (set_refused [] s))))

-- handle_quit: over a copy of the active view, in its old order; without NeighborDown, as the station's own user asked for it
unfoldable pub handle_quit : Run → Run
handle_quit r = on clear_all (quit_all r.station.active r)
