-- What the station holds of other peers: their data, and the passive view.
-- Assumes nothing.
use Rattle.std.specs.Prelude.{ℕ, Bool, false, not, ◌&&◌, ◌||◌, List, [], ◌∷◌, ◌++◌, length, get_or, ltb}
use Rattle.std.proofs.Math.Option.{Option, none, some}
use Rattle.base_lists.specs.Lists.{choose, null, mem, shift_remove, remove, without}
use Rattle.base_lists.specs.Maps.{has, lookup, cut, put}
use Rattle.base_peer.specs.Data.{Data, Node, holds}
use Rattle.record.specs.Kinds.{Evicted, output_byte}
use Rattle.spec_hyparview.specs.Station.{Station, is_me, in_view, passive_is_full, max_peer_data}
use Rattle.spec_hyparview.specs.Setters.{set_passive, set_peer_data, set_alive}
use Rattle.spec_hyparview.specs.Run.{Run, on, emit, require, one_of, draw_one_of, picked, notice, data_notice}

-- insert_peer_info

-- own data, and data that is held already, are not stored
unfoldable pub is_known : ℕ → List ℕ → Station → Bool
is_known p b s = is_me p s || holds (lookup p s.peer_data) b

-- code 8: "an 81st data entry is needed"
unfoldable pub data_fits : ℕ → Station → Bool
data_fits p s = has p s.peer_data || ltb (length s.peer_data) max_peer_data

unfoldable pub store_data : ℕ → List ℕ → Station → Station
store_data p b s = set_peer_data (put p b s.peer_data) s

unfoldable pub keep_data : ℕ → List ℕ → Run → Run
keep_data p b r = on (store_data p b) (require 8 (data_fits p r.station) r)

-- empty data is stored, but not announced
unfoldable pub announce_data : ℕ → List ℕ → Run → Run
announce_data p b r = choose (null b) r (emit (data_notice p b) r)

unfoldable pub insert_data : ℕ → List ℕ → Run → Run
insert_data p b r = choose (is_known p b r.station) r (keep_data p b (announce_data p b r))

-- insert_peer_info
unfoldable pub insert_peer_info : ℕ → Data → Run → Run
insert_peer_info p none r = r
insert_peer_info p (some b) r = insert_data p b r

-- forget_peer

unfoldable pub drop_data : ℕ → Station → Station
drop_data p s = set_peer_data (cut p s.peer_data) s

unfoldable pub drop_mark : ℕ → Station → Station
drop_mark p s = set_alive (without p s.alive) s

-- data and a mark tell of a peer in a view, so that each way out of a view must take them too
unfoldable pub drop_traces : ℕ → Station → Station
drop_traces p s = drop_mark p (drop_data p s)

-- forget_peer; a caller may not know whether the peer has entered a view meanwhile, so that is asked here: the timer of a request may
-- expire when its peer has become a neighbour by another message
unfoldable pub forget_peer : ℕ → Run → Run
forget_peer p r = choose (in_view p r.station) r (on (drop_traces p) r)

-- add_passive

-- `remove_random` keeps the order
unfoldable pub shift_passive : ℕ → Station → Station
shift_passive i s = set_passive (shift_remove i s.passive) s

unfoldable pub push_passive : ℕ → Station → Station
push_passive p s = set_passive (s.passive ++ (p ∷ [])) s

unfoldable pub evict_at : ℕ → Run → Run
evict_at i r = forget_peer (get_or r.station.passive i 0) (on (shift_passive i) r)

unfoldable pub must_evict : Station → Bool
must_evict s = passive_is_full s && not (null s.passive)

-- 02, S-2: the peer that leaves a full passive view before another enters, as the next draw kept decides
unfoldable pub evicted : Run → Option ℕ
evicted r = choose (must_evict r.station) (some (picked r.station.passive r)) none

-- any passive peer, at random: those that were sent to the other side, which the paper removes first, are not remembered
unfoldable pub evict : Run → Run
evict r = choose (must_evict r.station) (evict_at (one_of (length r.station.passive) r) (draw_one_of (length r.station.passive) r)) r

-- S-2: "an output record of kind 12 .. carries that peer"
unfoldable pub tell_evicted : Option ℕ → Run → Run
tell_evicted none r = r
tell_evicted (some p) r = emit (notice (output_byte Evicted) p) r

-- "stands right after the eviction"
unfoldable pub make_room : Run → Run
make_room r = tell_evicted (evicted r) (evict r)

-- neither the station itself nor in a view
unfoldable pub is_newcomer : ℕ → Station → Bool
is_newcomer p s = not (is_me p s || in_view p s)

unfoldable pub enter_passive : ℕ → Run → Run
enter_passive p r = choose (is_newcomer p r.station) (on (push_passive p) (make_room r)) r

-- add_passive: one more peer to fall back on when neighbours fail; what the Rust answers is `is_newcomer`, which the data do not change
unfoldable pub add_passive : ℕ → Data → Run → Run
add_passive p d r = enter_passive p (insert_peer_info p d r)

-- the same, once the newcomer's data is stored (S-2)
unfoldable pub evicted_for : ℕ → Run → Option ℕ
evicted_for p r = choose (is_newcomer p r.station) (evicted r) none

-- S-2: "Adding to the passive view must name the peer it evicted, if any": what add_passive answers here; of a refused run it says nothing
unfoldable pub evicted_by : ℕ → Data → Run → Option ℕ
evicted_by p d r = evicted_for p (insert_peer_info p d r)

-- the loops of on_shuffle and on_shuffle_reply over a message's nodes
unfoldable pub add_nodes : List Node → Run → Run
add_nodes [] r = r
add_nodes (n ∷ ns) r = add_nodes ns (add_passive n.id n.data_of r)

-- on_shuffle_reply's `new_peers`: whether one of them was added
unfoldable pub any_new : List Node → Run → Bool
any_new [] r = false
any_new (n ∷ ns) r = is_newcomer n.id r.station || any_new ns (add_passive n.id n.data_of r)

-- a peer out of the passive view by `remove`, and what is held of it
unfoldable pub remove_passive : ℕ → Station → Station
remove_passive p s = set_passive (remove p s.passive) s

unfoldable pub drop_passive : ℕ → Run → Run
drop_passive p r = forget_peer p (on (remove_passive p) r)

-- alive_disconnect_peers.remove; p said that it stays alive, so that the close of its connection, which follows, is no failure
unfoldable pub is_marked : ℕ → Station → Bool
is_marked p s = mem p s.alive
