-- The active view: peers that leave it and peers that enter it.
-- Assumes nothing.
use Rattle.std.specs.Prelude.{ℕ, Bool, true, false, not, ◌&&◌, ◌||◌, List, [], ◌∷◌, ◌++◌, length, get_or}
use Rattle.base_lists.specs.Lists.{choose, null, index_of, swap_remove, insert, without, renew}
use Rattle.base_lists.specs.Maps.{lookup}
use Rattle.base_timing.specs.Timing.{max_recent_neighbors}
use Rattle.base_peer.specs.Data.{Data}
use Rattle.record.specs.Kinds.{NeighborUp, NeighborDown, output_byte}
use Rattle.spec_hyparview.specs.Station.{Station, automatic, recovery, is_me, in_active, active_is_full, without_pin}
use Rattle.spec_hyparview.specs.Setters.{set_active, set_passes_short, set_recent, set_alive, set_refused, set_refill, set_pins}
use Rattle.spec_hyparview.specs.Run.{Run, on, emit, picked, draw_one_of, notice}
use Rattle.spec_hyparview.specs.Peers.{insert_peer_info, drop_data, drop_mark, forget_peer, add_passive, remove_passive, is_marked}
use Rattle.spec_hyparview.specs.Sending.{send_disconnect, reply_neighbor}
use Rattle.spec_hyparview.specs.Refill.{unless_recovery, start_refill}

-- RemovalReason: the connection broke, a Disconnect came, alive or not, or room is made for a peer of high priority
pub data Reason : Type 0 where
  connection_closed : Reason
  disconnect_received : Bool → Reason
  random : Reason

-- remove_active_by_index

unfoldable pub drop_pin : ℕ → Station → Station
drop_pin p s = set_pins (without p s.pins) s

-- 02, S-14: "A pin ends when the peer leaves the active view": p leaves, and those of `rest` stay. Every way out of the view is by this.
unfoldable pub leave_active : ℕ → List ℕ → Station → Station
unfolding drop_pin
leave_active p rest s = set_active rest (drop_pin p s)

-- `remove_index`: the last one moves into the gap
unfoldable pub swap_active : ℕ → Station → Station
unfolding leave_active
swap_active i s = leave_active (get_or s.active i 0) (swap_remove i s.active) s

unfoldable pub drop_active : ℕ → Run → Run
drop_active i r = emit (notice (output_byte NeighborDown) (get_or r.station.active i 0)) (on (swap_active i) r)

-- into the passive view; the data is taken out and put in again, so it is announced again
unfoldable pub demote : ℕ → Run → Run
demote p r = add_passive p (lookup p r.station.peer_data) (on (drop_data p) r)

-- the next close of its connection does not cost p its place in the passive view
unfoldable pub mark_alive : ℕ → Station → Station
mark_alive p s = set_alive (insert p s.alive) s

-- into the passive view with a mark, which saves it there when its connection is closed next
unfoldable pub demote_alive : ℕ → Run → Run
demote_alive p r = on (mark_alive p) (demote p r)

-- a neighbour that bears a mark stays as a passive peer, and the mark is used up
unfoldable pub settle_closed : ℕ → Run → Run
settle_closed p r = choose (is_marked p r.station) (demote p (on (drop_mark p) r)) (forget_peer p r)

-- a neighbour picked at random is the only one that does not know yet, so it alone is sent a Disconnect
unfoldable pub settle : Reason → ℕ → Run → Run
settle connection_closed p r = settle_closed p r
settle (disconnect_received true) p r = demote_alive p r
settle (disconnect_received false) p r = forget_peer p r
settle random p r = demote_alive p (send_disconnect p true r)

-- remove_active_by_index
unfoldable pub remove_active_by_index : ℕ → Reason → Run → Run
remove_active_by_index i why r = settle why (get_or r.station.active i 0) (drop_active i r)

unfoldable pub clear_refused : Station → Station
clear_refused s = set_refused [] s

-- the peer that is gone may have left room with those that refused, so they are asked again
unfoldable pub refill_after : ℕ → Run → Run
refill_after p r = start_refill recovery (p ∷ []) (on clear_refused r)

-- remove_active
unfoldable pub remove_active : ℕ → Reason → Run → Run
remove_active p why r =
    choose (in_active p r.station) (refill_after p (remove_active_by_index (index_of p r.station.active) why r)) r

-- 02, S-14: "Whom to demote is picked from the neighbours without a pin"; it leaves by its place in the whole view
unfoldable pub remove_picked : Run → Run
remove_picked r =
    remove_active_by_index (index_of (picked (without_pin r.station) r) r.station.active) random
    (draw_one_of (length (without_pin r.station)) r)

-- free_random_slot_in_active_view
unfoldable pub free_random_slot_in_active_view : Run → Run
free_random_slot_in_active_view r = choose (null (without_pin r.station)) r (remove_picked r)

-- add_active_unchecked

-- remember_neighbor: whom a station with empty views asks to let it in again, should its bootstrap peers be gone
unfoldable pub remember_neighbor : ℕ → Station → Station
remember_neighbor p s = set_recent (renew max_recent_neighbors p s.recent) s

unfoldable pub push_active : ℕ → Station → Station
push_active p s = set_active (s.active ++ (p ∷ [])) s

-- out of the passive view, into the active one and to the end of the recent neighbours; the callers have seen that p is not active
unfoldable pub move_in : ℕ → Station → Station
move_in p s = remember_neighbor p (push_active p (drop_mark p (remove_passive p s)))

-- one neighbour gained does not end a recovery: more than one may have been lost
unfoldable pub gain_neighbor : Station → Station
gain_neighbor s = set_passes_short 0 (set_refill (unless_recovery s.refill automatic) s)

unfoldable pub enter_active : ℕ → Run → Run
enter_active p r = on gain_neighbor (emit (notice (output_byte NeighborUp) p) (on (move_in p) r))

-- add_active_unchecked
unfoldable pub add_active_unchecked : ℕ → Bool → Bool → Run → Run
add_active_unchecked p high reply r = reply_neighbor reply p high (enter_active p r)

-- add_active

-- at a full view a peer of high priority takes a random neighbour's place
unfoldable pub admit_full : ℕ → Bool → Bool → Run → Run
admit_full p high reply r = choose high (add_active_unchecked p high reply (free_random_slot_in_active_view r)) r

unfoldable pub admit_new : ℕ → Bool → Bool → Run → Run
admit_new p high reply r =
    choose (active_is_full r.station) (admit_full p high reply r) (add_active_unchecked p high reply r)

-- a neighbour that asks again is answered again
unfoldable pub admit : ℕ → Bool → Bool → Run → Run
admit p high reply r = choose (in_active p r.station) (reply_neighbor reply p high r) (admit_new p high reply r)

-- add_active
unfoldable pub add_active : ℕ → Data → Bool → Bool → Run → Run
add_active p d high reply r = choose (is_me p r.station) r (admit p high reply (insert_peer_info p d r))

-- what add_active answers: that p is a neighbour after it
unfoldable pub accepts : ℕ → Bool → Station → Bool
accepts p high s = not (is_me p s) && (in_active p s || (high || not (active_is_full s)))
