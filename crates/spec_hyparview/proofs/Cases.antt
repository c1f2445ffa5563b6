-- Worked cases, evaluated: document 01's listing and the event after it, and the example of each refusal in its table.
-- Assumes nothing.
use Prim.Native.Nat.{ℕ, zero, suc}
use mathlib.Core.Bool.{true}
use mathlib.Core.List.{List, [], ◌∷◌, ◌++◌}
use mathlib.Core.Option.{none, some}
use mathlib.Core.Path.{◌≡◌, refl}
use lib.ListN.{replicate}
use Rattle.base_timing.specs.Timing.{default}
use Rattle.base_timing.specs.declared.Config.{Config}
use Rattle.base_peer.specs.Data.{Data}
use Rattle.record.specs.Format.{encode}
use Rattle.spec_hyparview.specs.Station.{Station}
use Rattle.spec_hyparview.specs.Setters.{set_active, set_passive, set_scheduled, set_next_interval, set_bootstrap, set_recent, set_requests, set_next_request, set_joins, set_next_join, set_peer_data, set_refused, set_pins}
use Rattle.record.specs.Kinds.{PeerDisconnected, Quit, Pin, kind_byte}
use Rattle.spec_hyparview.specs.Run.{node, message, notice, data_notice}
use Rattle.spec_hyparview.specs.Peers.{insert_peer_info}
use Rattle.spec_hyparview.specs.Handle.{new, new_station, zero_station, start, handle}
use Rattle.spec_hyparview.specs.Traced.{traced}

-- station 1 with the default settings, as `new` makes it
abbrev pub fresh : Station
fresh = new_station 1 none default

-- the default settings are in range
pub default_is_fine : new 1 none default ≡ record { code = 0; state = fresh }
unfolding traced default
default_is_fine = refl

-- "Self 1, default settings, RequestJoin 7, one draw 0"
abbrev pub request_join_7 : List ℕ
request_join_7 =
    6 ∷ 0 ∷ 0 ∷ 0 ∷ 7 ∷ 0 ∷ 0 ∷ 0 ∷ 0 ∷ 0 ∷ 0 ∷ 0 ∷ 0 ∷ 0 ∷ 0 ∷ 0 ∷ 0 ∷ 0 ∷ 0 ∷ 0 ∷ 0 ∷ 0 ∷ 32 ∷ 0 ∷ 0 ∷ 0 ∷ 0 ∷ 0 ∷ 0 ∷ 0 ∷ 0 ∷ 0 ∷ []

-- the listing's four records: Join to 7; RetryJoin after 10 s, DoShuffle after 750 ms, DoMaintenance after 5 s
abbrev pub listed : List ℕ
listed =
    0 ∷ 0 ∷ 0 ∷ 1 ∷ 7 ∷ 0 ∷ 0 ∷ 0 ∷ 0 ∷ 0 ∷ 0 ∷ 0 ∷ 0 ∷ 0 ∷ 0 ∷ 0 ∷ 0 ∷ 0 ∷ 0 ∷ 0 ∷ 0 ∷ 0 ∷ 44 ∷ 0 ∷ 0 ∷ 0 ∷ 0 ∷ 0 ∷ 0 ∷ 0 ∷ 0 ∷ 0
    ∷ 0 ∷ 0 ∷ 0 ∷ 0 ∷ 0 ∷ 0 ∷ 0 ∷ 0 ∷ 0 ∷ 0 ∷ 0 ∷ 0 ∷ 4 ∷ 0 ∷ 0 ∷ 0 ∷ 7 ∷ 0 ∷ 0 ∷ 0 ∷ 0 ∷ 0 ∷ 0 ∷ 0 ∷ 16 ∷ 39 ∷ 0 ∷ 0 ∷ 0 ∷ 0 ∷ 0 ∷ 0
    ∷ 0 ∷ 0 ∷ 32 ∷ 0 ∷ 0 ∷ 0 ∷ 0 ∷ 0 ∷ 0 ∷ 0 ∷ 0 ∷ 0 ∷ 1 ∷ 0 ∷ 0 ∷ 0 ∷ 0 ∷ 0 ∷ 0 ∷ 0 ∷ 0 ∷ 0 ∷ 0 ∷ 0 ∷ 238 ∷ 2 ∷ 0 ∷ 0 ∷ 0 ∷ 0 ∷ 0 ∷ 0
    ∷ 0 ∷ 0 ∷ 32 ∷ 0 ∷ 0 ∷ 0 ∷ 0 ∷ 0 ∷ 0 ∷ 0 ∷ 0 ∷ 0 ∷ 2 ∷ 0 ∷ 0 ∷ 0 ∷ 0 ∷ 0 ∷ 0 ∷ 0 ∷ 0 ∷ 0 ∷ 0 ∷ 0 ∷ 136 ∷ 19 ∷ 0 ∷ 0 ∷ 0 ∷ 0 ∷ 0 ∷ 0
    ∷ 0 ∷ 0 ∷ 32 ∷ 0 ∷ 0 ∷ 0 ∷ 0 ∷ 0 ∷ 0 ∷ 0 ∷ 0 ∷ 0 ∷ []

-- and the state that the call hands back
unfoldable pub joining : Station
joining = set_scheduled true (set_next_interval 2000 (set_bootstrap (7 ∷ []) (set_joins ((7, 0) ∷ []) (set_next_join 1 fresh))))

-- the listing, in a room that it fills
pub listing : handle fresh request_join_7 (0 ∷ []) 140 ≡ record { code = 0; state = joining; used = 1; output = listed }
unfolding traced default joining
listing = refl

-- Neighbor (Low) from 7
abbrev pub neighbor_7 : List ℕ
neighbor_7 =
    0 ∷ 4 ∷ 0 ∷ 1 ∷ 7 ∷ 0 ∷ 0 ∷ 0 ∷ 0 ∷ 0 ∷ 0 ∷ 0 ∷ 0 ∷ 0 ∷ 0 ∷ 0 ∷ 0 ∷ 0 ∷ 0 ∷ 0 ∷ 0 ∷ 0 ∷ 44 ∷ 0 ∷ 0 ∷ 0 ∷ 0 ∷ 0 ∷ 0 ∷ 0 ∷ 0 ∷ 0
    ∷ 0 ∷ 0 ∷ 0 ∷ 0 ∷ 0 ∷ 0 ∷ 0 ∷ 0 ∷ 0 ∷ 0 ∷ 0 ∷ 0 ∷ []

-- NeighborUp 7; Neighbor to 7; its timer after 3 s
abbrev pub welcomed : List ℕ
welcomed =
    9 ∷ 0 ∷ 0 ∷ 0 ∷ 7 ∷ 0 ∷ 0 ∷ 0 ∷ 0 ∷ 0 ∷ 0 ∷ 0 ∷ 0 ∷ 0 ∷ 0 ∷ 0 ∷ 0 ∷ 0 ∷ 0 ∷ 0 ∷ 0 ∷ 0 ∷ 32 ∷ 0 ∷ 0 ∷ 0 ∷ 0 ∷ 0 ∷ 0 ∷ 0 ∷ 0 ∷ 0
    ∷ 0 ∷ 4 ∷ 0 ∷ 1 ∷ 7 ∷ 0 ∷ 0 ∷ 0 ∷ 0 ∷ 0 ∷ 0 ∷ 0 ∷ 0 ∷ 0 ∷ 0 ∷ 0 ∷ 0 ∷ 0 ∷ 0 ∷ 0 ∷ 0 ∷ 0 ∷ 44 ∷ 0 ∷ 0 ∷ 0 ∷ 0 ∷ 0 ∷ 0 ∷ 0 ∷ 0 ∷ 0
    ∷ 0 ∷ 0 ∷ 0 ∷ 0 ∷ 0 ∷ 0 ∷ 0 ∷ 0 ∷ 0 ∷ 0 ∷ 0 ∷ 0 ∷ 3 ∷ 0 ∷ 0 ∷ 0 ∷ 7 ∷ 0 ∷ 0 ∷ 0 ∷ 0 ∷ 0 ∷ 0 ∷ 0 ∷ 184 ∷ 11 ∷ 0 ∷ 0 ∷ 0 ∷ 0 ∷ 0 ∷ 0
    ∷ 0 ∷ 0 ∷ 32 ∷ 0 ∷ 0 ∷ 0 ∷ 0 ∷ 0 ∷ 0 ∷ 0 ∷ 0 ∷ 0 ∷ []

unfoldable pub joined : Station
joined = set_active (7 ∷ []) (set_recent (7 ∷ []) (set_requests ((7, 0) ∷ []) (set_next_request 1 (set_joins [] joining))))

-- the next event: 7 becomes a neighbour and is answered, and zeroes follow the records
pub second : handle joining neighbor_7 [] 112 ≡ record { code = 0; state = joined; used = 0; output = welcomed ++ (0 ∷ 0 ∷ 0 ∷ 0 ∷ []) }
unfolding traced default joining joined
second = refl

-- The table of refusals: its example for each code

-- 1: active capacity 0
unfoldable pub no_slots : Config
no_slots = record {
  active_view_capacity = 0;
  passive_view_capacity = 30;
  active_random_walk_length = 6;
  passive_random_walk_length = 3;
  shuffle_random_walk_length = 6;
  shuffle_active_view_count = 3;
  shuffle_passive_view_count = 4;
  shuffle_interval = 60000;
  neighbor_request_timeout = 3000;
}

pub code_1 : new 1 none no_slots ≡ record { code = 1; state = zero_station }
unfolding traced no_slots
code_1 = refl

-- "a state of zeroes, which later calls meet with code 2"
pub zeroes_are_2 : handle zero_station request_join_7 (0 ∷ []) 4 ≡ record { code = 2; state = zero_station; used = 0; output = 0 ∷ 0 ∷ 0 ∷ 0 ∷ [] }
unfolding traced
zeroes_are_2 = refl

-- what a call is refused with
abbrev pub RefusedWith : ℕ → Station → List ℕ → List ℕ → ℕ → Type 0
RefusedWith c s b ds room = handle s b ds room ≡ record { code = c; state = s; used = 0; output = replicate room 0 }

-- 2: peer 7 in both views
pub code_2 : RefusedWith 2 (set_active (7 ∷ []) (set_passive (7 ∷ []) fresh)) request_join_7 (0 ∷ []) 200
unfolding traced default
code_2 = refl

-- 3: 31 bytes
pub code_3 : RefusedWith 3 fresh (replicate 31 0) (0 ∷ []) 200
unfolding traced default
code_3 = refl

-- 4: Shuffle, byte 3 = 33
pub code_4 : RefusedWith 4 fresh (0 ∷ 2 ∷ 0 ∷ 33 ∷ replicate 28 0) (0 ∷ []) 200
unfolding traced default
code_4 = refl

-- 5: first event, empty draw list
pub code_5 : RefusedWith 5 fresh request_join_7 [] 200
unfolding traced default
code_5 = refl

-- peers from n on, each with the number or the data v
unfoldable pub from : {A : Type 0} → ℕ → A → ℕ → List (ℕ × A)
from n v zero = []
from n v (suc k) = (n, v) ∷ from (suc n) v k

unfoldable pub peers_from : ℕ → ℕ → List ℕ
peers_from n zero = []
peers_from n (suc k) = n ∷ peers_from (suc n) k

-- ForwardJoin, expired, from 5 for peer p with data d
abbrev pub expired_join : ℕ → Data → List ℕ
expired_join p d = encode (message 1 5 0 0 0 (node p d ∷ []))

-- 6: an expired ForwardJoin with 32 requests open
pub code_6 : RefusedWith 6 (set_requests (from 100 0 32) (set_next_request 32 fresh)) (expired_join 200 none) (0 ∷ []) 200
unfolding traced default from
code_6 = refl

-- 7: alive Disconnect from a 33rd asked peer
pub code_7 : RefusedWith 7 (set_refused (peers_from 100 32) (set_requests ((200, 0) ∷ []) (set_next_request 1 fresh))) (encode (message 5 200 1 0 0 [])) (0 ∷ []) 200
unfolding traced default peers_from
code_7 = refl

-- 8: the step's own refusal of an 81st entry, on a run; 01's example of it holds data of peers that are nowhere, and is a state that breaks 02's rule (S-5)
abbrev pub data_of_many : ℕ → Station
data_of_many n = set_peer_data (from 100 (1 ∷ []) n) fresh

pub code_8 : (insert_peer_info 200 (some (1 ∷ [])) (start (data_of_many 80) [] 200)).code ≡ 8
unfolding traced default from
code_8 = refl

pub code_8_is_2 : RefusedWith 2 (data_of_many 80) (expired_join 200 (some (1 ∷ []))) (0 ∷ []) 200
unfolding traced default from
code_8_is_2 = refl

-- 9: first event, 0 bytes
pub code_9 : RefusedWith 9 fresh request_join_7 (0 ∷ []) 0
unfolding traced default
code_9 = refl

-- 10: RequestJoin, `next_join` = 2^64 − 1
pub code_10 : RefusedWith 10 (set_next_join 18446744073709551615 fresh) request_join_7 (0 ∷ []) 200
unfolding traced default
code_10 = refl

-- 17: peer 104 is no neighbour
pub code_17 : RefusedWith 17 (set_active (peers_from 100 4) fresh) (encode (notice (kind_byte Pin) 104)) (0 ∷ []) 200
unfolding traced default peers_from
code_17 = refl

-- 18: four of five neighbours have a pin, and the fifth asks for one
pub code_18 : RefusedWith 18 (set_pins (peers_from 100 4) (set_active (peers_from 100 5) fresh)) (encode (notice (kind_byte Pin) 104)) (0 ∷ []) 200
unfolding traced default peers_from
code_18 = refl

-- the last pin is still given, and one that is there already is given again
pub last_pin : (handle (set_pins (peers_from 100 3) (set_active (peers_from 100 5) fresh)) (encode (notice (kind_byte Pin) 104)) (0 ∷ []) 200).code ≡ 0
unfolding traced default peers_from
last_pin = refl

pub pinned_again : (handle (set_pins (peers_from 100 4) (set_active (peers_from 100 5) fresh)) (encode (notice (kind_byte Pin) 103)) (0 ∷ []) 200).code ≡ 0
unfolding traced default peers_from
pinned_again = refl

-- one fewer held: the last place is given out
pub last_request : (handle (set_requests (from 100 0 31) (set_next_request 32 fresh)) (expired_join 200 none) (0 ∷ []) 200).code ≡ 0
unfolding traced default from
last_request = refl

pub last_refused : (handle (set_refused (peers_from 100 31) (set_requests ((200, 0) ∷ []) (set_next_request 1 fresh))) (encode (message 5 200 1 0 0 [])) (0 ∷ []) 200).code ≡ 0
unfolding traced default peers_from
last_refused = refl

pub last_data : (insert_peer_info 200 (some (1 ∷ [])) (start (data_of_many 79) [] 200)).code ≡ 0
unfolding traced default from
last_data = refl

-- 02, S-5: data that comes with an expired ForwardJoin is held while the request is open, and goes when the peer declines
pub asked_is_held : (handle fresh (expired_join 200 (some (1 ∷ []))) (0 ∷ []) 200).state.peer_data ≡ (200, 1 ∷ []) ∷ []
unfolding traced default
asked_is_held = refl

pub declined_is_dropped : (handle (set_peer_data ((200, 1 ∷ []) ∷ []) (set_requests ((200, 0) ∷ []) (set_next_request 1 fresh))) (encode (message 5 200 1 0 0 [])) (0 ∷ []) 200).state.peer_data ≡ []
unfolding traced default
declined_is_dropped = refl

-- 02, S-2: a passive view of one place, which peer 7 has, at a station whose one neighbour is 2
unfoldable pub one_place : Config
one_place = record {
  active_view_capacity = 1;
  passive_view_capacity = 1;
  active_random_walk_length = 6;
  passive_random_walk_length = 3;
  shuffle_random_walk_length = 6;
  shuffle_active_view_count = 3;
  shuffle_passive_view_count = 4;
  shuffle_interval = 60000;
  neighbor_request_timeout = 3000;
}

abbrev pub occupied : Station
occupied = set_scheduled true (set_active (2 ∷ []) (set_passive (7 ∷ []) (new_station 1 none one_place)))

-- a ShuffleReply brings 8: its data (kind 11), then who left for it (kind 12), and 8 has the place
pub evicting : handle occupied (encode (message 3 2 0 0 0 (node 8 (some (5 ∷ [])) ∷ []))) (0 ∷ []) 77
    ≡ record { code = 0; state = set_passive (8 ∷ []) (set_peer_data ((8, 5 ∷ []) ∷ []) occupied); used = 1; output = encode (data_notice 8 (5 ∷ [])) ++ encode (notice 12 7) }
unfolding traced one_place
evicting = refl

-- ---- pins: four of five neighbours have one

unfoldable pub hill : Station
hill = set_pins (peers_from 100 4) (set_active (peers_from 100 5) fresh)

-- a Neighbor of high priority from 200 costs the fifth its place, whatever is drawn, and no pin
pub demoted_beside_pins : (handle hill (encode (message 4 200 1 0 0 (node 0 none ∷ []))) (replicate 40 0) 2000).state.active ≡ peers_from 100 4 ++ (200 ∷ [])
unfolding traced default peers_from hill
demoted_beside_pins = refl

pub demoted_last_drawn : (handle hill (encode (message 4 200 1 0 0 (node 0 none ∷ []))) (replicate 40 4294967290) 2000).state.active ≡ peers_from 100 4 ++ (200 ∷ [])
unfolding traced default peers_from hill
demoted_last_drawn = refl

-- a pin ends by a Disconnect from its peer, by its closed connection and by a Quit
pub ends_by_disconnect : (handle hill (encode (message 5 100 0 0 0 [])) (replicate 40 0) 2000).state.pins ≡ peers_from 101 3
unfolding traced default peers_from hill
ends_by_disconnect = refl

pub ends_by_closing : (handle hill (encode (notice (kind_byte PeerDisconnected) 100)) (replicate 40 0) 2000).state.pins ≡ peers_from 101 3
unfolding traced default peers_from hill
ends_by_closing = refl

pub ends_by_quit : (handle hill (encode (notice (kind_byte Quit) 0)) (replicate 40 0) 2000).state.pins ≡ []
unfolding traced default peers_from hill
ends_by_quit = refl
