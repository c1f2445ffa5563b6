-- Document 01, "Settings and station rules": each rule is one test on the station, and code 2 is for a station that fails one of them.
-- Assumes nothing.
use Rattle.std.specs.Prelude.{ℕ, Bool, true, not, ◌&&◌, List, [], ◌∷◌, length, leb, ltb}
use Rattle.std.proofs.Math.Option.{none, some}
use Rattle.base_lists.specs.Lists.{mem, distinct, rising, subset, disjoint}
use Rattle.base_lists.specs.Maps.{keys, values, has}
use Rattle.base_timing.specs.Timing.{in_range, within, max_bootstrap_peers, max_recent_neighbors, max_requests_per_refill}
use Rattle.base_peer.specs.Data.{Data, bytes_of}
use Rattle.base_peer.specs.Maps.{numbers_under}
use Rattle.spec_hyparview.specs.Station.{Station, Refill, automatic, requests_left, recovery, max_requests, max_refused, max_peer_data, max_data_length, top_counter, top_passes, peers_end, bytes_end, most_pins, data_peers}

-- all of the tests hold
unfoldable pub all_hold : List Bool → Bool
all_hold [] = true
all_hold (b ∷ bs) = b && all_hold bs

-- all are below n
unfoldable pub all_under : ℕ → List ℕ → Bool
all_under n [] = true
all_under n (x ∷ xs) = ltb x n && all_under n xs

-- all of all lists are below n
unfoldable pub lists_under : ℕ → List (List ℕ) → Bool
lists_under n [] = true
lists_under n (xs ∷ ls) = all_under n xs && lists_under n ls

unfoldable pub all_short : List (ℕ × List ℕ) → Bool
all_short [] = true
all_short (e ∷ m) = leb (length e.1) max_data_length && all_short m

-- "Data is absent or 0 to 16 bytes"
unfoldable pub short_data : Data → Bool
short_data none = true
short_data (some b) = leb (length b) max_data_length

unfoldable pub limit_ok : Refill → Bool
limit_ok automatic = true
limit_ok (requests_left n) = leb n max_requests_per_refill
limit_ok recovery = true

-- "settings in range"
unfoldable pub settings_rule : Station → Bool
settings_rule s = in_range s.config

-- "every list free of repeats"
unfoldable pub repeats_rule : Station → Bool
repeats_rule s = distinct s.active && (distinct s.passive && (distinct s.bootstrap && distinct s.recent))

-- "those for maps and sets in rising peer order"
unfoldable pub order_rule : Station → Bool
order_rule s =
    rising (keys s.requests)
    && (rising (keys s.joins) && (rising (keys s.peer_data) && (rising s.alive && (rising s.refused && rising s.pins))))

-- "views as in demand 3": within capacity
unfoldable pub capacity_rule : Station → Bool
capacity_rule s =
    leb (length s.active) s.config.active_view_capacity
    && leb (length s.passive) s.config.passive_view_capacity

-- "views as in demand 3": disjoint and without the station itself
unfoldable pub views_rule : Station → Bool
views_rule s = disjoint s.active s.passive && (not (mem s.me s.active) && not (mem s.me s.passive))

-- "alive marks passive"
unfoldable pub alive_rule : Station → Bool
alive_rule s = subset s.alive s.passive

-- "at most 8 bootstrap and 8 recent peers"
unfoldable pub few_rule : Station → Bool
few_rule s = leb (length s.bootstrap) max_bootstrap_peers && leb (length s.recent) max_recent_neighbors

-- "pending joins bootstrap, not active, not self"
unfoldable pub joins_rule : Station → Bool
joins_rule s =
    subset (keys s.joins) s.bootstrap && (disjoint (keys s.joins) s.active && not (has s.me s.joins))

-- "open numbers below their counters"
unfoldable pub numbers_rule : Station → Bool
numbers_rule s = numbers_under s.next_request s.requests && numbers_under s.next_join s.joins

-- "no data held under self"
unfoldable pub self_rule : Station → Bool
self_rule s = not (has s.me s.peer_data)

-- "at most 32 open requests, 32 refused peers and 80 data entries"
unfoldable pub room_rule : Station → Bool
room_rule s =
    leb (length s.requests) max_requests
    && (leb (length s.refused) max_refused && leb (length s.peer_data) max_peer_data)

-- "held data at most 16 bytes", the station's own too
unfoldable pub data_rule : Station → Bool
data_rule s = all_short s.peer_data && short_data s.own_data

-- "`Requests` at most 3"
unfoldable pub limit_rule : Station → Bool
limit_rule s = limit_ok s.refill

-- "next interval from 1 to the shuffle interval"
unfoldable pub interval_rule : Station → Bool
interval_rule s = within 1 s.config.shuffle_interval s.next_interval

-- every peer that the station names
abbrev pub peer_lists : Station → List (List ℕ)
peer_lists s =
    (s.me ∷ []) ∷ s.active ∷ s.passive ∷ s.bootstrap ∷ s.recent ∷ keys s.requests ∷ keys s.joins ∷ keys s.peer_data
    ∷ s.alive ∷ s.refused ∷ s.pins ∷ []

-- all data: its own, and what it holds of others
abbrev pub data_lists : Station → List (List ℕ)
data_lists s = bytes_of s.own_data ∷ values s.peer_data

-- Peers are 64-bit numbers (document 02, S-8), "Counters have 64 bits, the two pass counts 32"; data is bytes
unfoldable pub width_rule : Station → Bool
width_rule s =
    lists_under peers_end (peer_lists s)
    && (lists_under bytes_end (data_lists s)
    && (leb s.next_request top_counter
    && (leb s.next_join top_counter && (leb s.passes_alone top_passes && leb s.passes_short top_passes))))

-- 02, S-5: no data is held of a peer in neither view and without an open request
unfoldable pub held_rule : Station → Bool
held_rule s = subset (keys s.peer_data) (data_peers s)

-- 02, S-14: "pins on active peers only, within that limit"
unfoldable pub pins_rule : Station → Bool
pins_rule s = subset s.pins s.active && leb (length s.pins) (most_pins s)

-- the station rules; "unused places zero" is for the packed form alone
unfoldable pub rules : Station → List Bool
rules s =
    settings_rule s ∷ repeats_rule s ∷ order_rule s ∷ capacity_rule s ∷ views_rule s ∷ alive_rule s ∷ few_rule s ∷ joins_rule s
    ∷ numbers_rule s ∷ self_rule s ∷ room_rule s ∷ data_rule s ∷ limit_rule s ∷ interval_rule s ∷ width_rule s
    ∷ held_rule s ∷ pins_rule s ∷ []

unfoldable pub station_ok : Station → Bool
station_ok s = all_hold (rules s)
