-- The state of a station, after the Rust's `State`: plain lists; maps and sets in rising order of their peers.
-- Assumes nothing.
use Rattle.std.specs.Prelude.{ℕ, ◌+◌, ◌-◌, ◌/◌, Bool, true, false, ◌&&◌, ◌||◌, List, ◌++◌, length, leb, ltb, eqb}
use Rattle.base_lists.specs.Lists.{mem, null, without_all}
use Rattle.base_lists.specs.Maps.{keys}
use Rattle.base_peer.specs.Data.{Data}
use Rattle.base_timing.specs.declared.Config.{Config}

-- `RefillLimit`: what bounds the requests by which the active view is filled again. One number would not do, since three stations want three bounds.
--   automatic          none is set. A station without neighbours needs none: it asks with high priority, and nobody may refuse. One with
--                      half its neighbours or more needs none: it gives up at the first refusal. A short one gets `requests_left` when it first asks.
--   requests_left n    a short station may ask n more. Its passive peers are probably full, and each refusal asks the next one at once, so
--                      without a bound it would ask all of them at every pass.
--   recovery           a neighbour was lost, or none is left: it asks until somebody accepts, since others may have lost the same one and have room.
--                      No smaller limit takes its place while it runs, and it is over once nothing that it asked is open.
pub data Refill : Type 0 where
  automatic : Refill
  requests_left : ℕ → Refill
  recovery : Refill

-- Beside each field, its name in the Rust where that is another. `rng` and `stats` have no place here.
pub record Station : Type 0 where
  pub me : ℕ
  -- me_data
  pub own_data : Data
  -- active_view, passive_view
  pub active : List ℕ
  pub passive : List ℕ
  pub config : Config
  -- timers_scheduled
  pub scheduled : Bool
  -- next_shuffle_interval, in milliseconds: it doubles up to the setting (Timers `double_interval`)
  pub next_interval : ℕ
  -- bootstrap_peers, oldest first: with the recent neighbours all that a station with empty views has left to ask
  pub bootstrap : List ℕ
  -- maintenance passes that the backoff counts: one after another with no peer known, and those while short since a neighbour was gained
  pub passes_alone : ℕ
  pub passes_short : ℕ
  -- recent_neighbors, the one seen last at the end; a peer that failed stays, since a station that lost its own network sees all of them fail
  pub recent : List ℕ
  -- pending_neighbor_requests, with their numbers, and next_neighbor_request
  pub requests : List (ℕ × ℕ)
  pub next_request : ℕ
  -- pending_joins, with their numbers: each waits for its one retry
  pub joins : List (ℕ × ℕ)
  pub next_join : ℕ
  -- what came with other peers, such as addresses, to be passed on with them
  pub peer_data : List (ℕ × List ℕ)
  -- alive_disconnect_peers: passive peers whose connection is expected to close though they are alive
  pub alive : List ℕ
  -- passive peers that were full when asked; forgotten when a neighbour leaves, when a pass refills and when the station is not short
  pub refused : List ℕ
  pub refill : Refill
  -- 02, S-14: the neighbours that no arrival costs their place; of this work, not of the Rust
  pub pins : List ℕ

-- Limits of document 01: the table's codes 6, 7 and 8, and the counters of code 10
abbrev pub max_requests : ℕ
max_requests = 32

abbrev pub max_refused : ℕ
max_refused = 32

abbrev pub max_peer_data : ℕ
max_peer_data = 80

abbrev pub max_data_length : ℕ
max_data_length = 16

abbrev pub top_counter : ℕ
top_counter = 18446744073709551615

abbrev pub top_passes : ℕ
top_passes = 4294967295

-- peers have 64 bits (document 02, S-8), draws 32, bytes 8
abbrev pub peers_end : ℕ
peers_end = 18446744073709551616

abbrev pub draws_end : ℕ
draws_end = 4294967296

abbrev pub bytes_end : ℕ
bytes_end = 256

-- Tests that several steps make

unfoldable pub is_me : ℕ → Station → Bool
is_me p s = eqb p s.me

unfoldable pub in_active : ℕ → Station → Bool
in_active p s = mem p s.active

unfoldable pub in_passive : ℕ → Station → Bool
in_passive p s = mem p s.passive

unfoldable pub in_view : ℕ → Station → Bool
in_view p s = in_active p s || in_passive p s

unfoldable pub is_requested : ℕ → Station → Bool
is_requested p s = mem p (keys s.requests)

-- no neighbour
unfoldable pub is_alone : Station → Bool
is_alone s = null s.active

-- active_is_full
unfoldable pub active_is_full : Station → Bool
active_is_full s = leb s.config.active_view_capacity (length s.active)

-- passive_is_full
unfoldable pub passive_is_full : Station → Bool
passive_is_full s = leb s.config.passive_view_capacity (length s.passive)

-- is_short: "below half the capacity rounded up"; one place free is usual, since whoever could fill it is mostly full itself
unfoldable pub is_short : Station → Bool
is_short s = ltb (length s.active) ((s.config.active_view_capacity + 1) / 2)

-- at most one neighbour, so that a walk ends here
unfoldable pub is_last_hop : Station → Bool
is_last_hop s = leb (length s.active) 1

unfoldable pub is_recovery : Refill → Bool
is_recovery automatic = false
is_recovery (requests_left n) = false
is_recovery recovery = true

unfoldable pub is_automatic : Refill → Bool
is_automatic automatic = true
is_automatic (requests_left n) = false
is_automatic recovery = false

-- Requests(0)
unfoldable pub is_spent : Refill → Bool
is_spent automatic = false
is_spent (requests_left n) = eqb n 0
is_spent recovery = false

-- 02, S-14: "At most active capacity less one are pinned, so a High arrival always finds a place."
unfoldable pub most_pins : Station → ℕ
most_pins s = s.config.active_view_capacity - 1

-- 02, S-14: the neighbours that a demotion is picked from, in the order of the view
unfoldable pub without_pin : Station → List ℕ
without_pin s = without_all s.pins s.active

unfoldable pub is_pinned : ℕ → Station → Bool
is_pinned p s = mem p s.pins

-- the peers asked that are not neighbours: pending_outside; what is open to a neighbour is an answer, and counts once
unfoldable pub asked_outside : Station → List ℕ
asked_outside s = without_all s.active (keys s.requests)

-- a recovery whose last request is answered or given up
unfoldable pub recovery_is_over : Station → Bool
recovery_is_over s = is_recovery s.refill && null (asked_outside s)

-- 02, S-5: the peers whose data may be held: those in a view, and those with an open request
unfoldable pub data_peers : Station → List ℕ
data_peers s = s.active ++ (s.passive ++ keys s.requests)
