-- The words that a station is packed into: its numbers, and its sets and maps as sections with zeroes in the unused places.
-- Assumes nothing.
use Rattle.std.specs.Prelude.{ℕ, cond, List, [], ◌∷◌, ◌++◌, length}
use Rattle.std.proofs.Math.Option.{none, some}
use Rattle.base_util.specs.Section.{section}
use Rattle.base_columns.specs.Columns.{numbers_section, low_word, high_word, data_section}
use Rattle.base_peer.specs.Data.{Data, bytes_of}
use Rattle.spec_hyparview.specs.Station.{Station, Refill, automatic, requests_left, recovery}
use Rattle.hyparview_state.specs.Layout as layout

-- 1 present, 0 absent
unfoldable pub present_word : Data → ℕ
present_word none = 0
present_word (some b) = 1

-- kind 0 is Automatic, 1 is Requests, 2 is Recovery
unfoldable pub kind_word : Refill → ℕ
kind_word automatic = 0
kind_word (requests_left n) = 1
kind_word recovery = 2

unfoldable pub requests_word : Refill → ℕ
requests_word automatic = 0
requests_word (requests_left n) = n
requests_word recovery = 0

-- the numbers before the sections, by tools/make/layout.py
unfoldable pub front : Station → List ℕ
front g =
    g.me
    ∷ present_word g.own_data
    ∷ length (bytes_of g.own_data)
    ∷ g.config.active_view_capacity
    ∷ g.config.passive_view_capacity
    ∷ g.config.active_random_walk_length
    ∷ g.config.passive_random_walk_length
    ∷ g.config.shuffle_random_walk_length
    ∷ g.config.shuffle_active_view_count
    ∷ g.config.shuffle_passive_view_count
    ∷ g.config.shuffle_interval
    ∷ g.config.neighbor_request_timeout
    ∷ cond g.scheduled 1 0
    ∷ g.next_interval
    ∷ g.passes_alone
    ∷ g.passes_short
    ∷ kind_word g.refill
    ∷ requests_word g.refill
    ∷ g.next_request
    ∷ g.next_join
    ∷ low_word (bytes_of g.own_data)
    ∷ high_word (bytes_of g.own_data)
    ∷ []

-- end

-- the words that stand for g, by tools/make/layout.py
unfoldable pub pack : Station → List ℕ
pack g =
    front g
    ++ (section layout.active_places g.active
    ++ (section layout.passive_places g.passive
    ++ (section layout.alive_places g.alive
    ++ (section layout.refused_places g.refused
    ++ (numbers_section layout.requests_places g.requests
    ++ (section layout.bootstrap_places g.bootstrap
    ++ (section layout.recent_places g.recent
    ++ (numbers_section layout.joins_places g.joins
    ++ (data_section layout.peer_data_places g.peer_data
    ++ section layout.pins_places g.pins)))))))))

-- end
