-- What a supervisor asks of a station between events.
-- Assumes nothing.
use Rattle.std.specs.Prelude.{ℕ, Bool, ◌&&◌, ◌||◌, List, [], length}
use Rattle.base_lists.specs.Lists.{choose}
use Rattle.base_lists.specs.Maps.{has}
use Rattle.spec_hyparview.specs.Station.{Station, in_active}
use Rattle.hyparview_state.specs.Unpack.{unpack}
use Rattle.hyparview_rules.specs.Ok.{state_ok}

-- State::wants_connection: a neighbour, or a peer whose reply to a Neighbor or a Join is awaited
unfoldable pub wants_connection : ℕ → Station → Bool
wants_connection p g = in_active p g || (has p g.requests || has p g.joins)

-- "Neighbours are the peers in the active view."
unfoldable pub is_neighbor : ℕ → Station → Bool
is_neighbor p g = in_active p g

-- the spare addresses are the passive view
unfoldable pub spare_addresses : Station → ℕ
spare_addresses g = length g.passive

-- ---- the same of any words

-- false of words that break a station rule
unfoldable pub wants_connection_in : ℕ → List ℕ → Bool
wants_connection_in p xs = state_ok xs && wants_connection p (unpack xs)

-- false of words that break a station rule
unfoldable pub is_neighbor_in : ℕ → List ℕ → Bool
is_neighbor_in p xs = state_ok xs && is_neighbor p (unpack xs)

-- the neighbours in order, none of words that break a station rule
unfoldable pub neighbors_in : List ℕ → List ℕ
neighbors_in xs = choose (state_ok xs) (unpack xs).active []

-- 0 of words that break a station rule
unfoldable pub spare_addresses_in : List ℕ → ℕ
spare_addresses_in xs = choose (state_ok xs) (spare_addresses (unpack xs)) 0
