-- "the state breaks a station rule": the test of every station rule of document 01 on words, however many there are and whatever they are.
-- Assumes nothing.
use Rattle.std.specs.Prelude.{ℕ, ◌≡◌, Bool, true, ◌&&◌, List, length, leb, eqb}
use Rattle.base_util.specs.Section.{valid_set}
use Rattle.base_columns.specs.Columns.{words_end, valid_numbers, valid_data_words}
use Rattle.base_peer.specs.Held.{valid_data}
use Rattle.spec_hyparview.specs.Station.{Station}
use Rattle.spec_hyparview.specs.Rules.{all_under, views_rule, alive_rule, held_rule, station_ok}
use Rattle.hyparview_state.specs.Layout as layout
use Rattle.hyparview_state.specs.Unpack.{own_at, limit_formed, unpack}

-- every word has 64 bits, and those that stand for a bool or a limit are one
unfoldable pub formed : List ℕ → Bool
formed xs =
    all_under words_end xs
    && (leb (layout.own_present xs) 1
    && (leb (layout.timers_scheduled xs) 1 && limit_formed (layout.refill_kind xs) (layout.refill_requests xs)))

-- every set and map is well formed, its count within its places, and zeroes past it, by tools/make/layout.py
unfoldable pub sections_ok : List ℕ → Bool
sections_ok xs =
    valid_set layout.active_places (layout.active_part xs)
    && (valid_set layout.passive_places (layout.passive_part xs)
    && (valid_set layout.alive_places (layout.alive_part xs)
    && (valid_set layout.refused_places (layout.refused_part xs)
    && (valid_numbers layout.requests_places (layout.requests_part xs)
    && (valid_set layout.bootstrap_places (layout.bootstrap_part xs)
    && (valid_set layout.recent_places (layout.recent_part xs)
    && (valid_numbers layout.joins_places (layout.joins_part xs)
    && (valid_data_words layout.peer_data_places (layout.peer_data_part xs)
    && valid_set layout.pins_places (layout.pins_part xs)))))))))

-- end

-- "unused places zero": as many words as a state has, and each part well formed
unfoldable pub packed_ok : List ℕ → Bool
packed_ok xs = eqb (length xs) layout.words && (formed xs && (valid_data (own_at xs) && sections_ok xs))

-- the rules that hold the views against each other, and other lists against the views
abbrev pub view_rules : Station → Bool
view_rules g = views_rule g && (alive_rule g && held_rule g)

-- every station rule, unused places included
unfoldable pub state_ok : List ℕ → Bool
state_ok xs = packed_ok xs && station_ok (unpack xs)

-- the words xs keep every rule, and ys are they
pub record Keeps (xs ys : List ℕ) : Type 0 where
  pub ok : state_ok xs ≡ true
  pub same : ys ≡ xs
