-- What packed words give of each section and number: for `search (of_packed, needs)`, under `unfolding part` where a section is lent.
-- Assumes nothing.
use Prim.Native.Nat.{ℕ, ◌≤◌, ◌<◌}
use mathlib.Core.Path.{◌≡◌, ◌∙◌}
use mathlib.Core.Bool.{true, ◌&&◌}
use mathlib.Core.List.{List}
use native.Mathlib.Omega.{arith}
use borrow.Author.Tests.{leb-true}
use lib.Dec.{leb}
use lib.ListN.{length, get_or}
use Rattle.base_lists.proofs.Choice.{and_left, and_right}
use Rattle.base_util.specs.Section.{items_at, ValidSet}
use Rattle.base_util.proofs.Parts.{part_read}
use Rattle.base_columns.specs.Columns.{ValidNumbers, ValidDataWords}
use Rattle.base_peer.specs.Held.{ValidData}
use Rattle.base_timing.specs.Timing.{in_range, within, longest_time, most_active}
use Rattle.spec_hyparview.specs.Station.{top_passes}
use Rattle.hyparview_state.specs.Layout as layout
use Rattle.hyparview_state.specs.Unpack.{own_at, settings_at, PackedState, opened}

module _ (xs : List ℕ) (p : PackedState xs) where
  pub of_own_data : ValidData (own_at xs)
  of_own_data = (opened p).own_data

  pub of_settings : in_range (settings_at xs) ≡ true
  of_settings = (opened p).settings

  pub of_interval : layout.next_shuffle_interval xs ≤ longest_time
  of_interval = (opened p).short_interval

  pub of_alone : layout.passes_alone xs ≤ top_passes
  of_alone = (opened p).alone

  pub of_short : layout.passes_short xs ≤ top_passes
  of_short = (opened p).short

  pub active_fits : length (items_at layout.active_places (layout.active_part xs)) ≤ layout.active_view_capacity xs
  active_fits = (opened p).active_fits

  pub passive_fits : length (items_at layout.passive_places (layout.passive_part xs)) ≤ layout.passive_view_capacity xs
  passive_fits = (opened p).passive_fits

  pub of_own_len : layout.own_len xs < 256
  unfolding own_at
  of_own_len = omega (arith, (opened p).own_data.fits)

  pub of_capacity : layout.active_view_capacity xs ≤ most_active
  unfolding in_range settings_at within
  of_capacity = leb-true _ _ (and_right (leb 1 (layout.active_view_capacity xs)) _ (and_left (leb 1 (layout.active_view_capacity xs) && leb (layout.active_view_capacity xs) most_active) _ (opened p).settings))

-- the sections, by tools/make/layout.py
module _ (xs : List ℕ) (p : PackedState xs) where
  pub of_active : ValidSet layout.active_places (layout.active_part xs)
  of_active = (opened p).sections.active

  pub of_passive : ValidSet layout.passive_places (layout.passive_part xs)
  of_passive = (opened p).sections.passive

  pub of_alive : ValidSet layout.alive_places (layout.alive_part xs)
  of_alive = (opened p).sections.alive

  pub of_refused : ValidSet layout.refused_places (layout.refused_part xs)
  of_refused = (opened p).sections.refused

  pub of_requests : ValidNumbers layout.requests_places (layout.requests_part xs)
  of_requests = (opened p).sections.requests

  pub of_bootstrap : ValidSet layout.bootstrap_places (layout.bootstrap_part xs)
  of_bootstrap = (opened p).sections.bootstrap

  pub of_recent : ValidSet layout.recent_places (layout.recent_part xs)
  of_recent = (opened p).sections.recent

  pub of_joins : ValidNumbers layout.joins_places (layout.joins_part xs)
  of_joins = (opened p).sections.joins

  pub of_peer_data : ValidDataWords layout.peer_data_places (layout.peer_data_part xs)
  of_peer_data = (opened p).sections.peer_data

  pub of_pins : ValidSet layout.pins_places (layout.pins_part xs)
  of_pins = (opened p).sections.pins

pub ruleset of_sections = (of_active, of_passive, of_alive, of_refused, of_requests, of_bootstrap, of_recent, of_joins, of_peer_data, of_pins)

-- end

pub ruleset of_packed = (of_own_data, of_own_len, of_settings, of_interval, of_alone, of_short, of_sections, active_fits, passive_fits)

-- ---- the counts of the views, as they are read

pub count_active : (xs : List ℕ) → ValidSet layout.active_places (layout.active_part xs) → length (items_at layout.active_places (layout.active_part xs)) ≡ get_or xs layout.active_count 0
count_active xs v = v.counted ∙ part_read layout.active_at layout.active_size layout.active_places xs (omega arith)

pub count_pins : (xs : List ℕ) → ValidSet layout.pins_places (layout.pins_part xs) → length (items_at layout.pins_places (layout.pins_part xs)) ≡ get_or xs layout.pins_count 0
count_pins xs v = v.counted ∙ part_read layout.pins_at layout.pins_size layout.pins_places xs (omega arith)

pub count_passive : (xs : List ℕ) → ValidSet layout.passive_places (layout.passive_part xs) → length (items_at layout.passive_places (layout.passive_part xs)) ≡ get_or xs layout.passive_count 0
count_passive xs v = v.counted ∙ part_read layout.passive_at layout.passive_size layout.passive_places xs (omega arith)
