-- The tests that read a count or a setting, of packed words.
-- Assumes nothing.
use Prim.Native.Nat.{ℕ, ◌+◌, ◌/◌}
use mathlib.Core.Path.{◌≡◌, refl, sym, ap, ◌∙◌}
use mathlib.Core.List.{List}
use lib.Dec.{leb, ltb, eqb}
use lib.ListN.{get_or}
use Rattle.base_util.proofs.Sets.{empty_is_null}
use Rattle.spec_hyparview.specs.Station.{is_alone, active_is_full, passive_is_full, is_short, is_last_hop}
use Rattle.hyparview_state.specs.Layout as layout
use Rattle.hyparview_state.specs.Unpack.{unpack, station_of, settings_at, PackedState}
use Rattle.hyparview_state.proofs.Access.{of_active, of_passive, count_active, count_passive}

module _ (xs : List ℕ) (p : PackedState xs) where
  pub alone : eqb (get_or xs layout.active_count 0) 0 ≡ is_alone (unpack xs)
  unfolding is_alone unpack station_of
  alone = ap (λ (n : ℕ). eqb n 0) (sym (count_active xs (of_active xs p)) ∙ (of_active xs p).counted) ∙ empty_is_null layout.active_places (layout.active_part xs) (of_active xs p)

  pub active_full : leb (layout.active_view_capacity xs) (get_or xs layout.active_count 0) ≡ active_is_full (unpack xs)
  unfolding active_is_full unpack station_of settings_at
  active_full = rw (← count_active xs (of_active xs p)) refl

  pub passive_full : leb (layout.passive_view_capacity xs) (get_or xs layout.passive_count 0) ≡ passive_is_full (unpack xs)
  unfolding passive_is_full unpack station_of settings_at
  passive_full = rw (← count_passive xs (of_passive xs p)) refl

  pub short : ltb (get_or xs layout.active_count 0) ((layout.active_view_capacity xs + 1) / 2) ≡ is_short (unpack xs)
  unfolding is_short unpack station_of settings_at
  short = rw (← count_active xs (of_active xs p)) refl

  pub last_hop : leb (get_or xs layout.active_count 0) 1 ≡ is_last_hop (unpack xs)
  unfolding is_last_hop unpack station_of
  last_hop = rw (← count_active xs (of_active xs p)) refl
