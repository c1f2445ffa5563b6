-- Words that pass the test are packed.
-- Assumes nothing.
use Prim.Native.Nat.{ℕ, ◌≤◌}
use mathlib.Core.Path.{◌≡◌}
use mathlib.Core.Bool.{true}
use mathlib.Core.List.{List}
use native.Mathlib.Omega.{arith}
use lib.ListN.{length}
use lib.Dec.{leb}
use borrow.Author.Tests.{leb-true}
use Rattle.base_lists.proofs.Choice.{and_left, and_right}
use Rattle.base_util.specs.Section.{items_at}
use Rattle.base_timing.specs.Timing.{within}
use Rattle.base_timing.proofs.Ranges.{ranges}
use Rattle.spec_hyparview.specs.Station.{Station, peers_end, bytes_end, top_counter, top_passes}
use Rattle.spec_hyparview.specs.Rules.{lists_under, peer_lists, data_lists, settings_rule, repeats_rule, order_rule, capacity_rule, views_rule, alive_rule, few_rule, joins_rule, numbers_rule, self_rule, room_rule, data_rule, limit_rule, interval_rule, width_rule, rules, station_ok, held_rule, pins_rule}
use Rattle.spec_hyparview.specs.Rules as R
use Rattle.hyparview_state.specs.Layout as layout
use Rattle.hyparview_state.specs.Unpack.{settings_at, station_of, unpack, PackedState, shut}
use Rattle.hyparview_rules.specs.Ok.{packed_ok, state_ok}
use Rattle.hyparview_rules.proofs.Shape.{Shape, ok_shape}

-- each rule of a station that keeps them all
pub record Kept (g : Station) : Type 0 where
  pub settings : settings_rule g ≡ true
  pub repeats : repeats_rule g ≡ true
  pub order : order_rule g ≡ true
  pub capacity : capacity_rule g ≡ true
  pub views : views_rule g ≡ true
  pub alive : alive_rule g ≡ true
  pub few : few_rule g ≡ true
  pub joins : joins_rule g ≡ true
  pub numbers : numbers_rule g ≡ true
  pub apart_from_self : self_rule g ≡ true
  pub room : room_rule g ≡ true
  pub lengths : data_rule g ≡ true
  pub limit : limit_rule g ≡ true
  pub interval : interval_rule g ≡ true
  pub width : width_rule g ≡ true
  pub pins : pins_rule g ≡ true

pub ok_kept : (g : Station) → station_ok g ≡ true → Kept g
unfolding station_ok rules R.all_hold
ok_kept g e =
    let e₁ = and_right (settings_rule g) _ e in
    let e₂ = and_right (repeats_rule g) _ e₁ in
    let e₃ = and_right (order_rule g) _ e₂ in
    let e₄ = and_right (capacity_rule g) _ e₃ in
    let e₅ = and_right (views_rule g) _ e₄ in
    let e₆ = and_right (alive_rule g) _ e₅ in
    let e₇ = and_right (few_rule g) _ e₆ in
    let e₈ = and_right (joins_rule g) _ e₇ in
    let e₉ = and_right (numbers_rule g) _ e₈ in
    let e₁₀ = and_right (self_rule g) _ e₉ in
    let e₁₁ = and_right (room_rule g) _ e₁₀ in
    let e₁₂ = and_right (data_rule g) _ e₁₁ in
    let e₁₃ = and_right (limit_rule g) _ e₁₂ in
    let e₁₄ = and_right (interval_rule g) _ e₁₃ in
    let e₁₅ = and_right (width_rule g) _ e₁₄ in
    let e₁₆ = and_right (held_rule g) _ e₁₅ in
    record {
      settings = and_left (settings_rule g) _ e;
      repeats = and_left (repeats_rule g) _ e₁;
      order = and_left (order_rule g) _ e₂;
      capacity = and_left (capacity_rule g) _ e₃;
      views = and_left (views_rule g) _ e₄;
      alive = and_left (alive_rule g) _ e₅;
      few = and_left (few_rule g) _ e₆;
      joins = and_left (joins_rule g) _ e₇;
      numbers = and_left (numbers_rule g) _ e₈;
      apart_from_self = and_left (self_rule g) _ e₉;
      room = and_left (room_rule g) _ e₁₀;
      lengths = and_left (data_rule g) _ e₁₁;
      limit = and_left (limit_rule g) _ e₁₂;
      interval = and_left (interval_rule g) _ e₁₃;
      width = and_left (width_rule g) _ e₁₄;
      pins = and_left (pins_rule g) _ e₁₆;
    }

-- what the width rule says
pub record Wide (g : Station) : Type 0 where
  pub peers : lists_under peers_end (peer_lists g) ≡ true
  pub bytes : lists_under bytes_end (data_lists g) ≡ true
  pub next_request : g.next_request ≤ top_counter
  pub next_join : g.next_join ≤ top_counter
  pub alone : g.passes_alone ≤ top_passes
  pub short : g.passes_short ≤ top_passes

pub wide_of : (g : Station) → width_rule g ≡ true → Wide g
unfolding width_rule
wide_of g e =
    let e₁ = and_right (lists_under peers_end (peer_lists g)) _ e in
    let e₂ = and_right (lists_under bytes_end (data_lists g)) _ e₁ in
    let e₃ = and_right (leb g.next_request top_counter) _ e₂ in
    let e₄ = and_right (leb g.next_join top_counter) _ e₃ in
    record {
      peers = and_left (lists_under peers_end (peer_lists g)) _ e;
      bytes = and_left (lists_under bytes_end (data_lists g)) _ e₁;
      next_request = leb-true _ _ (and_left (leb g.next_request top_counter) _ e₂);
      next_join = leb-true _ _ (and_left (leb g.next_join top_counter) _ e₃);
      alone = leb-true _ _ (and_left (leb g.passes_alone top_passes) _ e₄);
      short = leb-true _ _ (and_right (leb g.passes_alone top_passes) _ e₄);
    }

module _ (xs : List ℕ) (v : Shape xs) where
  pub shape_packed : Kept (unpack xs) → PackedState xs
  unfolding unpack station_of settings_at settings_rule capacity_rule interval_rule within
  shape_packed r =
      let top = (ranges (settings_at xs) r.settings).interval.most in
      let last = leb-true (layout.next_shuffle_interval xs) (layout.shuffle_interval xs) (and_right (leb 1 (layout.next_shuffle_interval xs)) _ r.interval) in
      let fits = leb (length (items_at layout.active_places (layout.active_part xs))) (layout.active_view_capacity xs) in
      let w = wide_of (unpack xs) r.width in
      shut v.size
      (record {
        present = v.present;
        timers = v.timers;
        limit = v.limit;
        alone = w.alone;
        short = w.short;
        own_data = v.own_data;
        settings = r.settings;
        short_interval = omega (arith, top, last);
        sections = v.sections;
        active_fits = leb-true _ _ (and_left fits _ r.capacity);
        passive_fits = leb-true _ _ (and_right fits _ r.capacity);
      })

-- what words that pass the test are
pub record Ok (xs : List ℕ) : Type 0 where
  pub packed : PackedState xs
  pub rules : station_ok (unpack xs) ≡ true

pub ok_state : (xs : List ℕ) → state_ok xs ≡ true → Ok xs
unfolding state_ok
ok_state xs e =
    let f = and_right (packed_ok xs) _ e in
    record { packed = shape_packed xs (ok_shape xs (and_left (packed_ok xs) _ e)) (ok_kept (unpack xs) f); rules = f }
