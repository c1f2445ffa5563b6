-- Settings that pass the test are within their ranges.
-- Assumes nothing.
use Prim.Native.Nat.{ℕ, ◌≤◌}
use mathlib.Core.Path.{◌≡◌}
use mathlib.Core.Bool.{true, ◌&&◌}
use lib.Dec.{leb}
use borrow.Author.Tests.{leb-true}
use Rattle.base_lists.proofs.Choice.{and_left, and_right}
use Rattle.base_timing.specs.declared.Config.{Config}
use Rattle.base_timing.specs.Timing.{within, in_range}

pub record Within (low high x : ℕ) : Type 0 where
  pub least : low ≤ x
  pub most : x ≤ high

pub record Ranges (c : Config) : Type 0 where
  pub active : Within 1 8 c.active_view_capacity
  pub passive : Within 1 32 c.passive_view_capacity
  pub active_walk : Within 0 65535 c.active_random_walk_length
  pub passive_walk : Within 0 65535 c.passive_random_walk_length
  pub shuffle_walk : Within 0 65535 c.shuffle_random_walk_length
  pub shuffle_active : Within 0 8 c.shuffle_active_view_count
  pub shuffle_passive : Within 0 23 c.shuffle_passive_view_count
  pub interval : Within 1 3600000 c.shuffle_interval
  pub timeout : Within 1 3600000 c.neighbor_request_timeout

within_true : (low high x : ℕ) → within low high x ≡ true → Within low high x
unfolding within
within_true low high x e = record {
  least = leb-true low x (and_left (leb low x) (leb x high) e);
  most = leb-true x high (and_right (leb low x) (leb x high) e);
}

pub ranges : (c : Config) → in_range c ≡ true → Ranges c
unfolding in_range
ranges c e₁ =
    let t₁ = within 1 8 c.active_view_capacity in
    let t₂ = within 1 32 c.passive_view_capacity in
    let t₃ = within 0 65535 c.active_random_walk_length in
    let t₄ = within 0 65535 c.passive_random_walk_length in
    let t₅ = within 0 65535 c.shuffle_random_walk_length in
    let t₆ = within 0 8 c.shuffle_active_view_count in
    let t₇ = within 0 23 c.shuffle_passive_view_count in
    let t₈ = within 1 3600000 c.shuffle_interval in
    let t₉ = within 1 3600000 c.neighbor_request_timeout in
    let r₈ = t₉ in
    let r₇ = t₈ && r₈ in
    let r₆ = t₇ && r₇ in
    let r₅ = t₆ && r₆ in
    let r₄ = t₅ && r₅ in
    let r₃ = t₄ && r₄ in
    let r₂ = t₃ && r₃ in
    let r₁ = t₂ && r₂ in
    let e₂ = and_right t₁ r₁ e₁ in
    let e₃ = and_right t₂ r₂ e₂ in
    let e₄ = and_right t₃ r₃ e₃ in
    let e₅ = and_right t₄ r₄ e₄ in
    let e₆ = and_right t₅ r₅ e₅ in
    let e₇ = and_right t₆ r₆ e₆ in
    let e₈ = and_right t₇ r₇ e₇ in
    record {
      active = within_true _ _ _ (and_left t₁ r₁ e₁);
      passive = within_true _ _ _ (and_left t₂ r₂ e₂);
      active_walk = within_true _ _ _ (and_left t₃ r₃ e₃);
      passive_walk = within_true _ _ _ (and_left t₄ r₄ e₄);
      shuffle_walk = within_true _ _ _ (and_left t₅ r₅ e₅);
      shuffle_active = within_true _ _ _ (and_left t₆ r₆ e₆);
      shuffle_passive = within_true _ _ _ (and_left t₇ r₇ e₇);
      interval = within_true _ _ _ (and_left t₈ r₈ e₈);
      timeout = within_true _ _ _ (and_right t₈ r₈ e₈);
    }
