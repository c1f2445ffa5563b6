-- What arguments are that have times.
-- Assumes nothing.
use mathlib.Core.Path.{◌≡◌}
use mathlib.Core.Bool.{true}
use Prim.Native.Nat.{ℕ, ◌≤◌}
use lib.Dec.{leb}
use borrow.Author.Tests.{leb-true}
use Rattle.base_lists.proofs.Choice.{and_left, and_right, choose_yes}
use Rattle.base_timing.specs.Timing.{in_range}
use Rattle.base_timing.specs.declared.Config.{Config}
use Rattle.base_timing.proofs.Ranges.{ranges}
use Rattle.shuffle_times.specs.Times.{lowest_draw, highest_draw, latest_start, most_shuffles, due_by, has_times, shuffle_times}
use Rattle.shuffle_times.proofs.Delays.{Interval}

pub top_of : (c : Config) → in_range c ≡ true → Interval c.shuffle_interval
top_of c e = (ranges c e).interval

pub record Asked (earliest latest : ℕ) (c : Config) (k : ℕ) : Type 0 where
  pub ordered : earliest ≤ latest
  pub start : latest ≤ latest_start
  pub some : 1 ≤ k
  pub few : k ≤ most_shuffles
  pub top : Interval c.shuffle_interval

pub asked : (earliest latest : ℕ) (c : Config) (k : ℕ) → has_times earliest latest c k ≡ true → Asked earliest latest c k
unfolding has_times
asked earliest latest c k e₁ =
    let e₂ = and_right (leb earliest latest) _ e₁ in
    let e₃ = and_right (leb latest latest_start) _ e₂ in
    let e₄ = and_right (leb 1 k) _ e₃ in
    record {
      ordered = leb-true earliest latest (and_left (leb earliest latest) _ e₁);
      start = leb-true latest latest_start (and_left (leb latest latest_start) _ e₂);
      some = leb-true 1 k (and_left (leb 1 k) _ e₃);
      few = leb-true k most_shuffles (and_left (leb k most_shuffles) _ e₄);
      top = top_of c (and_right (leb k most_shuffles) _ e₄);
    }

-- and then the definition gives both ends
pub times_are : (earliest latest : ℕ) (c : Config) (k : ℕ) → has_times earliest latest c k ≡ true → shuffle_times earliest latest c k ≡ record { earliest = due_by c earliest k lowest_draw; latest = due_by c latest k highest_draw }
unfolding shuffle_times
times_are earliest latest c k e = choose_yes (has_times earliest latest c k) _ _ e
