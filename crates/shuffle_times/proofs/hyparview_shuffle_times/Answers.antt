-- By cases of the test: arguments in range are what `ends` asks and its ends are those wanted; any others give 0 twice.
use mathlib.Core.Path.{◌≡◌, sym, ◌∙◌}
use mathlib.Core.Bool.{Bool, true, false}
use Prim.Native.Nat.{ℕ, ◌≤◌}
use native.Mathlib.Omega.{arith}
use lib.ListN.{replicate}
use Rattle.base_lists.proofs.Choice.{choose_no}
use Rattle.base_timing.specs.declared.Config.{Config}
use Rattle.shuffle_times.specs.declared.ShuffleTimes.{ShuffleTimes}
use Rattle.shuffle_times.specs.Times.{lowest_draw, highest_draw, latest_start, most_shuffles, first_interval, due, due_by, has_times, shuffle_times}
use Rattle.shuffle_times.proofs.Asked.{Asked, asked, times_are}
use Rattle.shuffle_times.proofs.hyparview_shuffle_times.Goals as goal

module _ (earliest latest : ℕ) (config : Config) (k : ℕ) (t : Bool) (p : t ≡ has_times earliest latest config k) where
  module _ (q : t ≡ true) where
    known : Asked earliest latest config k
    known = asked earliest latest config k (sym p ∙ q)

    early : earliest ≤ latest_start
    early = omega (arith, known.ordered, known.start)

    late : latest ≤ latest_start
    late = known.start

    some_time : 1 ≤ config.shuffle_interval
    some_time = known.top.least

    most_time : config.shuffle_interval ≤ 3600000
    most_time = known.top.most

    few : k ≤ most_shuffles
    few = known.few

    both : (r : ShuffleTimes) → r ≡ record { earliest = due config.shuffle_interval (first_interval config.shuffle_interval) earliest (replicate k lowest_draw); latest = due config.shuffle_interval (first_interval config.shuffle_interval) latest (replicate k highest_draw) } → r ≡ shuffle_times earliest latest config k
    unfolding due_by
    both r e = e ∙ sym (times_are earliest latest config k (sym p ∙ q))

  neither : (r : ShuffleTimes) → r.earliest ≡ 0 → r.latest ≡ 0 → t ≡ false → r ≡ shuffle_times earliest latest config k
  unfolding shuffle_times
  neither r a b q = (λ i. record { earliest = a i; latest = b i }) ∙ sym (choose_no (has_times earliest latest config k) _ _ (sym p ∙ q))

pub ends-requires-clause-earliest_le_latest_start : goal.ends-requires-clause-earliest_le_latest_start
ends-requires-clause-earliest_le_latest_start c = search early

pub ends-requires-clause-latest_le_latest_start : goal.ends-requires-clause-latest_le_latest_start
ends-requires-clause-latest_le_latest_start c = search late

pub ends-requires-clause-le_top : goal.ends-requires-clause-le_top
ends-requires-clause-le_top c = search some_time

pub ends-requires-clause-top_le_longest_time : goal.ends-requires-clause-top_le_longest_time
ends-requires-clause-top_le_longest_time c = search most_time

pub ends-requires-clause-k_le_most_shuffles : goal.ends-requires-clause-k_le_most_shuffles
ends-requires-clause-k_le_most_shuffles c = search few

pub returns-then-has_times : goal.returns-then-has_times
returns-then-has_times c = search both

pub returns : goal.returns
returns c = search neither
