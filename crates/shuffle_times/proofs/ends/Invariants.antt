-- Each end so far, with the shuffles to come, leads to the end wanted, and its sum still fits.
use Prim.Native.Nat.{ℕ, ◌+◌, ◌*◌, ◌-◌, ◌≤◌}
use mathlib.Core.Path.{◌≡◌, refl}
use native.Mathlib.Omega.{arith}
use lib.ListN.{replicate}
use Rattle.shuffle_times.specs.Times.{lowest_draw, highest_draw, latest_start, most_shuffles, first_interval, due}
use Rattle.shuffle_times.proofs.Delays.{Interval, first_ok}
use Rattle.shuffle_times.proofs.ends.Given as goal

-- the end reached so far, with `left` shuffles to come, leads to the end wanted; and its sum fits
pub record End (d start top k now i left : ℕ) : Type 0 where
  pub same : due top (first_interval top) start (replicate k d) ≡ due top i now (replicate left d)
  pub room : now + left * 4500000 ≤ latest_start + 4500000000

pub record Inv (earliest latest top k low high i left : ℕ) : Type 0 where
  pub interval : Interval i
  pub bottom : End lowest_draw earliest top k low i left
  pub upper : End highest_draw latest top k high i left

pub start : (earliest latest top k i : ℕ) → earliest ≤ latest_start → latest ≤ latest_start → 1 ≤ top → top ≤ 3600000 → k ≤ most_shuffles → i ≡ first_interval top → Inv earliest latest top k earliest latest i (k - 0)
start earliest latest top k i a b l m f e = let z : k - 0 ≡ k = omega arith in rw (e, z) (record {
  interval = first_ok top (record { least = l; most = m });
  bottom = record { same = refl; room = omega arith };
  upper = record { same = refl; room = omega arith };
})

abbrev pub invariant-loop : goal.invariant-loop
invariant-loop l = Inv l.earliest l.latest l.top l.k l.low l.high l.interval (l.k - l.counter)
