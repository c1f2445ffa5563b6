-- Each end so far, with the shuffles to come, leads to the end wanted, and its sum still fits.
use Prim.Native.Nat.{ℕ, zero, suc, ◌+◌, ◌-◌, ◌≤◌, ◌<◌}
use mathlib.Core.Path.{◌≡◌, sym, subst, ◌∙◌}
use native.Mathlib.Omega.{arith}
use mir.Val.{Fits}
use mir.Syntax.{w64}
use lib.ListN.{replicate}
use Rattle.base_timing.specs.Timing.{delay}
use Rattle.shuffle_times.specs.declared.ShuffleTimes.{ShuffleTimes}
use Rattle.shuffle_times.specs.Times.{lowest_draw, highest_draw, first_interval, next_interval, due}
use Rattle.shuffle_times.proofs.Delays.{next_ok, delay_few, delay_rises}
use Rattle.shuffle_times.proofs.ends.Invariants.{Inv, start}
use Rattle.shuffle_times.proofs.ends.Goals as goal

one_more : (top i t left d : ℕ) → 0 < left → due top i t (replicate left d) ≡ due top (next_interval top i) (t + delay i d) (replicate (left - 1) d)
unfolding due
one_more top i t zero d h = absurd (omega arith)
one_more top i t (suc left) d h = let q : suc left - 1 ≡ left = omega arith in rw q

module _ (earliest latest top k low high i left : ℕ) (v : Inv earliest latest top k low high i left) where
  least : i ≤ 3600000
  least = v.interval.most

  some : 1 ≤ i
  some = v.interval.least

  next : (x y j : ℕ) → 1 ≤ top → top ≤ 3600000 → 0 < left → x ≡ delay i lowest_draw → y ≡ delay i highest_draw → j ≡ next_interval top i → Inv earliest latest top k (low + x) (high + y) j (left - 1)
  next x y j l m h p q e =
      let few = delay_few i v.interval in
      let rise = delay_rises i lowest_draw highest_draw (omega arith) in
      rw (p, q, e) (record {
        interval = next_ok top i (record { least = l; most = m }) v.interval;
        bottom = record { same = v.bottom.same ∙ one_more top i low left lowest_draw h; room = omega (arith, v.bottom.room) };
        upper = record { same = v.upper.same ∙ one_more top i high left highest_draw h; room = omega (arith, v.upper.room) };
      })

  -- the same, where the shuffles left are counted from k down
  next_left : (x y j m : ℕ) → 1 ≤ top → top ≤ 3600000 → 0 < left → x ≡ delay i lowest_draw → y ≡ delay i highest_draw → j ≡ next_interval top i → m ≡ left - 1 → Inv earliest latest top k (low + x) (high + y) j m
  next_left x y j m h t z p q e f = subst (λ (n : ℕ). Inv earliest latest top k (low + x) (high + y) j n) (sym f) (next x y j h t z p q e)

  fits_low : (x : ℕ) → 0 < left → x ≡ delay i lowest_draw → Fits w64 (low + x)
  fits_low x h p = record { fits = omega (arith, v.bottom.room, delay_few i v.interval, delay_rises i lowest_draw highest_draw (omega arith)) }

  fits_high : (y : ℕ) → 0 < left → y ≡ delay i highest_draw → Fits w64 (high + y)
  fits_high y h p = record { fits = omega (arith, v.upper.room, delay_few i v.interval) }

  last : (d t : ℕ) → left ≤ 0 → due top i t (replicate left d) ≡ t
  unfolding due
  last d t h = let z : left ≡ 0 = omega arith in rw z

  end : left ≤ 0 → ◌≡◌ {A = ShuffleTimes} (record { earliest = low; latest = high }) (record { earliest = due top (first_interval top) earliest (replicate k lowest_draw); latest = due top (first_interval top) latest (replicate k highest_draw) })
  end h = λ j. record {
    earliest = sym (v.bottom.same ∙ last lowest_draw low h) j;
    latest = sym (v.upper.same ∙ last highest_draw high h) j;
  }

pub loop-init : goal.loop-init
loop-init c = search start

pub least_delay-low-requires : goal.least_delay-low-requires
least_delay-low-requires c = search least

pub overflow_add-low : goal.overflow_add-low
overflow_add-low c = search (fits_low, arith)

pub most_delay-high-requires-clause-le_interval : goal.most_delay-high-requires-clause-le_interval
most_delay-high-requires-clause-le_interval c = search some

pub most_delay-high-requires-clause-interval_le_longest_time : goal.most_delay-high-requires-clause-interval_le_longest_time
most_delay-high-requires-clause-interval_le_longest_time c = search least

pub overflow_add-high : goal.overflow_add-high
overflow_add-high c = search (fits_high, arith)

pub next_interval-interval-requires : goal.next_interval-interval-requires
next_interval-interval-requires c = search least

pub loop-preserved : goal.loop-preserved
loop-preserved c =
    next_left _ _ _ _ _ _ _ _ c.loop.invariant _ _ _ _ c.requires.le_top c.requires.top_le_longest_time (omega (arith, c.loop-test.true)) c.least_delay-low.ensures
    c.most_delay-high.ensures c.next_interval-interval.ensures (omega arith)

pub returns : goal.returns
returns c = search (end, arith)
