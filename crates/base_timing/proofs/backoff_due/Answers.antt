-- By cases on the bound of 12 passes: the definition chooses the powers of two below it and the multiples of it from there on.
use Prim.Native.Nat.{ℕ, ◌%◌, ◌<◌, ◌≤◌}
use mathlib.Core.Path.{◌≡◌, sym}
use borrow.Author.Tests.{lt-ltb, le-ltb}
use lib.Dec.{eqb}
use lib.Count.{ones}
use Rattle.base_lists.proofs.Choice.{choose_yes, choose_no}
use Rattle.base_timing.specs.Timing.{backoff_due}
use Rattle.base_timing.proofs.backoff_due.Goals as goal

early : (n : ℕ) → n < 12 → eqb (ones n) 1 ≡ backoff_due n
unfolding backoff_due
early n h = sym (choose_yes _ _ _ (lt-ltb n 12 h))

late : (n : ℕ) → 12 ≤ n → eqb (n % 12) 0 ≡ backoff_due n
unfolding backoff_due
late n h = sym (choose_no _ _ _ (le-ltb n 12 h))

pub returns-then-n-lt-MAX_BACKOFF_PASSES : goal.returns-then-n-lt-MAX_BACKOFF_PASSES
returns-then-n-lt-MAX_BACKOFF_PASSES c = search early

pub returns-else-n-lt-MAX_BACKOFF_PASSES : goal.returns-else-n-lt-MAX_BACKOFF_PASSES
returns-else-n-lt-MAX_BACKOFF_PASSES c = search late
