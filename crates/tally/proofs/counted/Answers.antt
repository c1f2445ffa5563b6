-- Nothing or one is added, as far as the last value.
use Prim.Native.Nat.{ℕ, min, ◌+◌, ◌≤◌}
use mathlib.Core.Path.{◌≡◌}
use mathlib.Core.Bool.{Bool, true, false}
use native.Mathlib.Omega.{arith}
use lib.Dec.{ltb}
use mir.Val.{bool_byte}
use borrow.Author.Tests.{ltb-true, ltb-false}
use Rattle.base_lists.specs.Lists.{choose}
use Rattle.base_lists.proofs.Choice.{split}
use Rattle.tally.specs.Counts.{top, counted}
use Rattle.tally.proofs.counted.Goals as goal

added : (test : Bool) (n : ℕ) → n ≤ top → min (n + bool_byte test) top ≡ counted test n
unfolding counted choose
added false n h = omega arith
added true n h =
    split (ltb n top) (λ t. let l = ltb-true n top t in rw t (omega (arith, l)))
    (λ t. let l = ltb-false n top t in rw t (omega (arith, l)))

pub returns : goal.returns
returns c = rw (c.saturating_add.ensures, c.from.ensures) (added c.args.test c.args.n (omega arith))
