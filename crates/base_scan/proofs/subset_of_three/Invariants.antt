-- As for `subset`, over the three lists in a row: a hinted word is in the list that its place falls into, by cases.
use lib.ListN.{length}
use mathlib.Core.Path.{◌≡◌}
use mathlib.Core.List.{◌++◌}
use Rattle.base_lists.specs.Lists.{subset}
use Rattle.base_scan.proofs.Tests.{is_in}
use Rattle.base_scan.proofs.Loops.{Left, Every}
use Rattle.base_scan.proofs.subset_of_three.Given as goal

abbrev pub invariant-loop-x : goal.invariant-loop-x
invariant-loop-x l = (length l.hints ≡ 256) × Left (Every (is_in (l.b ++ (l.c ++ l.d)))) l.a (subset l.a (l.b ++ (l.c ++ l.d))) l.ok l.x-index
