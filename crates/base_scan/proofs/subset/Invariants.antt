-- What `ok` says with the words still to come is `subset a b`; a hint that meets the word needs no search.
use lib.ListN.{length}
use mathlib.Core.Path.{◌≡◌}
use Rattle.base_lists.specs.Lists.{subset}
use Rattle.base_scan.proofs.Tests.{is_in}
use Rattle.base_scan.proofs.Loops.{Left, Every}
use Rattle.base_scan.proofs.subset.Given as goal

abbrev pub invariant-loop-x : goal.invariant-loop-x
invariant-loop-x l = (length l.hints ≡ 256) × Left (Every (is_in l.b)) l.a (subset l.a l.b) l.ok l.x-index
