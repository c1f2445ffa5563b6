-- The answer for the words still to come, or a hit so far, is `mem x s`.
use Rattle.base_lists.specs.Lists.{mem}
use Rattle.base_scan.proofs.Loops.{Left, Hit}
use Rattle.base_scan.proofs.is_in.Given as goal

abbrev pub invariant-loop-y : goal.invariant-loop-y
invariant-loop-y l = Left (Hit l.x) l.s (mem l.x l.s) l.hit l.y-index
