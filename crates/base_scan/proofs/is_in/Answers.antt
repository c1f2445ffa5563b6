-- The answer for the words still to come, or a hit so far, is `mem x s`.
use Rattle.base_scan.proofs.Loops.{hit_start, hit_next, hit_end}
use Rattle.base_scan.proofs.is_in.Goals as goal

pub loop-y-init : goal.loop-y-init
loop-y-init c = search hit_start

pub loop-y-preserved : goal.loop-y-preserved
loop-y-preserved c = search hit_next

pub returns : goal.returns
returns c = search hit_end
