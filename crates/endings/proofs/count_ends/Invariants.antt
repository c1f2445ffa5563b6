-- The sum is the fold over all histories shorter than n.
use Rattle.endings.proofs.Counts.{Counting}
use Rattle.endings.proofs.count_ends.Given as goal

abbrev pub invariant-loop-n : goal.invariant-loop-n
invariant-loop-n l = Counting l.first l.sum l.n
