-- First the words of b before the place have their marks, then none of a's words before the place is in b.
use Rattle.base_scan.proofs.Hints.{Noting, Passing}
use Rattle.base_scan.proofs.disjoint.Given as goal

abbrev pub invariant-loop-y : goal.invariant-loop-y
invariant-loop-y l = Noting l.b l.seen l.y-index

abbrev pub invariant-loop-x : goal.invariant-loop-x
invariant-loop-x l = Passing l.a l.b l.seen l.x-index
