-- The first m places hold what is kept of those passed.
use Rattle.base_util.proofs.Stores.{Packing}
use Rattle.base_util.proofs.without_all_in.Given as goal

abbrev pub invariant-loop-i : goal.invariant-loop-i
invariant-loop-i l = Packing l.skip l.initial.s l.n l.s l.m l.i
