-- What is wanted is the shuffle of what is left.
use Rattle.base_util.proofs.Stores.{Shuffling}
use Rattle.base_util.proofs.shuffle.Given as goal

abbrev pub invariant-loop-i : goal.invariant-loop-i
invariant-loop-i l = Shuffling l.draws l.at l.cap l.initial.s l.s l.i l.k
