-- The measure is what is left of the input.
use lib.ListN.{length}
use Rattle.test_tally.proofs.show_tallies.Given as goal

abbrev pub invariant-loop-rest : goal.invariant-loop-rest
invariant-loop-rest l = Unit {0}

abbrev pub decreases-loop-rest : goal.decreases-loop-rest
decreases-loop-rest l = length l.rest
