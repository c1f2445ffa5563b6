-- The number where the bytes still to come are added is the definition's.
use Rattle.endings.proofs.Counts.{Numbering}
use Rattle.endings.proofs.next_number.Given as goal

abbrev pub invariant-loop-b : goal.invariant-loop-b
invariant-loop-b l = Numbering l.number l.event l.k l.b-index
