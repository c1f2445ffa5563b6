-- What is counted and what is to come, from the event at place i on, is the fold over all; the remaining length falls with each call within.
use Rattle.endings.proofs.Counts.{Extending}
use Rattle.endings.proofs.+extend.Given as goal

abbrev pub decreases-extend : goal.decreases-extend
decreases-extend l = l.left

abbrev pub invariant-loop-i : goal.invariant-loop-i
invariant-loop-i l = Extending l.p.state l.p.number l.left l.fn.c l.sum l.i
