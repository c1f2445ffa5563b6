-- The neighbors to come, renewed in the words so far, are the answer.
use Rattle.step_maintenance.proofs.Counted.{Renewing}
use Rattle.step_maintenance.proofs.handle_maintenance_timer.Given as goal

abbrev pub invariant-loop-i : goal.invariant-loop-i
invariant-loop-i l = Renewing l.w.code l.initial.st l.n l.st l.i
