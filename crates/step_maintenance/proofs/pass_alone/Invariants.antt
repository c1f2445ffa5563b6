-- The Joins told and those to the peers left are all that are wanted.
use Rattle.step_maintenance.proofs.Joins.{Joining}
use Rattle.step_maintenance.proofs.pass_alone.Given as goal

abbrev pub invariant-loop-p : goal.invariant-loop-p
invariant-loop-p l = Joining l.shared l.initial.a l.initial.out l.p-items l.out l.a l.p-index
