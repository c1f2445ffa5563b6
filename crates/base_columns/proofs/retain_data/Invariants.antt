-- What is to be retained stays the same, and those from i on stay.
use Rattle.base_columns.proofs.Kept.{Retaining}
use Rattle.base_columns.proofs.retain_data.Given as goal

abbrev pub invariant-loop-i : goal.invariant-loop-i
invariant-loop-i l = Retaining l.cap l.scap l.s l.initial.m l.m l.i
