-- The zeroes and the order are looked at first, and then the entries.
use Rattle.base_columns.proofs.Testing.{Rows}
use Rattle.base_columns.proofs.data_valid.Given as goal

abbrev pub invariant-loop-i : goal.invariant-loop-i
invariant-loop-i l = Rows l.cap l.m l.half l.high l.n l.ok l.i
