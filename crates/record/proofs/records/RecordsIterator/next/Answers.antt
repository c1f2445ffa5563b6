-- By cases: no header fits, the length is 0, or a record is there, and the others come after it.
use Rattle.std.proofs.Common.{ap, length, arith}
use Rattle.record.proofs.Walk.{seen_few, seen_none, seen_next}
use Rattle.record.proofs.records.RecordsIterator.next.Goals as goal

pub returns-then-b-lt-HEADER-clause-steps : goal.returns-then-b-lt-HEADER-clause-steps
returns-then-b-lt-HEADER-clause-steps c = let e = seen_few _ c.if-b-lt-HEADER.true in (e, e)

pub returns-then-n-eq0-clause-steps : goal.returns-then-n-eq0-clause-steps
returns-then-n-eq0-clause-steps c = let e = seen_none _ _ c.read_header-h.ensures c.if-n-eq0.true in (e, e)

pub returns-clause-steps : goal.returns-clause-steps
returns-clause-steps c = seen_next _ _ c.read_header-h.ensures c.if-b-lt-HEADER.false c.if-n-eq0.false _ c.min.ensures

pub returns-clause-goes : goal.returns-clause-goes
returns-clause-goes c =
    let e = ap length (seen_next _ _ c.read_header-h.ensures c.if-b-lt-HEADER.false c.if-n-eq0.false _ c.min.ensures) in
    record { on = λ _. (tt, tt, omega (arith, e)); keeps = tt; rests = λ _. tt }
