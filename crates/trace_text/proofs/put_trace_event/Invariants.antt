-- The bytes of the line passed are written.
use Rattle.trace_text.proofs.Line.{Lining}
use Rattle.trace_text.proofs.put_trace_event.Given as goal

abbrev pub invariant-loop-x : goal.invariant-loop-x
invariant-loop-x l = Lining l.st l.initial.t l.t l.x-index l.field
