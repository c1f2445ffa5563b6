-- The bytes that are left of the front are to be written.
use lib.ListN.{drop}
use Rattle.trace_text.specs.Hex.{hex}
use Rattle.trace_text.proofs.Writing.{Writing}
use Rattle.trace_text.proofs.put_front.Given as goal

abbrev pub invariant-loop-x : goal.invariant-loop-x
invariant-loop-x l = Writing (hex l.x-items) l.initial.t l.t (hex (drop l.x-index l.x-items))
