-- The items passed are written.
use Rattle.trace_text.proofs.Listing.{Listed}
use Rattle.trace_text.proofs.put_items.Given as goal

abbrev pub invariant-loop-i : goal.invariant-loop-i
invariant-loop-i l = Listed l.columns l.at l.room l.st l.count l.initial.t l.t l.i
