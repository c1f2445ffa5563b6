-- The items from place i on are distinct and marked: an item without a mark is new, one with it is looked for.
use Rattle.base_util.proofs.Marked.{Marking}
use Rattle.base_util.proofs.is_distinct.Given as goal

abbrev pub invariant-loop-i : goal.invariant-loop-i
invariant-loop-i l = Marking l.n l.s l.seen l.i
