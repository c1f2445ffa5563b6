-- The bytes passed are written.
use lib.ListN.{take}
use Rattle.run_text.specs.Text.{Prints}
use Rattle.run_text.proofs.Page.put_bytes.Given as goal

abbrev pub invariant-loop-x : goal.invariant-loop-x
invariant-loop-x l = Prints (take l.x-index l.s) l.initial.self l.self
