-- The numbers passed are written, each with a space behind it.
use lib.ListN.{take}
use Rattle.run_text.specs.Text.{Prints}
use Rattle.run_text.proofs.Laws.{spaced}
use Rattle.run_text.proofs.Page.put_record.Given as goal

abbrev pub invariant-loop-n : goal.invariant-loop-n
invariant-loop-n l = Prints (spaced (take l.n-index l.n-items)) l.initial.self l.self
