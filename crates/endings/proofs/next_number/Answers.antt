-- A byte added leaves the rest to come.
use borrow.Author.Rules.{rules}
use Rattle.endings.proofs.Counts.{numbering_next, numbering_end}
use Rattle.endings.proofs.next_number.Goals as goal

pub loop-b-preserved : goal.loop-b-preserved
loop-b-preserved c = search (numbering_next, rules)

pub returns : goal.returns
returns c = (search (numbering_end, rules), search rules)
