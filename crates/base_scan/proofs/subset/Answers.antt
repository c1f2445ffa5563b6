-- What `ok` says with the words still to come is `subset a b`; a hint that meets the word needs no search.
use Rattle.base_scan.proofs.Hints.{at_hint}
use Rattle.base_scan.proofs.Loops.{subset_start, every_seen, every_asked, every_end}
use borrow.Author.Rules.{rules}
use Rattle.base_scan.proofs.subset.Goals as goal

pub loop-x-init : goal.loop-x-init
loop-x-init c = (search rules, search subset_start)

pub loop-x-preserved-then-x-b : goal.loop-x-preserved-then-x-b
loop-x-preserved-then-x-b c = (search rules, search (every_seen, at_hint))

pub loop-x-preserved : goal.loop-x-preserved
loop-x-preserved c = (search rules, search every_asked)

pub returns : goal.returns
returns c = search every_end
