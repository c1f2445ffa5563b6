-- The events to come are listed after what was written.
use borrow.Author.Rules.{rules}
use Rattle.run_listing.proofs.Laws.{running_start, running_next, running_end, walked}
use Rattle.run_listing.proofs.put_walk.Goals as goal

pub loop-i-init : goal.loop-i-init
loop-i-init c = search (running_start, rules)

pub loop-i-preserved : goal.loop-i-preserved
loop-i-preserved c = search (running_next, rules)

pub returns : goal.returns
returns c = search (walked, running_end)
