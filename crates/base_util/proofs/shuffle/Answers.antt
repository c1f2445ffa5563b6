-- What is wanted is the shuffle of what is left.
use Rattle.base_util.proofs.Stores.{shuffling_start, shuffling_next, shuffled_end, shuffled_taken}
use borrow.Author.Rules.{rules}
use Rattle.base_util.proofs.shuffle.Goals as goal

pub loop-i-init : goal.loop-i-init
loop-i-init c = search shuffling_start

pub loop-i-preserved : goal.loop-i-preserved
loop-i-preserved c = search (shuffling_next, rules)

pub returns-clause-changes_set : goal.returns-clause-changes_set
returns-clause-changes_set c = search shuffled_end

pub returns-clause-value : goal.returns-clause-value
returns-clause-value c = search shuffled_taken
