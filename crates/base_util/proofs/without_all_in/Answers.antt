-- The first m places hold what is kept of those passed.
use Rattle.base_util.proofs.Stores.{packing_start, packing_passed, packing_kept, packing_end, packing_count}
use borrow.Author.Rules.{rules}
use Rattle.base_util.proofs.without_all_in.Goals as goal

pub loop-i-init : goal.loop-i-init
loop-i-init c = search packing_start

pub loop-i-preserved-then-is_in : goal.loop-i-preserved-then-is_in
loop-i-preserved-then-is_in c = search packing_passed

pub loop-i-preserved : goal.loop-i-preserved
loop-i-preserved c = search packing_kept

pub returns-clause-changes_column : goal.returns-clause-changes_column
returns-clause-changes_column c = search packing_end

pub returns-clause-value : goal.returns-clause-value
returns-clause-value c = (search packing_count, search rules)
