-- What is to be retained stays the same, and those from i on stay.
use Rattle.base_columns.proofs.Kept.{retaining_start, retaining_valid, retaining_next, retaining_cut, retaining_end}
use Rattle.base_columns.proofs.retain_data.Goals as goal

pub loop-i-init : goal.loop-i-init
loop-i-init c = search retaining_start

pub loop-i-preserved-then-contains : goal.loop-i-preserved-then-contains
loop-i-preserved-then-contains c = search retaining_next

pub remove_data-requires : goal.remove_data-requires
remove_data-requires c = search retaining_valid

pub loop-i-preserved : goal.loop-i-preserved
loop-i-preserved c = search retaining_cut

pub returns : goal.returns
returns c = search retaining_end
