-- By cases on whether `find` met x: its place is removed, or nothing changes; either is the definition's `remove`.
use Rattle.base_util.proofs.Sets.{lent_fits, remove_within, remove_found, remove_none}
use Rattle.base_util.proofs.remove.Goals as goal

pub find-i-requires : goal.find-i-requires
find-i-requires c = search lent_fits

pub remove_index-requires-clause-i_in_bounds : goal.remove_index-requires-clause-i_in_bounds
remove_index-requires-clause-i_in_bounds c = search remove_within

pub returns-then-i-n : goal.returns-then-i-n
returns-then-i-n c = search remove_found

pub returns-else-i-n : goal.returns-else-i-n
returns-else-i-n c = search remove_none
