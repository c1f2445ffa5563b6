-- The count says how many words are lent, and they are the set's items, by `lent_mem`.
use Rattle.base_util.proofs.Sets.{lent_long, lent_mem}
use Rattle.base_util.proofs.contains.Goals as goal

pub slice_bounds-is_in-end : goal.slice_bounds-is_in-end
slice_bounds-is_in-end c = search lent_long

pub returns : goal.returns
returns c = search lent_mem
