-- By cases: an item that is there changes nothing; a new one is put in at its rank, for which `insert_fits` finds room.
use Rattle.base_util.specs.Section.{part}
use Rattle.base_util.proofs.Sets.{set_inside, set_column, lent_fits, insert_kept, insert_fits, inserted}
use borrow.Author.Rules.{rules}
use Rattle.base_util.proofs.insert_sorted.Goals as goal

pub find-i-requires : goal.find-i-requires
find-i-requires c = search lent_fits

pub returns-then-i-n : goal.returns-then-i-n
returns-then-i-n c = search insert_kept

pub rank_of-at-requires : goal.rank_of-at-requires
rank_of-at-requires c = search lent_fits

pub slice_bounds-put_in-end-2 : goal.slice_bounds-put_in-end-2
unfolding part
slice_bounds-put_in-end-2 c = search set_inside

pub put_in-requires-clause-filled : goal.put_in-requires-clause-filled
unfolding part
put_in-requires-clause-filled c = search set_column

pub put_in-requires-clause-n_in_bounds : goal.put_in-requires-clause-n_in_bounds
unfolding part
put_in-requires-clause-n_in_bounds c = search insert_fits

pub put_in-requires-clause-i_le_n : goal.put_in-requires-clause-i_le_n
unfolding part
put_in-requires-clause-i_le_n c = search rules

pub returns : goal.returns
unfolding part
returns c = search inserted
