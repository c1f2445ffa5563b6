-- The first column is changed alone, so the second is still filled; together the two results are `Two`, by `two_in`.
use Rattle.base_util.specs.Section.{part}
use Rattle.base_columns.proofs.Two.{two_inside, two_room, two_filled, two_fits, two_in}
use borrow.Author.Rules.{rules}
use Rattle.base_columns.proofs.in_two.Goals as goal

pub slice_bounds-put_in-end-2 : goal.slice_bounds-put_in-end-2
unfolding part
slice_bounds-put_in-end-2 c = search two_inside

pub put_in-requires-clause-filled : goal.put_in-requires-clause-filled
unfolding part
put_in-requires-clause-filled c = search rules

pub put_in-requires-clause-n_in_bounds : goal.put_in-requires-clause-n_in_bounds
unfolding part
put_in-requires-clause-n_in_bounds c = search two_room

pub put_in-requires-clause-i_le_n : goal.put_in-requires-clause-i_le_n
unfolding part
put_in-requires-clause-i_le_n c = search rules

pub put_in-requires-2-clause-filled : goal.put_in-requires-2-clause-filled
unfolding part
put_in-requires-2-clause-filled c = search two_filled

pub put_in-requires-2-clause-n_in_bounds : goal.put_in-requires-2-clause-n_in_bounds
unfolding part
put_in-requires-2-clause-n_in_bounds c = search two_fits

pub put_in-requires-2-clause-i_le_n : goal.put_in-requires-2-clause-i_le_n
unfolding part
put_in-requires-2-clause-i_le_n c = search rules

pub returns : goal.returns
unfolding part
returns c = search two_in
