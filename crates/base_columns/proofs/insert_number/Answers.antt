-- By cases: a key that is there has its number replaced; a new one enters both columns at its rank, and the count grows.
use Rattle.base_util.specs.Section.{part}
use Rattle.base_columns.proofs.Numbers.{number_inside, number_column, number_fits, number_room, numbers_long, second_filled, second_fits, number_replaced, number_inserted}
use borrow.Author.Rules.{rules}
use Rattle.base_columns.proofs.insert_number.Goals as goal

pub returns-then-i-n : goal.returns-then-i-n
returns-then-i-n c = search number_replaced

pub slice_bounds-put_in-end-2 : goal.slice_bounds-put_in-end-2
unfolding part
slice_bounds-put_in-end-2 c = search number_inside

pub put_in-requires-clause-filled : goal.put_in-requires-clause-filled
unfolding part
put_in-requires-clause-filled c = search number_column

pub put_in-requires-clause-n_in_bounds : goal.put_in-requires-clause-n_in_bounds
unfolding part
put_in-requires-clause-n_in_bounds c = search number_fits

pub put_in-requires-clause-i_le_n : goal.put_in-requires-clause-i_le_n
unfolding part
put_in-requires-clause-i_le_n c = search rules

pub put_in-requires-2-clause-filled : goal.put_in-requires-2-clause-filled
unfolding part
put_in-requires-2-clause-filled c = search second_filled

pub put_in-requires-2-clause-n_in_bounds : goal.put_in-requires-2-clause-n_in_bounds
unfolding part
put_in-requires-2-clause-n_in_bounds c = search (second_fits, number_room)

pub put_in-requires-2-clause-i_le_n : goal.put_in-requires-2-clause-i_le_n
unfolding part
put_in-requires-2-clause-i_le_n c = search rules

pub shape_of-m : goal.shape_of-m
unfolding part
shape_of-m c =
    numbers_long _ _ _ _ _ _ _ c.put_in.ensures c.put_in-2.ensures c.requires.valid_numbers

pub returns : goal.returns
unfolding part
returns c = search number_inserted
