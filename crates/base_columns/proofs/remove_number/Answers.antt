-- By cases: without the key nothing changes; otherwise its place leaves both columns, and the count falls.
use Rattle.base_util.specs.Section.{part}
use Rattle.base_columns.proofs.Numbers.{number_inside, number_column, numbers_long, second_filled, cut_kept, removed}
use borrow.Author.Rules.{rules}
use Rattle.base_columns.proofs.remove_number.Goals as goal

pub returns-then-i-n : goal.returns-then-i-n
returns-then-i-n c = search cut_kept

pub slice_bounds-take_out-end-2 : goal.slice_bounds-take_out-end-2
unfolding part
slice_bounds-take_out-end-2 c = search number_inside

pub take_out-requires-clause-filled : goal.take_out-requires-clause-filled
unfolding part
take_out-requires-clause-filled c = search number_column

pub take_out-requires-clause-i_lt_n : goal.take_out-requires-clause-i_lt_n
unfolding part
take_out-requires-clause-i_lt_n c = search rules

pub take_out-requires-2-clause-filled : goal.take_out-requires-2-clause-filled
unfolding part
take_out-requires-2-clause-filled c = search second_filled

pub take_out-requires-2-clause-i_lt_n : goal.take_out-requires-2-clause-i_lt_n
unfolding part
take_out-requires-2-clause-i_lt_n c = search rules

pub shape_of-m : goal.shape_of-m
unfolding part
shape_of-m c =
    numbers_long _ _ _ _ _ _ _ c.take_out.ensures c.take_out-2.ensures c.requires

pub returns : goal.returns
unfolding part
returns c = search removed
