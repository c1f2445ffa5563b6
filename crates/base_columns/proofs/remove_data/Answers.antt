-- By cases: without the key nothing changes; otherwise its place leaves all four columns, two by two, and the count falls.
use Rattle.base_util.specs.Section.{part}
use Rattle.base_columns.specs.Columns.{head_of}
use Rattle.base_columns.proofs.Data.{data_inside, data_size, data_keyed, data_lens, data_kept, tail_size, tail_lows, tail_highs, data_long, data_removed}
use borrow.Author.Rules.{rules}
use Rattle.base_columns.proofs.remove_data.Goals as goal

pub returns-then-i-n : goal.returns-then-i-n
returns-then-i-n c = search data_kept

pub slice_bounds-out_two-end-2 : goal.slice_bounds-out_two-end-2
unfolding part
slice_bounds-out_two-end-2 c = search data_inside

pub out_two-requires-clause-s_len : goal.out_two-requires-clause-s_len
unfolding part head_of
out_two-requires-clause-s_len c = search data_size

pub out_two-requires-clause-filled : goal.out_two-requires-clause-filled
unfolding part head_of
out_two-requires-clause-filled c = search data_keyed

pub out_two-requires-clause-filled_2 : goal.out_two-requires-clause-filled_2
unfolding part head_of
out_two-requires-clause-filled_2 c = search data_lens

pub out_two-requires-clause-i_lt_n : goal.out_two-requires-clause-i_lt_n
unfolding part head_of
out_two-requires-clause-i_lt_n c = search rules

pub out_two-requires-2-clause-s_len : goal.out_two-requires-2-clause-s_len
unfolding part head_of
out_two-requires-2-clause-s_len c = search tail_size

pub out_two-requires-2-clause-filled : goal.out_two-requires-2-clause-filled
unfolding part head_of
out_two-requires-2-clause-filled c = tail_lows _ _ c.requires _ _ _ c.out_two.ensures

pub out_two-requires-2-clause-filled_2 : goal.out_two-requires-2-clause-filled_2
unfolding part head_of
out_two-requires-2-clause-filled_2 c = tail_highs _ _ c.requires _ _ _ c.out_two.ensures

pub out_two-requires-2-clause-i_lt_n : goal.out_two-requires-2-clause-i_lt_n
unfolding part head_of
out_two-requires-2-clause-i_lt_n c = search rules

pub shape_of-m : goal.shape_of-m
unfolding part
shape_of-m c =
    data_long _ _ c.requires _ _ _ c.out_two.ensures _ _ _ _ c.out_two-2.ensures

pub returns : goal.returns
unfolding part head_of
returns c = search data_removed
