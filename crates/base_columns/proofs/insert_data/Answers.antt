-- By cases: a key that is there has its row replaced; a new one enters all four columns at its rank, and the count grows.
use Rattle.base_util.specs.Section.{part}
use Rattle.base_columns.specs.Columns.{head_of}
use Rattle.base_columns.proofs.Data.{data_inside, data_size, data_keyed, data_lens, store_2, store_3, data_room, tail_size, tail_lows, tail_highs, data_long, data_replaced, data_inserted}
use borrow.Author.Rules.{rules}
use Rattle.base_columns.proofs.insert_data.Goals as goal

pub bounds-m-half : goal.bounds-m-half
unfolding part head_of
bounds-m-half c = search store_2

pub bounds-m-half-then-i-n : goal.bounds-m-half-then-i-n
unfolding part head_of
bounds-m-half-then-i-n c = search store_3

pub returns-then-i-n : goal.returns-then-i-n
unfolding part head_of
returns-then-i-n c = search data_replaced

pub slice_bounds-in_two-end-2 : goal.slice_bounds-in_two-end-2
unfolding part
slice_bounds-in_two-end-2 c = search data_inside

pub in_two-requires-clause-s_len : goal.in_two-requires-clause-s_len
unfolding part head_of
in_two-requires-clause-s_len c = search data_size

pub in_two-requires-clause-filled : goal.in_two-requires-clause-filled
unfolding part head_of
in_two-requires-clause-filled c = search data_keyed

pub in_two-requires-clause-filled_2 : goal.in_two-requires-clause-filled_2
unfolding part head_of
in_two-requires-clause-filled_2 c = search data_lens

pub in_two-requires-clause-n_lt_cap : goal.in_two-requires-clause-n_lt_cap
unfolding part head_of
in_two-requires-clause-n_lt_cap c = search data_room

pub in_two-requires-clause-i_le_n : goal.in_two-requires-clause-i_le_n
unfolding part head_of
in_two-requires-clause-i_le_n c = search rules

pub in_two-requires-2-clause-s_len : goal.in_two-requires-2-clause-s_len
unfolding part head_of
in_two-requires-2-clause-s_len c = search tail_size

pub in_two-requires-2-clause-filled : goal.in_two-requires-2-clause-filled
unfolding part head_of
in_two-requires-2-clause-filled c = tail_lows _ _ c.requires.valid_data_words _ _ _ c.in_two.ensures

pub in_two-requires-2-clause-filled_2 : goal.in_two-requires-2-clause-filled_2
unfolding part head_of
in_two-requires-2-clause-filled_2 c = tail_highs _ _ c.requires.valid_data_words _ _ _ c.in_two.ensures

pub in_two-requires-2-clause-n_lt_cap : goal.in_two-requires-2-clause-n_lt_cap
unfolding part head_of
in_two-requires-2-clause-n_lt_cap c = data_room _ _ c.requires.valid_data_words _ _ c.find-i.ensures.0 c.if-i-n.false c.requires.cap_value

pub in_two-requires-2-clause-i_le_n : goal.in_two-requires-2-clause-i_le_n
unfolding part head_of
in_two-requires-2-clause-i_le_n c = c.rank_of-at.ensures.1

pub shape_of-m : goal.shape_of-m
unfolding part
shape_of-m c =
    data_long _ _ c.requires.valid_data_words _ _ _ c.in_two.ensures _ _ _ _ c.in_two-2.ensures

pub returns : goal.returns
unfolding part head_of
returns c =
    data_inserted _ _ c.requires.valid_data_words _ _ c.find-i.ensures.0 _ _ _ c.word_at-low.ensures.0 c.word_at-high.ensures.0 _ _ _ c.if-i-n.false c.requires.cap_value c.rank_of-at.ensures.0 c.in_two.ensures c.in_two-2.ensures
