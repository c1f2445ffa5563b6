-- The first column is changed alone, so the second is still filled; together the two results are `Two`, by `two_out`.
use Rattle.base_util.specs.Section.{part}
use Rattle.base_columns.proofs.Two.{two_inside, two_filled, two_out}
use borrow.Author.Rules.{rules}
use Rattle.base_columns.proofs.out_two.Goals as goal

pub slice_bounds-take_out-end-2 : goal.slice_bounds-take_out-end-2
unfolding part
slice_bounds-take_out-end-2 c = search two_inside

pub take_out-requires : goal.take_out-requires
unfolding part
take_out-requires c = search rules

pub take_out-requires-2-clause-filled : goal.take_out-requires-2-clause-filled
unfolding part
take_out-requires-2-clause-filled c = search two_filled

pub take_out-requires-2-clause-i_lt_n : goal.take_out-requires-2-clause-i_lt_n
unfolding part
take_out-requires-2-clause-i_lt_n c = search rules

pub returns : goal.returns
unfolding part
returns c = search two_out
