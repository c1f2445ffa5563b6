-- The places are a filled column from which `take_out` takes the item, and the count falls: by `shifted` that is `shift_remove`.
use Rattle.base_util.specs.Section.{part}
use Rattle.base_util.proofs.Sets.{set_inside, set_column, shifted}
use borrow.Author.Rules.{rules}
use Rattle.base_util.proofs.shift_remove_index.Goals as goal

pub slice_bounds-take_out-end-2 : goal.slice_bounds-take_out-end-2
unfolding part
slice_bounds-take_out-end-2 c = search set_inside

pub take_out-requires-clause-filled : goal.take_out-requires-clause-filled
unfolding part
take_out-requires-clause-filled c = search set_column

pub take_out-requires-clause-i_lt_n : goal.take_out-requires-clause-i_lt_n
unfolding part
take_out-requires-clause-i_lt_n c = search rules

pub returns : goal.returns
unfolding part
returns c = search shifted
