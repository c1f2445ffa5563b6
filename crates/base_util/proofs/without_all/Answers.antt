-- The places and what is skipped are lent as columns, and the new count is how many items `without_all_in` left.
use Rattle.base_util.specs.Section.{part}
use Rattle.base_util.proofs.Sets.{set_inside, set_column, lent_long, left_without_all}
use Rattle.base_util.proofs.without_all.Goals as goal

pub slice_bounds-without_all_in-end-2 : goal.slice_bounds-without_all_in-end-2
unfolding part
slice_bounds-without_all_in-end-2 c = search set_inside

pub slice_bounds-without_all_in-end-3 : goal.slice_bounds-without_all_in-end-3
slice_bounds-without_all_in-end-3 c = search lent_long

pub without_all_in-m-requires : goal.without_all_in-m-requires
unfolding part
without_all_in-m-requires c = search set_column

pub returns : goal.returns
unfolding part
returns c = search left_without_all
