-- The places are lent as a column, and the items that are not x are those that are not in a list of x alone.
use Rattle.base_util.specs.Section.{part}
use Rattle.base_util.proofs.Sets.{set_column, left_without}
use Rattle.base_util.proofs.without.Goals as goal

pub without_all_in-m-requires : goal.without_all_in-m-requires
unfolding part
without_all_in-m-requires c = search set_column

pub returns : goal.returns
unfolding part
returns c = search left_without
