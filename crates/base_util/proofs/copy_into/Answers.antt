-- The places of a valid set are a filled column that fits a working set, so the contract of `copy_column` says the rest.
use Rattle.base_util.specs.Section.{part}
use Rattle.base_util.proofs.Sets.{set_inside, set_column, column_few}
use Rattle.base_util.proofs.Copies.{copied}
use borrow.Author.Rules.{rules}
use Rattle.base_util.proofs.copy_into.Goals as goal

pub slice_bounds-copy_column-end : goal.slice_bounds-copy_column-end
unfolding part
slice_bounds-copy_column-end c = search set_inside

pub copy_column-requires-clause-filled : goal.copy_column-requires-clause-filled
unfolding part
copy_column-requires-clause-filled c = search set_column

pub copy_column-requires-clause-s_len_bound : goal.copy_column-requires-clause-s_len_bound
unfolding part
copy_column-requires-clause-s_len_bound c = search column_few

pub copy_column-requires-clause-t_len : goal.copy_column-requires-clause-t_len
unfolding part
copy_column-requires-clause-t_len c = search rules

pub returns : goal.returns
unfolding part
returns c = search copied
