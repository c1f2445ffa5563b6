-- The first column is filled up to the count and fits a working set, so its copy is the set of the map's keys.
use Rattle.base_util.specs.Section.{part}
use Rattle.base_columns.proofs.Numbers.{number_inside, number_column}
use Rattle.base_columns.proofs.Sections.{keys_few, keys_copied}
use borrow.Author.Rules.{rules}
use Rattle.base_columns.proofs.keys_into.Goals as goal

pub slice_bounds-copy_column-end : goal.slice_bounds-copy_column-end
unfolding part
slice_bounds-copy_column-end c = search number_inside

pub copy_column-requires-clause-filled : goal.copy_column-requires-clause-filled
unfolding part
copy_column-requires-clause-filled c = search number_column

pub copy_column-requires-clause-s_len_bound : goal.copy_column-requires-clause-s_len_bound
unfolding part
copy_column-requires-clause-s_len_bound c = search keys_few

pub copy_column-requires-clause-t_len : goal.copy_column-requires-clause-t_len
unfolding part
copy_column-requires-clause-t_len c = search rules

pub returns : goal.returns
unfolding part
returns c = search keys_copied
