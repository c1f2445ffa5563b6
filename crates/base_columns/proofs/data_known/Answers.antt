-- Each list is lent up to its count, and by `known_lent` those words are the map's keys and the peers of the three sections.
use Rattle.base_util.proofs.Sets.{lent_long}
use Rattle.base_columns.proofs.Numbers.{numbers_counted}
use Rattle.base_columns.proofs.Data.{data_counted}
use Rattle.base_columns.proofs.Kept.{known_lent}
use Rattle.base_columns.proofs.data_known.Goals as goal

pub slice_bounds-subset_of_three-end : goal.slice_bounds-subset_of_three-end
slice_bounds-subset_of_three-end c = search data_counted

pub slice_bounds-subset_of_three-end-2 : goal.slice_bounds-subset_of_three-end-2
slice_bounds-subset_of_three-end-2 c = search lent_long

pub slice_bounds-subset_of_three-end-3 : goal.slice_bounds-subset_of_three-end-3
slice_bounds-subset_of_three-end-3 c = search lent_long

pub slice_bounds-subset_of_three-end-4 : goal.slice_bounds-subset_of_three-end-4
slice_bounds-subset_of_three-end-4 c = search numbers_counted

pub returns : goal.returns
returns c = search known_lent
