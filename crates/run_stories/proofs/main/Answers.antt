-- The count that `tell` answered is within the space, so that the part lent has that length.
use Rattle.run_stories.proofs.Laws.{cut_length}
use Rattle.run_stories.proofs.main.Goals as goal

pub slice_bounds-write_all-end : goal.slice_bounds-write_all-end
slice_bounds-write_all-end c = search cut_length
