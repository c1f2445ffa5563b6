-- By cases: the shuffled set is short enough, or clearing it from `most` on leaves its first `most` peers.
use Rattle.base_util.specs.Section.{part}
use Rattle.base_util.proofs.Sets.{set_inside, cut_short}
use Rattle.step_sending.proofs.Sets.{capped}
use Rattle.step_sending.proofs.shuffle_and_cap.Goals as goal

pub slice_bounds-clear_from-end-2 : goal.slice_bounds-clear_from-end-2
unfolding part
slice_bounds-clear_from-end-2 c = search set_inside

pub returns-clause-changes_set : goal.returns-clause-changes_set
unfolding part
returns-clause-changes_set c = search (capped, cut_short)
