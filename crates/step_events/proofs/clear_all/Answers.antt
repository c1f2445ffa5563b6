-- Each call clears one section and leaves the others, so the five together are the station wiped.
use Rattle.base_util.specs.Section.{part}
use Rattle.step_events.proofs.Clearing.{wiped}
use Rattle.step_events.proofs.clear_all.Goals as goal

pub returns : goal.returns
unfolding part
returns c =
    wiped _ _ _ _ _ _ c.requires.packed_state c.clear.ensures c.clear-2.ensures c.clear_from.ensures c.clear-3.ensures c.clear_from-2.ensures
