-- By cases of the mark: a marked peer loses the mark alone, any other its place and its data.
use Rattle.step_events.proofs.Leaving.{saved, lost}
use Rattle.step_events.proofs.lose_passive.Goals as goal

pub returns-then-is_marked : goal.returns-then-is_marked
returns-then-is_marked c = search saved

pub returns : goal.returns
returns c = search lost
