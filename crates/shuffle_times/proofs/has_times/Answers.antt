-- The settings' test is `in_range`'s, and the rest is the definition's, unfolded.
use Rattle.shuffle_times.specs.Times.{has_times}
use Rattle.shuffle_times.proofs.has_times.Goals as goal

pub returns : goal.returns
unfolding has_times
returns c = rw c.in_range-settings.ensures
