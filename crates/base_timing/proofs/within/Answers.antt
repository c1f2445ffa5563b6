-- Both comparisons are the definition, by computation.
use mathlib.Core.Path.{refl}
use Rattle.base_timing.specs.Timing.{within}
use Rattle.base_timing.proofs.within.Goals as goal

pub returns : goal.returns
unfolding within
returns c = refl
