-- The test for 0 is the definition, by computation.
use mathlib.Core.Path.{refl}
use Rattle.base_timing.specs.Timing.{expired}
use Rattle.base_timing.proofs.Ttl.expired.Goals as goal

pub returns : goal.returns
unfolding expired
returns c = refl
