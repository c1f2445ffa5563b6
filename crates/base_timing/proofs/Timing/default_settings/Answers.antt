-- The constants of the code and of the definition are the same, by computation.
use mathlib.Core.Path.{refl}
use Rattle.base_timing.specs.Timing.{default}
use Rattle.base_timing.proofs.Timing.default_settings.Goals as goal

pub returns : goal.returns
unfolding default
returns c = refl
