-- The definition's own record.
use mathlib.Core.Path.{refl}
use Rattle.run_input.specs.Input.{settings_of}
use Rattle.run_input.proofs.settings_of.Goals as goal

pub returns : goal.returns
unfolding settings_of
returns c = refl
