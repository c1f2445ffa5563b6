-- The header of zeroes is the definition's, unfolded.
use mathlib.Core.Path.{refl}
use Rattle.controller.specs.Reader.{no_header}
use Rattle.controller.proofs.no_header.Goals as goal

pub returns : goal.returns
unfolding no_header
returns c = refl
