-- The answer of zeroes is the definition's, unfolded.
use mathlib.Core.Path.{refl}
use Rattle.controller.specs.Reader.{no_entry}
use Rattle.controller.proofs.no_node.Goals as goal

pub returns : goal.returns
unfolding no_entry
returns c = refl
