-- `g` meets its contract: its two halves are the definition's.
use mathlib.Core.Path.{ap, ◌∙◌}
use Rattle.blake3.specs.Blake3.{half, g}
use Rattle.blake3.proofs.Quad.g.Goals as goal

pub returns : goal.returns
unfolding g
returns c = c.half-2.ensures ∙ ap (half 8 7 c.args.y) c.half.ensures
