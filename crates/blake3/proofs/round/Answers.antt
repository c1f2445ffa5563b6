-- `round` meets its contract: first the columns, and then the diagonals.
use mathlib.Core.Path.{ap, ◌∙◌}
use Rattle.blake3.specs.Blake3.{diagonals, round}
use Rattle.blake3.proofs.round.Goals as goal

pub returns : goal.returns
unfolding round
returns c = c.diagonals.ensures ∙ ap (diagonals c.args.m) c.columns.ensures
