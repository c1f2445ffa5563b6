-- Each of the six counts is what `counted` gives, and together they are the definition's record.
use Rattle.tally.specs.Counts.{raise_one}
use Rattle.tally.proofs.raise_one.Goals as goal

pub returns : goal.returns
unfolding raise_one
returns c = cc
