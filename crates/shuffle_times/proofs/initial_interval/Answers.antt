-- The contract follows from that of `shorter`: the first interval is the lesser of the two.
use Rattle.shuffle_times.specs.Times.{first_interval}
use borrow.Author.Rules.{rules}
use Rattle.shuffle_times.proofs.initial_interval.Goals as goal

pub returns : goal.returns
unfolding first_interval
returns c = search rules
