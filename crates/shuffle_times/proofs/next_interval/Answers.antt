-- The contract follows from that of `shorter`; an interval in range doubles without overflow.
use Rattle.shuffle_times.specs.Times.{next_interval}
use borrow.Author.Rules.{rules}
use Rattle.shuffle_times.proofs.next_interval.Goals as goal

pub returns : goal.returns
unfolding next_interval
returns c = search rules
