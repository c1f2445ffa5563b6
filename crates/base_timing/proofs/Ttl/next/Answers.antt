-- One less, and none below 0, is the definition.
use borrow.Author.Rules.{rules}
use Rattle.base_timing.specs.Timing.{next}
use Rattle.base_timing.proofs.Ttl.next.Goals as goal

pub returns : goal.returns
unfolding next
returns c = search rules
