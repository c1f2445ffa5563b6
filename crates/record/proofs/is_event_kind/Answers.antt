-- One comparison is the same as the list of kinds, by a test of every byte.
use borrow.Author.Rules.{rules}
use Rattle.record.proofs.ByKind.{events_compared}
use Rattle.record.proofs.is_event_kind.Goals as goal

pub returns : goal.returns
returns c = events_compared _ (search rules)
