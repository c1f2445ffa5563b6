-- Two comparisons are the same as the list of kinds, by a test of every byte.
use borrow.Author.Rules.{rules}
use Rattle.record.proofs.ByKind.{outputs_compared}
use Rattle.record.proofs.is_output_kind.Goals as goal

pub returns : goal.returns
returns c = outputs_compared _ (search rules)
