-- The bytes of the one word and then those of the other.
use Rattle.base_columns.proofs.Words.{words_stored}
use borrow.Author.Rules.{rules}
use Rattle.base_columns.proofs.bytes_of.Goals as goal

pub returns : goal.returns
returns c = words_stored _ _ _ _ (search rules) (search rules)
