-- `quarters` meets its contract: the pairs of words are the runs of eight bytes.
use borrow.Author.Rules.{rules}
use Rattle.blake3.proofs.Laws.{quartered}
use Rattle.blake3.proofs.quarters.Goals as goal

pub returns : goal.returns
returns c = search (quartered, rules)
