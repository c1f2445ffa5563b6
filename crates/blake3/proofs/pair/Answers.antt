-- `pair` meets its contract: the bytes of the two words, one after the other.
use borrow.Author.Rules.{rules}
use Rattle.blake3.proofs.Laws.{paired}
use Rattle.blake3.proofs.pair.Goals as goal

pub returns : goal.returns
returns c = paired c.args.low c.args.high (search rules) (search rules)
