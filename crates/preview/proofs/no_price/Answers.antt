-- Every field but the code is 0.
use borrow.Author.Rules.{rules}
use Rattle.preview.specs.Preview.{no_price}
use Rattle.preview.proofs.no_price.Goals as goal

pub returns : goal.returns
unfolding no_price
returns c = search rules
