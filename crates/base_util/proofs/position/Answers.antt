-- The first words, as many as the count says, are the set's items, and `find` says the place among them.
use Rattle.base_util.proofs.Sets.{lent_fits, there}
use borrow.Author.Rules.{rules}
use Rattle.base_util.proofs.position.Goals as goal

pub find-requires : goal.find-requires
find-requires c = search lent_fits

pub returns : goal.returns
returns c = (search there, search rules)
