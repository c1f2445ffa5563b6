-- By value it is `new` over zeroes of the right length, so the refusal for another length cannot be.
use borrow.Author.Rules.{rules}
use Rattle.hyparview.proofs.Laws.{made_whole}
use Rattle.hyparview.proofs.State.new.Goals as goal

pub returns : goal.returns
returns c = made_whole _ _ _ _ _ (search rules) c.new-code.ensures
