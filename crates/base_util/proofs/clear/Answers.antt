-- By the contract of `clear_from` from place 0: every word is zero, the count too, which is the set of no items.
use Rattle.base_util.proofs.Sets.{cleared}
use Rattle.base_util.proofs.clear.Goals as goal

pub returns : goal.returns
returns c = search cleared
