-- By the contracts of `pick_index` and `reach`: the draws up to the one that decided are taken, by `drew_one_of`.
use Rattle.work.proofs.Any.{drew_one_of}
use Rattle.work.proofs.draw_one_of.Goals as goal

pub returns-clause-draws_any : goal.returns-clause-draws_any
returns-clause-draws_any c = search drew_one_of
