-- By the contracts of `shuffle` and `reach`: the draws that the shuffle used are taken, by `drew_shuffle`.
use Rattle.work.proofs.Any.{drew_shuffle}
use Rattle.work.proofs.shuffle_by_draws.Goals as goal

pub returns-clause-draws_any : goal.returns-clause-draws_any
returns-clause-draws_any c = search drew_shuffle
