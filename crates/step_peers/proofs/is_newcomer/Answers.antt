-- The three tests are those of the definition, by the contracts of the two that are called.
use Rattle.step_peers.proofs.Laws.{newcomer}
use Rattle.step_peers.proofs.is_newcomer.Goals as goal

pub returns : goal.returns
returns c = search newcomer
