-- By cases: a peer in a view is remembered, and of any other the data and the mark go.
use Rattle.step_peers.proofs.Laws.{remembered, forgotten}
use Rattle.step_peers.proofs.forget_peer.Goals as goal

pub returns-then-in_active-in_passive : goal.returns-then-in_active-in_passive
returns-then-in_active-in_passive c = search remembered

pub returns : goal.returns
returns c = search forgotten
