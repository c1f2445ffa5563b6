-- The definition's test of four kinds, regrouped.
use Rattle.record.proofs.Laws.{peer_known}
use Rattle.record.proofs.Header.peer_ok.Goals as goal

pub returns : goal.returns
returns c = peer_known _
