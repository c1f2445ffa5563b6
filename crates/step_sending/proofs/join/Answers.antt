-- Own data of packed words is valid, so the record that `send_node` emits is the definition's Join.
use Rattle.step_sending.proofs.Told.{join_told}
use Rattle.step_sending.proofs.join.Goals as goal

pub returns : goal.returns
returns c = search join_told
