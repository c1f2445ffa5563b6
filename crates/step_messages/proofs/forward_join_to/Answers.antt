-- The record that `send_node` emits is the definition's ForwardJoin.
use Rattle.step_messages.proofs.Laws.{join_forwarded}
use Rattle.step_messages.proofs.forward_join_to.Goals as goal

pub returns : goal.returns
returns c = search join_forwarded
