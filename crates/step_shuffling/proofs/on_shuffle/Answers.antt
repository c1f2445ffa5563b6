-- By cases of the walk: it ends here, so that the nodes are learned and as many sent back, or the Shuffle is passed on.
use Rattle.step_shuffling.proofs.Nodes.{few_nodes}
use Rattle.step_shuffling.proofs.Laws.{answers_known, answered, shuffle_answered, shuffle_forwarded}
use Rattle.step_shuffling.proofs.on_shuffle.Goals as goal

pub send_shuffle_reply-requires-clause-len_le_most_nodes : goal.send_shuffle_reply-requires-clause-len_le_most_nodes
send_shuffle_reply-requires-clause-len_le_most_nodes c = few_nodes _ _ c.requires.b_value c.requires.n_value

pub returns-then-expired-is_last_hop : goal.returns-then-expired-is_last_hop
returns-then-expired-is_last_hop c =
    shuffle_answered _ _ _ _ _ _ _ _ _ _ _ _ (answers_known _ _ _ _ c.expired.ensures c.is_last_hop.ensures) c.if-expired-is_last_hop.true
    (answered _ _ _ _ _ _ _ _ _ _ _ _ _ c.send_shuffle_reply.ensures c.add_nodes-t.ensures.makes)

pub returns : goal.returns
returns c =
    shuffle_forwarded _ _ _ _ _ _ _ _ _ _ _ _ (answers_known _ _ _ _ c.expired.ensures c.is_last_hop.ensures) c.if-expired-is_last_hop.false c.pass_shuffle.ensures
