-- The two counts of the settings sum to no more peers than a record names; the ShuffleReply is told first, the Disconnect after it.
use native.Mathlib.Omega.{arith}
use Rattle.step_sending.proofs.Told.{few_named, disconnected}
use Rattle.step_sending.proofs.send_disconnect.Goals as goal

pub overflow_add-len : goal.overflow_add-len
overflow_add-len c = record { fits = omega (arith, few_named _ c.requires.given.ready.packed) }

pub send_shuffle_reply-a-requires-clause-len_le_most_nodes : goal.send_shuffle_reply-a-requires-clause-len_le_most_nodes
send_shuffle_reply-a-requires-clause-len_le_most_nodes c = few_named _ c.requires.given.ready.packed

pub returns : goal.returns
returns c = search disconnected
