-- By cases of the message, one law for each; what is no shuffle, reply or Disconnect has one node, which is read once.
use mathlib.Core.Path.{refl}
use native.Mathlib.Omega.{arith}
use Rattle.step_dispatch.proofs.Laws.{between_less}
use Rattle.step_dispatch.proofs.Arms.{Single, single, single_some, arm_shuffle, arm_reply, arm_disconnect, arm_join, arm_forward, arm_neighbor}
use Rattle.step_dispatch.proofs.handle_message.Goals as goal
use Rattle.step_dispatch.proofs.handle_message.Goals.{In_default}

-- what is no Shuffle, ShuffleReply or Disconnect has one node
single_at : (c : In_default) → Single c.args.b.now c.args.h
single_at c = single _ _ c.requires.headed c.requires.message (λ z. omega (arith, z)) (λ z. omega (arith, z)) (λ z. omega (arith, z))

pub on_disconnect-requires-clause-meets : goal.on_disconnect-requires-clause-meets
on_disconnect-requires-clause-meets c = between_less _ _ _ _ _ (omega arith) (omega arith) c.requires.meets

pub peer_info_at-x-requires-clause-i_bound : goal.peer_info_at-x-requires-clause-i_bound
peer_info_at-x-requires-clause-i_bound c = single_some _ _ (single_at c)

pub returns-in-2 : goal.returns-in-2
returns-in-2 c = arm_shuffle _ _ c.requires.headed _ _ _ _ _ refl c.in-2.is c.on_shuffle.ensures

pub returns-in-3 : goal.returns-in-3
returns-in-3 c = arm_reply _ _ c.requires.headed _ _ _ _ _ refl c.in-3.is c.on_shuffle_reply.ensures

pub returns-in-5 : goal.returns-in-5
returns-in-5 c = arm_disconnect _ _ c.requires.headed _ _ _ _ _ refl c.in-5.is c.on_disconnect.ensures

pub returns-in-0 : goal.returns-in-0
returns-in-0 c = arm_join _ _ (single_at (goal.at.returns-in-0 c).In_default) _ _ _ _ _ c.peer_info_at-x.ensures c.in-0.is c.on_join.ensures

pub returns-in-1 : goal.returns-in-1
returns-in-1 c = arm_forward _ _ (single_at (goal.at.returns-in-1 c).In_default) _ _ _ _ _ c.peer_info_at-x.ensures c.in-1.is c.on_forward_join.ensures

pub returns-in_default-message : goal.returns-in_default-message
returns-in_default-message c =
    arm_neighbor _ _ (single_at (goal.at.returns-in_default-message c).In_default) _ _ _ _ _ c.peer_info_at-x.ensures (λ z. omega (arith, z)) (λ z. omega (arith, z)) _ refl c.on_neighbor.ensures
