-- The test of acceptance asks the station before the entry, as the definition does; by its cases p stays, or is told and forgotten.
use Rattle.step_refill.proofs.Asking.{fine_after}
use Rattle.step_messages.proofs.Laws.{accept_known, neighbor_refused}
use Rattle.step_messages.proofs.Between.{pending_calm, neighbor_taken, neighbor_turned, neighbor_answered}
use Rattle.step_messages.proofs.on_neighbor.Goals as goal

pub add_active-b-requires-clause-given : goal.add_active-b-requires-clause-given
add_active-b-requires-clause-given c = fine_after _ _ _ _ _ _ c.requires.given c.drop_pending-a.ensures

pub add_active-b-requires-clause-meets : goal.add_active-b-requires-clause-meets
add_active-b-requires-clause-meets c = pending_calm _ _ _ _ _ c.drop_pending-a.ensures _ _ _ c.requires.meets

pub returns-then-accepted : goal.returns-then-accepted
returns-then-accepted c =
    let accepted = accept_known _ _ _ _ _ _ c.is_me.ensures c.in_active.ensures c.active_is_full.ensures in
    neighbor_answered _ _ _ _ _ c.drop_pending-a.ensures c.requires.given _ _ _ _ _ c.is_requested-requested.ensures
    (neighbor_taken _ _ _ _ _ _ _ _ _ _ accepted c.add_active-b.ensures c.if-accepted.true)

pub returns : goal.returns
returns c =
    let accepted = accept_known _ _ _ _ _ _ c.is_me.ensures c.in_active.ensures c.active_is_full.ensures in
    neighbor_answered _ _ _ _ _ c.drop_pending-a.ensures c.requires.given _ _ _ _ _ c.is_requested-requested.ensures
    (neighbor_turned _ _ _ _ _ _ _ _ _ _ accepted c.add_active-b.ensures _ _ c.if-accepted.false (neighbor_refused _ _ _ _ _ _ _ c.forget_peer.ensures c.send_disconnect-e.ensures))
