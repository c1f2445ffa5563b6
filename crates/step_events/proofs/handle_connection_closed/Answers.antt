-- By cases: a neighbor is lost; any other peer loses its mark or its passive place, and where it was asked a refill follows.
use Rattle.step_refill.proofs.Asking.{fine_after}
use Rattle.step_events.proofs.Leaving.{closed_calm, neighbor_lost, asked_again, not_asked}
use Rattle.step_events.proofs.handle_connection_closed.Goals as goal

pub remove_active-requires-clause-given : goal.remove_active-requires-clause-given
remove_active-requires-clause-given c = fine_after _ _ _ _ _ _ c.requires.given c.drop_request-a.ensures

pub remove_active-requires-clause-meets : goal.remove_active-requires-clause-meets
remove_active-requires-clause-meets c = closed_calm _ _ _ _ _ c.drop_request-a.ensures _ _ _ c.requires.meets

pub returns-then-in_active : goal.returns-then-in_active
returns-then-in_active c =
    neighbor_lost _ _ _ _ _ _ _ c.requires.given c.is_requested-requested.ensures c.drop_request-a.ensures c.in_active.ensures _ _ c.if-in_active.true c.remove_active.ensures

pub returns-then-requested : goal.returns-then-requested
returns-then-requested c =
    asked_again _ _ _ _ _ _ _ c.requires.given c.is_requested-requested.ensures c.drop_request-a.ensures c.in_active.ensures _ _ _ c.if-in_active.false c.if-requested.true c.lose_passive-b.ensures c.refill_active_from_passive.ensures

pub returns : goal.returns
returns c =
    not_asked _ _ _ _ _ _ _ c.requires.given c.is_requested-requested.ensures c.drop_request-a.ensures c.in_active.ensures _ c.if-in_active.false c.if-requested.false c.lose_passive-b.ensures
