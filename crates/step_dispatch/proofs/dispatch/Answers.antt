-- By cases of the kind, one law for each; what an event opens with gives each step what it asks.
use native.Mathlib.Omega.{arith}
use Rattle.hyparview_state.proofs.Bridge.{still, then, then_tell}
use Rattle.step_messages.proofs.Between.{between_calm}
use Rattle.step_dispatch.proofs.Arms.{one_node, kind_message, kind_shuffle, kind_maintenance, kind_request, kind_retry, kind_closed, kind_join, kind_data, kind_quit, kind_pin, kind_none}
use Rattle.step_dispatch.proofs.Laws.{between_less, opens_between, opens_join}
use Rattle.step_dispatch.proofs.dispatch.Goals as goal

pub handle_message-requires-clause-meets : goal.handle_message-requires-clause-meets
handle_message-requires-clause-meets c = opens_between _ _ 0 c.if-h-eq-MESSAGE.true (λ z. omega (arith, z)) c.requires.meets

pub returns-then-h-eq-MESSAGE : goal.returns-then-h-eq-MESSAGE
returns-then-h-eq-MESSAGE c =
    kind_message _ _ c.requires.headed _ _ _ _ c.if-h-eq-MESSAGE.true c.handle_message.ensures

pub returns-in-1 : goal.returns-in-1
returns-in-1 c = kind_shuffle _ _ c.requires.headed _ _ _ _ c.in-1.is c.handle_shuffle_timer.ensures

pub returns-in-2 : goal.returns-in-2
returns-in-2 c = kind_maintenance _ _ c.requires.headed _ _ _ _ c.in-2.is c.handle_maintenance_timer.ensures

pub returns-in-3 : goal.returns-in-3
returns-in-3 c = kind_request _ _ c.requires.headed _ _ _ _ c.in-3.is c.handle_pending_neighbor_timer.ensures

pub returns-in_default : goal.returns-in_default
returns-in_default c =
    kind_retry _ _ c.requires.headed _ _ _ _ c.if-h-eq-MESSAGE.false c.if-h-le-RETRY_JOIN.true (λ z. omega (arith, z)) (λ z. omega (arith, z)) (λ z. omega (arith, z))
    (then_tell c.retry_join.ensures (still c.requires.given))

pub handle_connection_closed-requires-clause-meets : goal.handle_connection_closed-requires-clause-meets
handle_connection_closed-requires-clause-meets c =
    between_calm _ _ _ _ _ _ (between_less _ _ _ _ _ (omega arith) (omega arith) (opens_between _ _ 5 c.in-5.is (λ z. omega (arith, z)) c.requires.meets))

pub returns-in-5 : goal.returns-in-5
returns-in-5 c = kind_closed _ _ c.requires.headed _ _ _ _ c.in-5.is c.handle_connection_closed.ensures

pub handle_join-requires-clause-known_joins : goal.handle_join-requires-clause-known_joins
handle_join-requires-clause-known_joins c = opens_join _ _ _ _ _ 6 c.in-6.is (λ z. omega (arith, z)) c.requires.meets

pub returns-in-6 : goal.returns-in-6
returns-in-6 c = kind_join _ _ c.requires.headed _ _ _ _ c.in-6.is (then_tell c.handle_join.ensures (still c.requires.given))

pub peer_info_at-n-requires-clause-i_bound : goal.peer_info_at-n-requires-clause-i_bound
peer_info_at-n-requires-clause-i_bound c = let e = one_node _ _ c.requires.headed c.in-7.is in omega (arith, e)

pub returns-in-7 : goal.returns-in-7
returns-in-7 c =
    kind_data _ _ c.requires.headed _ _ _ _ _ c.peer_info_at-n.ensures c.in-7.is (then c.update_own_data.ensures (still c.requires.given))

pub returns-in_default-kind : goal.returns-in_default-kind
returns-in_default-kind c =
    kind_quit _ _ c.requires.headed _ _ _ _ c.if-h-le-RETRY_JOIN.false (λ z. omega (arith, z)) (λ z. omega (arith, z)) (λ z. omega (arith, z)) c.if-h-le-QUIT.true c.handle_quit.ensures

pub returns-in_default-2 : goal.returns-in_default-2
returns-in_default-2 c = kind_pin _ _ c.requires.headed _ _ _ _ c.if-h-eq-PIN.true (then c.handle_pin.ensures (still c.requires.given))

pub returns-in_default-3 : goal.returns-in_default-3
returns-in_default-3 c = kind_none _ _ c.requires.headed _ _ _ _ c.if-h-le-QUIT.false c.if-h-eq-PIN.false (still c.requires.given)
