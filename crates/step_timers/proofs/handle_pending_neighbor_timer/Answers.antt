-- By cases of the number: the timer of the open request drops its peer and refills, and any other does nothing.
use Rattle.base_util.specs.Section.{part}
use Rattle.hyparview_state.proofs.Access.{of_packed}
use Rattle.step_timers.proofs.Asked.{request_said, dropped_fine, failed, late, not_late}
use borrow.Author.Rules.{rules}
use Rattle.step_timers.proofs.handle_pending_neighbor_timer.Goals as goal

pub get_number-m-requires : goal.get_number-m-requires
unfolding part
get_number-m-requires c = search (of_packed, rules)

pub refill_active_from_passive-requires : goal.refill_active_from_passive-requires
refill_active_from_passive-requires c = record { given = dropped_fine _ _ _ _ _ _ _ _ _ c.requires.given c.drop_passive-b.ensures c.drop_request-a.ensures }

pub returns-then-eq : goal.returns-then-eq
unfolding part
returns-then-eq c =
    late _ _ _ _ _ _ _ (request_said _ _ _ _ _ c.eq.ensures c.get_number-m.ensures) _ _ _ c.if-eq.true
    (failed _ _ _ _ _ _ _ _ _ c.requires.given c.drop_passive-b.ensures c.drop_request-a.ensures _ _ _ c.refill_active_from_passive.ensures)

pub returns : goal.returns
unfolding part
returns c = not_late _ _ _ _ _ _ _ (request_said _ _ _ _ _ c.eq.ensures c.get_number-m.ensures) c.requires.given c.if-eq.false
