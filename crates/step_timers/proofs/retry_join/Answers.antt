-- By cases of the number: the open join is dropped and one more Join told, and any other timer does nothing.
use Rattle.base_util.specs.Section.{part}
use Rattle.hyparview_state.proofs.Access.{of_packed}
use Rattle.step_timers.proofs.Asked.{join_said, room_changed, retried, not_retried}
use borrow.Author.Rules.{rules}
use Rattle.step_timers.proofs.retry_join.Goals as goal

pub get_number-m-requires : goal.get_number-m-requires
unfolding part
get_number-m-requires c = search (of_packed, rules)

pub join-requires : goal.join-requires
join-requires c = record { given_room = room_changed _ _ _ _ _ c.requires.given_room c.drop_join-a.ensures }

pub returns-then-eq : goal.returns-then-eq
unfolding part
returns-then-eq c =
    retried _ _ _ _ _ _ c.requires.given_room (join_said _ _ _ _ _ c.eq.ensures c.get_number-m.ensures) _ _ _ _ c.if-eq.true c.join.ensures c.drop_join-a.ensures

pub returns : goal.returns
unfolding part
returns c = not_retried _ _ _ _ _ _ c.requires.given_room (join_said _ _ _ _ _ c.eq.ensures c.get_number-m.ensures) c.if-eq.false
