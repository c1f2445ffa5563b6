-- By cases: the walk ends here, its joiner was asked already, or it goes on to one of the others, or to 0 where there is none.
use Rattle.step_messages.proofs.Laws.{end_known, joiner_asked, walk_ended, walk_stopped, walk_goes_on, walked_on, join_on_none, join_on_one}
use borrow.Author.Rules.{rules}
use Rattle.step_messages.proofs.on_forward_join.Goals as goal

pub returns-then-in_active-expired : goal.returns-then-in_active-expired
returns-then-in_active-expired c = search (walk_ended, joiner_asked, end_known)

pub returns-then-is_requested : goal.returns-then-is_requested
returns-then-is_requested c = search (walk_goes_on, walk_stopped, end_known)

pub returns-then-k-eq0 : goal.returns-then-k-eq0
returns-then-k-eq0 c =
    let ended = end_known _ _ _ _ _ _ c.in_active.ensures c.expired.ensures c.is_last_hop.ensures in
    let walked =
    walked_on _ _ _ _ _ _ _ _ c.is_requested.ensures _ c.other_active.ensures _ _ c.if-is_requested.false
    (join_on_none _ _ _ _ _ _ _ _ _ c.learn_joiner-learned.ensures.fine c.count-k.ensures.0 c.next-left.ensures _ _ c.if-k-eq0.true c.forward_join_to.ensures)
    in
    walk_goes_on _ _ _ _ _ _ _ _ _ ended _ _ c.if-in_active-expired.false walked c.learn_joiner-learned.ensures

pub shape_of-out : goal.shape_of-out
shape_of-out c =
    search (rules, c.learn_joiner-learned.auto)

pub returns : goal.returns
returns c =
    let ended = end_known _ _ _ _ _ _ c.in_active.ensures c.expired.ensures c.is_last_hop.ensures in
    let walked =
    walked_on _ _ _ _ _ _ _ _ c.is_requested.ensures _ c.other_active.ensures _ _ c.if-is_requested.false
    (join_on_one _ _ _ _ _ _ _ _ _ c.learn_joiner-learned.ensures.fine c.count-k.ensures.0 c.next-left.ensures _ _ _ _ _ c.draw_one_of-chosen.ensures.index_value.0 c.get_index-q.ensures c.forward_join_to-2.ensures c.draw_one_of-chosen.ensures.draws_any)
    in
    walk_goes_on _ _ _ _ _ _ _ _ _ ended _ _ c.if-in_active-expired.false walked c.learn_joiner-learned.ensures
