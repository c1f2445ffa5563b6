-- The copy without the two peers is the definition's list of others; by cases it is empty, or one drawn from it is sent the nodes.
use Rattle.base_util.specs.Section.{part}
use Rattle.hyparview_state.proofs.Access.{of_packed}
use Rattle.step_refill.proofs.Asking.{some_there}
use Rattle.step_shuffling.proofs.Laws.{pair_valid, others_are, shuffle_kept, shuffle_on, passed_on}
use borrow.Author.Rules.{rules}
use Rattle.step_shuffling.proofs.pass_shuffle.Goals as goal

pub copy_into-requires-clause-valid_set : goal.copy_into-requires-clause-valid_set
unfolding part
copy_into-requires-clause-valid_set c = search (of_packed, rules)

pub without_all-requires-clause-valid_set_2 : goal.without_all-requires-clause-valid_set_2
without_all-requires-clause-valid_set_2 c = search pair_valid

pub returns-then-is_empty : goal.returns-then-is_empty
unfolding part
returns-then-is_empty c =
    let others = others_are _ _ _ _ _ c.copy_into.ensures c.without_all.ensures in
    passed_on _ _ _ _ _ _ _ _ _ _ _ others (shuffle_kept _ _ _ _ _ _ _ _ _ c.requires.given c.is_empty.ensures c.if-is_empty.true)

pub draw_one_of-t-requires-clause-n_nonzero : goal.draw_one_of-t-requires-clause-n_nonzero
draw_one_of-t-requires-clause-n_nonzero c = some_there _ _ _ c.count.ensures.0 c.is_empty.ensures c.if-is_empty.false

pub returns : goal.returns
unfolding part
returns c =
    let others = others_are _ _ _ _ _ c.copy_into.ensures c.without_all.ensures in
    passed_on _ _ _ _ _ _ _ _ _ _ _ others
    (shuffle_on _ _ _ _ _ _ _ _ _ c.requires.given c.is_empty.ensures _ _ _ _ _ c.count.ensures.0 c.draw_one_of-t.ensures.index_value.0 c.get_index-q.ensures c.next-left.ensures c.event_nodes.ensures _ _ _ c.if-is_empty.false c.send_nodes.ensures c.draw_one_of-t.ensures.draws_any)
