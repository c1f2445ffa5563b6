-- After `without`, by cases on whether the set is full: either way there is room for x and the items are those that `renew` keeps.
use Rattle.base_util.proofs.Sets.{Roomy, roomy_new, roomy_old, set_as}
use Rattle.base_util.proofs.renew.Goals as goal
use Rattle.base_util.proofs.renew.Goals.{Joined-n-most, then-n-most, else-n-most}

-- Where the ways meet there is a place for x.
roomy : (c : Joined-n-most) → Roomy c.args.cap c.args.s.now c.args.most c.args.x c.if-n-most.s
roomy c =
    elim c.if-n-most.branch [ then-n-most w ↦ roomy_old _ _ _ _ _ c.without.ensures c.requires.le_most _ _ w.s-is w.shift_remove_index.ensures w.if-n-most.true | else-n-most w ↦ roomy_new _ _ _ _ _ c.without.ensures c.requires.le_most _ w.s-is w.if-n-most.false ]

pub push-requires-clause-valid_set : goal.push-requires-clause-valid_set
push-requires-clause-valid_set c = (roomy (goal.at.push-requires-clause-valid_set c).Joined-n-most).valid

pub push-requires-clause-s_len_bound : goal.push-requires-clause-s_len_bound
push-requires-clause-s_len_bound c = (roomy (goal.at.push-requires-clause-s_len_bound c).Joined-n-most).room

pub returns : goal.returns
returns c =
    set_as _ _ _ _ c.push.ensures (roomy (goal.at.returns c).Joined-n-most).same
