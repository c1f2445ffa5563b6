-- With no length left the one history is counted; else each call within has the room that its histories need, and the last of them ends the fold.
use borrow.Author.Rules.{rules}
use Rattle.endings.proofs.Counts.{extending_start, extending_room, extending_next, extending_end, spent_room, spent, deeper}
use Rattle.endings.proofs.+extend.Goals as goal

pub count_end-requires : goal.count_end-requires
count_end-requires t c = spent_room _ _ c.if-left-eq0.true c.requires

pub returns-then-left-eq0 : goal.returns-then-left-eq0
returns-then-left-eq0 t c = spent _ _ _ _ _ c.if-left-eq0.true c.count_end.ensures

pub loop-i-init : goal.loop-i-init
loop-i-init t c = extending_start _ _ _ _ c.if-left-eq0.false c.requires

pub extend-sum-requires : goal.extend-sum-requires
extend-sum-requires t c = (search deeper, search (extending_room, rules))

pub loop-i-preserved : goal.loop-i-preserved
loop-i-preserved t c = search (extending_next, rules)

pub returns : goal.returns
returns t c = search (extending_end, rules)
