-- Each turn adds the histories of length n, for which there is room.
use borrow.Author.Rules.{rules}
use Rattle.endings.proofs.Counts.{ends_are, counting_start, counting_room, counting_next}
use Rattle.endings.proofs.States.{counted_all}
use Rattle.endings.proofs.count_ends.Goals as goal

pub loop-n-init : goal.loop-n-init
loop-n-init c = counting_start _ _ c.first_station-first.ensures (search ends_are)

pub extend-sum-requires : goal.extend-sum-requires
extend-sum-requires c = search (counting_room, rules)

pub loop-n-preserved : goal.loop-n-preserved
loop-n-preserved c = search (counting_next, rules)

pub returns : goal.returns
returns c = search (counted_all, rules)
