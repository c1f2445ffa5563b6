-- First the words of b before the place have their marks, then none of a's words before the place is in b.
use Rattle.base_scan.proofs.Hints.{noting_start, noting_next, noting_end, passing_start, pass_unmarked, pass_looked, stop, pass_end}
use borrow.Author.Rules.{rules}
use Rattle.base_scan.proofs.disjoint.Goals as goal
use Rattle.base_scan.proofs.disjoint.Goals.{else-seen-x-via-then-seen-x+else-is_in, else-seen-x-via-else-seen-x}

pub loop-y-init : goal.loop-y-init
loop-y-init c = search (noting_start, rules)

pub loop-y-preserved : goal.loop-y-preserved
loop-y-preserved c = search noting_next

pub loop-x-init : goal.loop-x-init
loop-x-init c = search (passing_start, noting_end, rules)

pub returns-then-is_in : goal.returns-then-is_in
returns-then-is_in c = search stop

pub loop-x-preserved : goal.loop-x-preserved
loop-x-preserved c =
    elim c.else-seen-x.branch [ else-seen-x-via-then-seen-x+else-is_in w ↦ search pass_looked | else-seen-x-via-else-seen-x w ↦ search pass_unmarked ]

pub returns : goal.returns
returns c = search pass_end
