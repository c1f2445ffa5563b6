-- The items from place i on are distinct and marked: an item without a mark is new, one with it is looked for.
use Rattle.base_util.proofs.Sets.{lent_fits, lent_distinct}
use Rattle.base_util.proofs.Marked.{mark_start, mark_new, mark_twice, mark_once, mark_end}
use borrow.Author.Rules.{rules}
use Rattle.base_util.proofs.is_distinct.Goals as goal
use Rattle.base_util.proofs.is_distinct.Goals.{else-seen-k-via-then-seen-k+else-is_in, else-seen-k-via-else-seen-k}

pub loop-i-init : goal.loop-i-init
loop-i-init c = search (mark_start, lent_fits, rules)

pub returns-then-is_in : goal.returns-then-is_in
returns-then-is_in c = search (lent_distinct, mark_twice)

pub loop-i-preserved : goal.loop-i-preserved
loop-i-preserved c =
    elim c.else-seen-k.branch [ else-seen-k-via-then-seen-k+else-is_in w ↦ search mark_once | else-seen-k-via-else-seen-k w ↦ search mark_new ]

pub returns : goal.returns
returns c = search (lent_distinct, mark_end)
