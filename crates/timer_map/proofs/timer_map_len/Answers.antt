-- By cases on the test: a queue that passes is long enough to have a count; any other is broken.
use borrow.Author.Rules.{rules}
use Rattle.timer_map.proofs.Ways.{lent, len_asked, len_broken}
use Rattle.timer_map.proofs.timer_map_len.Goals as goal

pub bounds-q-0 : goal.bounds-q-0
bounds-q-0 c = search (lent, rules)

pub returns-then-queue_ok : goal.returns-then-queue_ok
returns-then-queue_ok c = search len_asked

pub returns : goal.returns
returns c = search len_broken
