-- By cases on the test: a queue that passes is sound, so `first_ok` answers; any other is broken.
use borrow.Author.Rules.{rules}
use Rattle.timer_map.proofs.Ways.{sound_asked, first_asked, first_broken}
use Rattle.timer_map.proofs.timer_map_first.Goals as goal

pub first_ok-requires : goal.first_ok-requires
first_ok-requires c = search (sound_asked, rules)

pub returns-then-queue_ok : goal.returns-then-queue_ok
returns-then-queue_ok c = search first_asked

pub returns : goal.returns
returns c = search first_broken
