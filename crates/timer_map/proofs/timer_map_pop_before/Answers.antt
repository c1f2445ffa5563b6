-- By cases on the test: a queue that passes is sound, so `pop_ok` answers; any other is broken and stays as it was.
use borrow.Author.Rules.{rules}
use Rattle.timer_map.proofs.Ways.{sound_asked, pop_asked, pop_broken}
use Rattle.timer_map.proofs.timer_map_pop_before.Goals as goal

pub pop_ok-requires : goal.pop_ok-requires
pop_ok-requires c = search (sound_asked, rules)

pub returns-then-queue_ok : goal.returns-then-queue_ok
returns-then-queue_ok c = search pop_asked

pub returns : goal.returns
returns c = search pop_broken
