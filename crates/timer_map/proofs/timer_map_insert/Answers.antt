-- By cases on the test: a queue that passes is sound, so `insert_ok` answers; any other is broken and stays as it was.
use borrow.Author.Rules.{rules}
use Rattle.timer_map.proofs.Ways.{sound_asked, insert_asked, insert_broken}
use Rattle.timer_map.proofs.timer_map_insert.Goals as goal

pub insert_ok-requires : goal.insert_ok-requires
insert_ok-requires c = search (sound_asked, rules)

pub returns-then-queue_ok : goal.returns-then-queue_ok
returns-then-queue_ok c = search insert_asked

pub returns : goal.returns
returns c = search insert_broken
