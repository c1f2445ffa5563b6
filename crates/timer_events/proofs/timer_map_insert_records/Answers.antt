-- By cases on the test: a queue that passes is sound, so `records_ok` answers; any other is broken and stays as it was.
use borrow.Author.Rules.{rules}
use Rattle.timer_map.proofs.Ways.{sound_asked}
use Rattle.timer_events.proofs.Inserting.{records_asked, records_broken}
use Rattle.timer_events.proofs.timer_map_insert_records.Goals as goal

pub records_ok-requires : goal.records_ok-requires
records_ok-requires c = search (sound_asked, rules)

pub returns-then-queue_ok : goal.returns-then-queue_ok
returns-then-queue_ok c = search records_asked

pub returns : goal.returns
returns c = search records_broken
