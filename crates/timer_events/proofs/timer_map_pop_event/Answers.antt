-- By cases on the test: a queue that passes is sound, so `pop_event_ok` answers; for any other there is no event.
use borrow.Author.Rules.{rules}
use Rattle.timer_map.proofs.Ways.{sound_asked}
use Rattle.timer_events.proofs.Taking.{event_asked, event_broken}
use Rattle.timer_events.proofs.timer_map_pop_event.Goals as goal

pub pop_event_ok-requires : goal.pop_event_ok-requires
pop_event_ok-requires c = search (sound_asked, rules)

pub returns-then-queue_ok : goal.returns-then-queue_ok
returns-then-queue_ok c = search event_asked

pub returns : goal.returns
returns c = search event_broken
