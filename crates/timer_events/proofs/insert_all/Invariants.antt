-- Putting the timers that are left into the queue so far ends as the whole does.
use Rattle.timer_map.specs.Words.{entries_of}
use Rattle.timer_map.specs.Calls.{packed_put}
use Rattle.timer_events.specs.Records.{insert_all, timers_in}
use Rattle.timer_events.proofs.Inserting.{Inserting}
use Rattle.timer_events.proofs.insert_all.Given as goal

abbrev pub invariant-loop-h : goal.invariant-loop-h
invariant-loop-h l = record {
  can : (goal.iterator-loop-h).can_next l.h-iterator;
  finite : (goal.iterator-loop-h).is_finite l.h-iterator;
  inserting : Inserting l.time (packed_put (insert_all l.time (timers_in l.out) (entries_of l.initial.q))) l.q l.h-iterator.rest.now;
}
