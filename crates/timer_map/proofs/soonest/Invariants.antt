-- Seeking on from the best so far through the rows still to come finds the soonest.
use Rattle.timer_map.specs.Entries.{soonest}
use Rattle.timer_map.specs.Words.{queue_entries_at}
use Rattle.timer_map.proofs.Order.{Seeking}
use Rattle.timer_map.proofs.soonest.Given as goal

abbrev pub invariant-loop-i : goal.invariant-loop-i
invariant-loop-i l = Seeking l.q l.n (soonest (queue_entries_at l.q 1 l.n)) l.best l.i
