-- Document 02, S-1: what `timer_map_insert_records` makes of the outputs of `hyparview_handle`.
-- Assumes nothing.
use Rattle.timer_events.specs.Claims.{TimersTakenOf}
use Rattle.spec_demand_calls.specs.Memory.{c_calls}

-- the timers of an accepted output are never answered 3, whatever the words and the tally are
abbrev pub TimersTaken : Type 0
TimersTaken = TimersTakenOf c_calls
