-- Document 02, S-1: all timer records of an output, put into the queue at once.
-- Assumes nothing.
use Rattle.std.specs.Prelude.{Option, Some, None, ℕ, length, take, ltb, eqb}
use mathlib.Core.List.{List, [], ◌∷◌, flat_map}
use Rattle.base_lists.specs.Lists.{choose}
use Rattle.record.specs.Read.{header_of, is_timer}
use Rattle.record.specs.Walk.{whole_length, records_in}
use Rattle.record.specs.Answers.{answer}
use Rattle.record.specs.declared.Header.{Header}
use Rattle.timer_map.specs.Entries.{Put, insert_timer}
use Rattle.timer_map.specs.Words.{entries_of, queue_ok}
use Rattle.timer_map.specs.Calls.{PutWords, packed_put}
use Rattle.timer_map.specs.declared.TimerMapEntry.{TimerMapEntry}
use Rattle.timer_events.specs.declared.ScheduleTimer.{ScheduleTimer}

-- no timer: `insert_timer` refuses it as malformed, 3
abbrev pub no_start : ScheduleTimer
no_start = record { delay = 0; item = record { kind = 0; peer = 0; number = 0; id = record { 0 = 0; 1 = 0; 2 = 0; 3 = 0 } } }

-- the timer that a record with this header starts, with the delay that stands in `second`
abbrev pub started : Header → ScheduleTimer
started h = record { delay = h.second; item = record { kind = h.kind; peer = h.peer; number = h.number; id = record { 0 = 0; 1 = 0; 2 = 0; 3 = 0 } } }

-- of what the reader answers
unfoldable pub started_by : Option Header → ScheduleTimer
started_by (Some h) = started h
started_by None = no_start

-- the timer that the first n bytes start; what is no record starts no timer
unfoldable pub schedule_of : ℕ → List ℕ → ScheduleTimer
schedule_of n b = choose (ltb (length b) n) no_start (started_by (answer (take n b)))

-- the first record's timer: kinds 1 to 4 are timers
unfoldable pub timer_of : List ℕ → List ScheduleTimer
timer_of b = choose (is_timer (header_of b)) (schedule_of (whole_length b) b ∷ []) []

-- the timers of an output's records, in order
unfoldable pub timers_in : List ℕ → List ScheduleTimer
timers_in out = flat_map timer_of (records_in out)

-- one after the other, up to the first refusal
unfoldable pub insert_all : ℕ → List ScheduleTimer → List TimerMapEntry → Put
insert_all time [] es = record { code = 0; entries = es }
insert_all time (x ∷ xs) es =
    choose (eqb (insert_timer time x.delay x.item es).code 0)
    (insert_all time xs (insert_timer time x.delay x.item es).entries)
    (insert_timer time x.delay x.item es)

-- all or none
unfoldable pub all_or_none : List TimerMapEntry → Put → Put
all_or_none es p = choose (eqb p.code 0) p (record { code = p.code; entries = es })

unfoldable pub insert_records : ℕ → List ℕ → List TimerMapEntry → Put
insert_records time out es = all_or_none es (insert_all time (timers_in out) es)

-- of any words
unfoldable pub records_inserted : ℕ → List ℕ → List ℕ → PutWords
records_inserted time out ws = choose (queue_ok ws) (packed_put (insert_records time out (entries_of ws))) (record { code = 2; words = ws })
