-- Document 02, S-1: "From empty on, the queue is proved to hold what was put in and not yet taken out, and never to be answered 2."
-- Assumes nothing.
use Rattle.std.specs.Prelude.{ℕ, ◌+◌, ◌≤◌, ◌<◌, ◌≡◌, List, [], ◌∷◌, ◌++◌, length, get_or, eqb}
use Rattle.std.proofs.Math.Option.{Option, none, some}
use Rattle.base_lists.specs.Lists.{choose, index_of, shift_remove}
use Rattle.timer_map.specs.Entries.{due_times, no_queue_entry}
use Rattle.timer_map.specs.Calls.{inserted, taken_out, first_in, count_in}
use Rattle.timer_map.specs.declared.Timer.{Timer}
use Rattle.timer_map.specs.declared.TimerMapEntry.{TimerMapEntry}
use Rattle.timer_map.specs.declared.Popped.{Popped}
use Rattle.timer_map.specs.declared.First.{First}
use Rattle.timer_map.specs.declared.Len.{Len}
use Rattle.timer_events.specs.declared.ScheduleTimer.{ScheduleTimer}
use Rattle.timer_events.specs.declared.PoppedEvent.{PoppedEvent}
use Rattle.timer_events.specs.Records.{timers_in, records_inserted}
use Rattle.timer_events.specs.Events.{event_taken}

-- the calls of a queue
pub data QueueCall : Type 0 where
  insert : (time delay : ℕ) → Timer → QueueCall
  insert_records : (time : ℕ) → (output : List ℕ) → QueueCall
  pop_before : (limit : ℕ) → QueueCall
  pop_event : (limit : ℕ) → (lent : List ℕ) → QueueCall
  first : QueueCall
  count : QueueCall

-- what a call hands back; `pop_event` leaves bytes too
pub data Reply : Type 0 where
  code : ℕ → Reply
  popped : Popped → Reply
  event : PoppedEvent → List ℕ → Reply
  next : First → Reply
  held : Len → Reply

pub record QueueOutcome : Type 0 where
  pub reply : Reply
  pub words : List ℕ

-- What a call hands back and leaves: the definitions that the contracts of timer_map_insert, timer_map_insert_records, timer_map_pop_before,
-- timer_map_pop_event, timer_map_first and timer_map_len are equations with; the check ties the claim to the six, and to timer_map_new, by proofs/Tied.
unfoldable pub queue_answered : QueueCall → List ℕ → QueueOutcome
queue_answered (insert time delay x) ws = record { reply = code (inserted time delay x ws).code; words = (inserted time delay x ws).words }
queue_answered (insert_records time out) ws = record { reply = code (records_inserted time out ws).code; words = (records_inserted time out ws).words }
queue_answered (pop_before limit) ws = record { reply = popped (taken_out limit ws).answer; words = (taken_out limit ws).words }
queue_answered (pop_event limit out) ws = record { reply = event (event_taken limit ws out).answer (event_taken limit ws out).output; words = (event_taken limit ws out).words }
queue_answered first ws = record { reply = next (first_in ws); words = ws }
queue_answered count ws = record { reply = held (count_in ws); words = ws }

-- ---- the book: what was put in and not yet taken out, in order, from the calls and their replies alone

unfoldable pub reply_code : Reply → ℕ
reply_code (code c) = c
reply_code (popped a) = a.code
reply_code (event a out) = a.code
reply_code (next a) = a.code
reply_code (held a) = a.code

-- the entries that started timers become at this time
unfoldable pub entries_from : ℕ → List ScheduleTimer → List TimerMapEntry
entries_from time [] = []
entries_from time (x ∷ xs) = record { time = time + x.delay; item = x.item } ∷ entries_from time xs

-- what a call asks to put in
unfoldable pub asked : QueueCall → List TimerMapEntry
asked (insert time delay x) = record { time = time + delay; item = x } ∷ []
asked (insert_records time out) = entries_from time (timers_in out)
asked (pop_before limit) = []
asked (pop_event limit out) = []
asked first = []
asked count = []

-- the due time of what a reply hands out
unfoldable pub time_out : Reply → Option ℕ
time_out (code c) = none
time_out (popped a) = choose a.found (some a.entry.time) none
time_out (event a out) = choose a.found (some a.time) none
time_out (next a) = none
time_out (held a) = none

-- the first of that due time goes
unfoldable pub cut_at : Option ℕ → List TimerMapEntry → List TimerMapEntry
cut_at none es = es
cut_at (some t) es = shift_remove (index_of t (due_times es)) es

-- a refusal changes nothing
unfoldable pub booked : QueueCall → Reply → List TimerMapEntry → List TimerMapEntry
booked v r es = choose (eqb (reply_code r) 0) (cut_at (time_out r) (es ++ asked v)) es

-- ---- lists of calls

unfoldable pub queue_after : List QueueCall → List ℕ → List ℕ
queue_after [] ws = ws
queue_after (v ∷ vs) ws = queue_after vs (queue_answered v ws).words

unfoldable pub reply_codes : List QueueCall → List ℕ → List ℕ
reply_codes [] ws = []
reply_codes (v ∷ vs) ws = reply_code (queue_answered v ws).reply ∷ reply_codes vs (queue_answered v ws).words

unfoldable pub book_after : List QueueCall → List ℕ → List TimerMapEntry → List TimerMapEntry
book_after [] ws es = es
book_after (v ∷ vs) ws es = book_after vs (queue_answered v ws).words (booked v (queue_answered v ws).reply es)

-- e is due at the limit, is held, is the earliest, and is the oldest of its time
pub record Right (limit : ℕ) (es : List TimerMapEntry) (e : TimerMapEntry) : Type 0 where
  pub due : e.time ≤ limit
  pub there : index_of e.time (due_times es) < length es
  pub is : get_or es (index_of e.time (due_times es)) no_queue_entry ≡ e
  pub earliest : (k : ℕ) → k < length es → e.time ≤ (get_or es k no_queue_entry).time
  pub oldest : (k : ℕ) → k < index_of e.time (due_times es) → e.time < (get_or es k no_queue_entry).time
