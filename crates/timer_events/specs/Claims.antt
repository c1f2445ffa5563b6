-- What is claimed of the queue over every list of calls, and of the events that come out of it.
-- Assumes nothing.
use Rattle.std.specs.Prelude.{ℕ, ◌^◌, ◌<◌, ◌≡◌, true, false, List, [], length, get_or, take, replicate}
use Rattle.base_lists.specs.Lists.{mem}
use Rattle.record.specs.Format.{header_length, Rec}
use Rattle.record.specs.Read as R
use Rattle.record.specs.Read.{header_of, is_timer, well_formed, rec_of, read_event}
use Rattle.spec_hyparview.specs.Station.{peers_end, draws_end}
use Rattle.spec_hyparview.specs.Rules.{all_under}
use Rattle.spec_history.specs.Calls.{Call, Machine, code_of, output_of}
use Rattle.record_writer.specs.Write.{written}
use Rattle.timer_map.specs.Entries.{timer_ok, no_queue_entry}
use Rattle.timer_map.specs.Words.{pack_queue}
use Rattle.timer_map.specs.Calls.{renewed}
use Rattle.timer_map.specs.declared.TimerMapEntry.{TimerMapEntry}
use Rattle.timer_events.specs.History.{QueueCall, insert_records, pop_before, pop_event, popped, event, queue_answered, queue_after, reply_code, reply_codes, book_after, Right}
use Rattle.timer_map.specs.declared.Popped.{Popped}
use Rattle.timer_events.specs.declared.PoppedEvent.{PoppedEvent}
use Rattle.timer_events.specs.Records.{schedule_of}
use Rattle.timer_events.specs.Events.{event_rec}

-- what was taken out as an event: the entry, its due time, and its event's bytes
pub record EventRight (limit : ℕ) (es : List TimerMapEntry) (out : List ℕ) (a : PoppedEvent) (bytes : List ℕ) : Type 0 where
  pub entry : TimerMapEntry
  pub right : Right limit es entry
  pub time : a.time ≡ entry.time
  pub ok : timer_ok entry.item ≡ true
  pub bytes_are : bytes ≡ written (event_rec entry) 0 out
  -- which `handle` reads as that event; a peer and a number have 64 bits by their type
  pub reads : entry.item.peer < peers_end → entry.item.number < 2 ^ 64 → read_event (take header_length bytes) ≡ R.event (event_rec entry)

-- the next call of a queue at the words ws, which holds the entries es
pub record TakesOut (ws : List ℕ) (es : List TimerMapEntry) : Type 0 where
  -- what is taken out is due, is the earliest, and is the oldest of its time
  pub popped_right : (limit : ℕ) (a : Popped) → (queue_answered (pop_before limit) ws).reply ≡ popped a → a.found ≡ true → Right limit es a.entry
  -- where nothing is, none is due
  pub none_due : (limit : ℕ) (a : Popped) → (queue_answered (pop_before limit) ws).reply ≡ popped a → a.found ≡ false → (k : ℕ) → k < length es → limit < (get_or es k no_queue_entry).time
  -- as an event
  pub event_right : (limit : ℕ) (out : List ℕ) (a : PoppedEvent) (bytes : List ℕ) → (queue_answered (pop_event limit out) ws).reply ≡ event a bytes → a.found ≡ true → EventRight limit es out a bytes
  -- and where none is handed out, none is left in the lent bytes
  pub none_left : (limit : ℕ) (out : List ℕ) (a : PoppedEvent) (bytes : List ℕ) → (queue_answered (pop_event limit out) ws).reply ≡ event a bytes → a.found ≡ false → bytes ≡ replicate (length out) 0

-- the queue after the calls vs, from the words ws that `new` left
pub record Holds (ws : List ℕ) (vs : List QueueCall) : Type 0 where
  -- every word: what was put in and not yet taken out, in order
  pub holds : queue_after vs ws ≡ pack_queue (book_after vs ws [])
  -- "and never to be answered 2"
  pub none_is_two : mem 2 (reply_codes vs ws) ≡ false
  pub takes : TakesOut (queue_after vs ws) (book_after vs ws [])

-- "From empty on": any words of the right number, renewed by timer_map_new
abbrev pub QueueHolds : Type 0
QueueHolds = (ws : List ℕ) → (renewed ws).code ≡ 0 → (vs : List QueueCall) → Holds (renewed ws).words vs

-- the record without its delay
unfoldable pub without_delay : Rec → Rec
without_delay r = record {
  kind = r.kind;
  message = r.message;
  flags = r.flags;
  peer = r.peer;
  second = 0;
  ttl = r.ttl;
  number = r.number;
  nodes = r.nodes;
}

-- b is a timer's record, and e an entry of the timer that it starts: the event of e, which comes out (`EventRight`), is that record without its delay
pub record ComesBack (b : List ℕ) (e : TimerMapEntry) : Type 0 where
  pub ok : timer_ok e.item ≡ true
  pub is : event_rec e ≡ without_delay (rec_of b)
  pub narrow : (e.item.peer < peers_end) × (e.item.number < 2 ^ 64)

abbrev pub EventComesBack : Type 0
EventComesBack =
    (b : List ℕ) → all_under 256 b ≡ true → well_formed b ≡ true → is_timer (header_of b) ≡ true
    → (time : ℕ) → ComesBack b (record { time = time; item = (schedule_of (length b) b).item })

-- no entry is one that an event record cannot say: taking out an event is never answered 3, whatever the words are, and so no entry stays first for it
abbrev pub EventsNeverMalformed : Type 0
EventsNeverMalformed = (limit : ℕ) (out ws : List ℕ) → reply_code (queue_answered (pop_event limit out) ws).reply ≡ 3 → ⊥

-- at any time and words the timers of this output are not answered 3
abbrev pub NotMalformed : List ℕ → Type 0
NotMalformed out = (time : ℕ) (ws : List ℕ) → reply_code (queue_answered (insert_records time out) ws).reply ≡ 3 → ⊥

-- of every accepted call to a machine, whatever its state is; draws have 32 bits by their type
abbrev pub TimersTakenOf : {G S : Type 0} → Machine G S → Type 0
TimersTakenOf {S = S} m = (s : S) (v : Call) → all_under draws_end v.draws ≡ true → code_of m v s ≡ 0 → NotMalformed (output_of m v s)
