-- Document 02, S-1: a due timer taken out as the event record that `handle` reads.
-- Assumes nothing.
use Rattle.std.specs.Prelude.{ℕ, ◌≡◌, true, false, List, [], length, replicate}
use Rattle.base_lists.specs.Lists.{choose, shift_remove}
use Rattle.base_lists.specs.Lent.{Lent}
use Rattle.record.specs.Format.{Rec}
use Rattle.record_writer.specs.Write.{fits, written}
use Rattle.timer_map.specs.Entries.{soonest, first_entry, is_due}
use Rattle.timer_map.specs.Words.{entries_of, queue_ok, pack_queue}
use Rattle.timer_map.specs.declared.TimerMapEntry.{TimerMapEntry}
use Rattle.timer_events.specs.declared.PoppedEvent.{PoppedEvent}

-- the event of a timer (`timer_ok`): its record, without its delay
unfoldable pub event_rec : TimerMapEntry → Rec
event_rec e = record { kind = e.item.kind; message = 0; flags = 0; peer = e.item.peer; second = 0; ttl = 0; number = e.item.number; nodes = [] }

-- the answer, and the words and the bytes then lent
pub record Taken : Type 0 where
  pub answer : PoppedEvent
  pub words : List ℕ
  pub output : List ℕ

-- the answer, the words and the bytes as the call leaves them, as a contract says it of the parameters
abbrev pub LeavesEvent : PoppedEvent → Lent → Lent → Taken → Type 0
LeavesEvent r q out a = record { answer = r; words = q.exit.now; output = out.exit.now } ≡ a

-- without an event: none is due (code 0), or a refusal
abbrev pub without_event : ℕ → PoppedEvent
without_event code = record { code = code; found = false; time = 0 }

-- and then no word changes, and the lent bytes are zero: no earlier event is left in them
abbrev pub untaken : ℕ → List ℕ → List ℕ → Taken
untaken code ws out = record { answer = without_event code; words = ws; output = replicate (length out) 0 }

-- the first due entry goes, and its event is written: 9 where it does not fit
unfoldable pub event_popped : ℕ → List TimerMapEntry → List ℕ → Taken
event_popped limit es out =
    choose (is_due limit es)
    (choose (fits (event_rec (first_entry es)) 0 (length out))
    (record { answer = record { code = 0; found = true; time = (first_entry es).time }; words = pack_queue (shift_remove (soonest es) es); output = written (event_rec (first_entry es)) 0 out })
    (untaken 9 (pack_queue es) out))
    (untaken 0 (pack_queue es) out)

-- of any words
unfoldable pub event_taken : ℕ → List ℕ → List ℕ → Taken
event_taken limit ws out = choose (queue_ok ws) (event_popped limit (entries_of ws) out) (untaken 2 ws out)
