-- What each function answers of any words, and what it leaves of them: "2, the queue breaks its own rules" first, and a refusal changes nothing.
-- Assumes nothing.
use Rattle.std.specs.Prelude.{ℕ, ◌≡◌, true, false, List, [], length, eqb, Option, Some, None, Result, Ok, Err}
use Rattle.base_lists.specs.Lists.{choose, null}
use Rattle.base_lists.specs.Lent.{Lent}
use Rattle.timer_map.specs.Entries.{Put, insert_timer, is_due, soonest, first_entry, no_queue_entry, popped_entries}
use Rattle.timer_map.specs.Words.{queue_words, entries_of, queue_ok, pack_queue}
use Rattle.timer_map.specs.declared.Timer.{Timer}
use Rattle.timer_map.specs.declared.TimerMapEntry.{TimerMapEntry}
use Rattle.timer_map.specs.declared.Due.{Due}
use Rattle.timer_map.specs.declared.QueueRefusal.{QueueRefusal}
use Rattle.timer_map.specs.declared.QueueRefusal.TheVariants as Refusals
use Rattle.timer_map.specs.declared.Popped.{Popped}
use Rattle.timer_map.specs.declared.First.{First}
use Rattle.timer_map.specs.declared.Len.{Len}

-- the number that stands for a refusal
abbrev pub queue_code : QueueRefusal → ℕ
queue_code Refusals.Broken = 2
queue_code Refusals.NoTimer = 3
queue_code Refusals.Full = 11
queue_code Refusals.TooLate = 12

-- the code of an answer: 0 where nothing is refused
abbrev pub code_in : {A : Type 0} → Result A QueueRefusal → ℕ
code_in (Ok x) = 0
code_in (Err why) = queue_code why

-- a code, and the words then lent
pub record PutWords : Type 0 where
  pub code : ℕ
  pub words : List ℕ

-- the code and the words as the call leaves them, as a contract says it of the parameters
abbrev pub Leaves : ℕ → Lent → PutWords → Type 0
Leaves code q a = record { code = code; words = q.exit.now } ≡ a

-- the answer, with its entries packed
unfoldable pub packed_put : Put → PutWords
packed_put p = record { code = p.code; words = pack_queue p.entries }

-- the same of the entries that the words held, as a contract says it of the parameters
abbrev pub PutsIn : ℕ → Lent → (List TimerMapEntry → Put) → Type 0
PutsIn code q put = Leaves code q (packed_put (put (entries_of q.entry.now)))

-- TimerMap::insert
unfoldable pub inserted : ℕ → ℕ → Timer → List ℕ → PutWords
inserted time delay x ws = choose (queue_ok ws) (packed_put (insert_timer time delay x (entries_of ws))) (record { code = 2; words = ws })

-- without an entry: a refusal, or code 0 where none is due
abbrev pub refused_pop : ℕ → Popped
refused_pop code = record { code = code; found = false; entry = no_queue_entry }

-- the entry that is to come out, and its place
unfoldable pub due_in : ℕ → List TimerMapEntry → Option Due
due_in limit es = choose (is_due limit es) (Some (record { place = soonest es; entry = first_entry es })) None

unfoldable pub popped : ℕ → List TimerMapEntry → Popped
popped limit es = choose (is_due limit es) (record { code = 0; found = true; entry = first_entry es }) (refused_pop 0)

pub record PoppedWords : Type 0 where
  pub answer : Popped
  pub words : List ℕ

unfoldable pub popped_words : ℕ → List TimerMapEntry → PoppedWords
popped_words limit es = record { answer = popped limit es; words = pack_queue (popped_entries limit es) }

-- TimerMap::pop_before
unfoldable pub taken_out : ℕ → List ℕ → PoppedWords
taken_out limit ws = choose (queue_ok ws) (popped_words limit (entries_of ws)) (record { answer = refused_pop 2; words = ws })

-- without a due time: a refusal, or code 0 where no entry is held
abbrev pub refused_first : ℕ → First
refused_first code = record { code = code; found = false; time = 0 }

-- TimerMap::first
unfoldable pub first_of : List TimerMapEntry → First
first_of es = choose (null es) (refused_first 0) (record { code = 0; found = true; time = (first_entry es).time })

unfoldable pub first_in : List ℕ → First
first_in ws = choose (queue_ok ws) (first_of (entries_of ws)) (refused_first 2)

-- the count
unfoldable pub count_in : List ℕ → Len
count_in ws = choose (queue_ok ws) (record { code = 0; count = length (entries_of ws) }) (record { code = 2; count = 0 })

-- TimerMap::default, in words of any content
unfoldable pub renewed : List ℕ → PutWords
renewed ws = choose (eqb (length ws) queue_words) (record { code = 0; words = pack_queue [] }) (record { code = 2; words = ws })
