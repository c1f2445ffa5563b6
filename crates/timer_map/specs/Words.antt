-- The 513 words of a queue: the count, then 64 rows of 8 (due time, kind, peer, number, and 4 words of id), unused rows zero.
-- Assumes nothing.
use Rattle.std.specs.Prelude.{ℕ, zero, suc, ◌+◌, ◌*◌, ◌-◌, ◌≤◌, ◌≡◌, Bool, true, ◌&&◌, List, [], ◌∷◌, ◌++◌, length, take, drop, get_or, replicate, leb, ltb, eqb}
use Rattle.base_lists.specs.Lists.{choose}
use Rattle.base_lists.specs.Tests.{every}
use Rattle.timer_map.specs.Entries.{capacity, queue_entry_ok}
use Rattle.timer_map.specs.declared.TimerMapEntry.{TimerMapEntry}

-- how many words a row has
abbrev pub row_words : ℕ
row_words = 8

-- the place of the first row, behind the count
abbrev pub first_row : ℕ
first_row = 1

-- the place of row i
abbrev pub row_at : ℕ → ℕ
row_at i = first_row + row_words * i

-- the place of the last of 64 rows
abbrev pub last_row : ℕ
last_row = 505

-- how many words a queue has
abbrev pub queue_words : ℕ
queue_words = 513

-- the row of an entry
unfoldable pub queue_row : TimerMapEntry → List ℕ
queue_row e =
    e.time ∷ e.item.kind ∷ e.item.peer ∷ e.item.number
    ∷ e.item.id.0 ∷ e.item.id.1 ∷ e.item.id.2 ∷ e.item.id.3 ∷ []

unfoldable pub queue_rows : List TimerMapEntry → List ℕ
queue_rows [] = []
queue_rows (e ∷ es) = queue_row e ++ queue_rows es

-- the words of a queue that holds these entries
unfoldable pub pack_queue : List TimerMapEntry → List ℕ
pack_queue es = length es ∷ (queue_rows es ++ replicate (row_words * capacity - row_words * length es) 0)

-- the entry whose row stands at place `at`
unfoldable pub queue_entry_at : List ℕ → ℕ → TimerMapEntry
queue_entry_at ws at = record {
  time = get_or ws at 0;
  item = record {
    kind = get_or ws (at + 1) 0;
    peer = get_or ws (at + 2) 0;
    number = get_or ws (at + 3) 0;
    id = record { 0 = get_or ws (at + 4) 0; 1 = get_or ws (at + 5) 0; 2 = get_or ws (at + 6) 0; 3 = get_or ws (at + 7) 0 };
  };
}

-- n entries whose rows stand from place `at` on
unfoldable pub queue_entries_at : List ℕ → ℕ → ℕ → List TimerMapEntry
queue_entries_at ws at zero = []
queue_entries_at ws at (suc n) = queue_entry_at ws at ∷ queue_entries_at ws (at + row_words) n

abbrev pub queue_count : List ℕ → ℕ
queue_count ws = get_or ws 0 0

-- the entries that the words hold
unfoldable pub entries_of : List ℕ → List TimerMapEntry
entries_of ws = queue_entries_at ws first_row (queue_count ws)

-- the words without the row at place `at`: the later rows move down, and the last row stays as it is
abbrev pub shifted_down : ℕ → List ℕ → List ℕ
shifted_down at ws = take at ws ++ (drop (at + row_words) ws ++ drop last_row ws)

-- the one of two rows that is due earlier; where both are due at one time, the one that stood first
abbrev pub earlier_row : ℕ → ℕ → List ℕ → ℕ
earlier_row best i ws = choose (ltb (get_or ws (row_at i) 0) (get_or ws (row_at best) 0)) i best

-- an unused word
abbrev pub unused_word : ℕ → Bool
unused_word w = eqb w 0

-- "the queue breaks its own rules" where this is false: as many words as there must be, at most 64 entries, each a timer, unused words zero
unfoldable pub queue_ok : List ℕ → Bool
queue_ok ws =
    eqb (length ws) queue_words
    && (leb (queue_count ws) capacity
    && (every queue_entry_ok (entries_of ws) && every unused_word (drop (row_at (queue_count ws)) ws)))

-- what `queue_ok` says, in facts: the words are those of the entries that they hold
pub record SoundQueue (ws : List ℕ) : Type 0 where
  pub long : length ws ≡ queue_words
  pub few : queue_count ws ≤ capacity
  pub count : length (entries_of ws) ≡ queue_count ws
  pub timers : every queue_entry_ok (entries_of ws) ≡ true
  pub is : ws ≡ pack_queue (entries_of ws)
