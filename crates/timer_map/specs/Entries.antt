-- Document 02, S-1: util.rs's `TimerMap` as the list of its entries in the order put in, and what putting in and taking out do to that list.
-- Assumes nothing.
use Rattle.std.specs.Prelude.{ℕ, ◌+◌, Bool, not, ◌&&◌, ◌||◌, List, [], ◌∷◌, ◌++◌, length, get_or, ltb, leb, eqb}
use Rattle.base_lists.specs.Lists.{choose, null, index_of, shift_remove}
use Rattle.timer_map.specs.declared.Id.{Id}
use Rattle.timer_map.specs.declared.Timer.{Timer}
use Rattle.timer_map.specs.declared.TimerMapEntry.{TimerMapEntry}

-- "for up to 64 timers"
abbrev pub capacity : ℕ
capacity = 64

-- "due time passes 2^64 - 1"
abbrev pub latest : ℕ
latest = 18446744073709551615

-- an id of zero
abbrev pub no_id : Id → Bool
no_id x = eqb x.0 0 && (eqb x.1 0 && (eqb x.2 0 && eqb x.3 0))

-- kinds 1 and 2, DoShuffle and DoMaintenance, have neither peer nor number, as in their records
abbrev pub bare_ok : Timer → Bool
bare_ok x = ltb 2 x.kind || (eqb x.peer 0 && eqb x.number 0)

-- what an event record can say: a kind that a timer can have, the fields of that kind and no others, and an id of zero where the kind has none: kinds 1 to 4, which have none. S-7's kinds are added here alone.
unfoldable pub timer_ok : Timer → Bool
timer_ok x = leb 1 x.kind && (leb x.kind 4 && (bare_ok x && no_id x.id))

unfoldable pub queue_entry_ok : TimerMapEntry → Bool
queue_entry_ok e = timer_ok e.item

-- "Answers, in this order: .. 12, due time passes 2^64 - 1; 11, queue holds 64 and one is added", of n entries held
unfoldable pub insert_refusal : ℕ → ℕ → ℕ → ℕ
insert_refusal time delay n = choose (ltb latest (time + delay)) 12 (choose (leb capacity n) 11 0)

-- a code, and the entries then held
pub record Put : Type 0 where
  pub code : ℕ
  pub entries : List TimerMapEntry

-- "A timer is put in with the time and its delay"; a refusal leaves the queue as it was. What is no timer is malformed, 3.
unfoldable pub insert_timer : ℕ → ℕ → Timer → List TimerMapEntry → Put
insert_timer time delay x es =
    choose (timer_ok x)
    (choose (eqb (insert_refusal time delay (length es)) 0)
    (record { code = 0; entries = es ++ (record { time = time + delay; item = x } ∷ []) })
    (record { code = insert_refusal time delay (length es); entries = es }))
    (record { code = 3; entries = es })

-- the due times
unfoldable pub due_times : List TimerMapEntry → List ℕ
due_times [] = []
due_times (e ∷ es) = e.time ∷ due_times es

-- the smallest of m and the numbers
unfoldable pub least : ℕ → List ℕ → ℕ
least m [] = m
least m (x ∷ xs) = least (choose (ltb x m) x m) xs

-- the smallest number of a list that is not empty
unfoldable pub smallest : List ℕ → ℕ
smallest [] = 0
smallest (x ∷ xs) = least x xs

-- "The earliest due comes out first; equal times come out in the order put in": the place of the first with the smallest due time
unfoldable pub soonest : List TimerMapEntry → ℕ
soonest es = index_of (smallest (due_times es)) (due_times es)

-- all zero: what stands for an entry where there is none
abbrev pub no_queue_entry : TimerMapEntry
no_queue_entry = record { time = 0; item = record { kind = 0; peer = 0; number = 0; id = record { 0 = 0; 1 = 0; 2 = 0; 3 = 0 } } }

-- that entry
unfoldable pub first_entry : List TimerMapEntry → TimerMapEntry
first_entry es = get_or es (soonest es) no_queue_entry

-- "Asking with a time takes out the first entry due at or before it, or none"
unfoldable pub is_due : ℕ → List TimerMapEntry → Bool
is_due limit es = not (null es) && leb (first_entry es).time limit

-- what is held after it
unfoldable pub popped_entries : ℕ → List TimerMapEntry → List TimerMapEntry
popped_entries limit es = choose (is_due limit es) (shift_remove (soonest es) es) es
