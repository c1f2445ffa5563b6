-- Document 02, S-13: "active size, passive size and how many end there, for 0 0, 0 1, 1 0 and 1 1".
-- Assumes nothing.
use Rattle.std.specs.Prelude.{ℕ, ◌+◌, ◌*◌, ◌%◌, ◌&&◌, List, [], ◌∷◌, length, eqb}
use Rattle.base_lists.specs.Lists.{choose}
use Rattle.spec_stories.specs.Histories.{Event, History, up_to}
use Rattle.spec_hyparview.specs.Station.{Station}
use Rattle.spec_history.specs.Calls.{definition}
use Rattle.endings.specs.declared.Ends.{Ends}
use Rattle.endings.specs.Events.{first, event_records, after_history}

-- how many events are of one peer, how many there are, and the most of a history
abbrev pub events_of_peer : ℕ
events_of_peer = 7

abbrev pub events_in_all : ℕ
events_in_all = 16

abbrev pub longest_history : ℕ
longest_history = 4

-- the sizes of the active and of the passive view at the end of a history
abbrev pub Sizes : Type 0
Sizes = History → ℕ × ℕ

-- how many of the histories end with a peers in the active view and p in the passive one
unfoldable pub how_many : Sizes → ℕ → ℕ → List History → ℕ
how_many z a p [] = 0
how_many z a p (h ∷ hs) = choose (eqb (z h).0 a && eqb (z h).1 p) 1 0 + how_many z a p hs

-- A history has a number, into which the bytes of its records go in turn, as `handle` is given them; the empty one has 0.
-- A list of histories has a digest, into which their numbers go in turn; it says which records were brought and in which order. Both are taken modulo the prime 2^44 - 17, so that they fit in 64 bits.
abbrev pub digest_end : ℕ
digest_end = 17592186044399

-- the number after one more byte
unfoldable pub next_byte : ℕ → ℕ → ℕ
next_byte k b = (k * 257 + b + 1) % digest_end

-- the number of a history that goes on with an event, after one with the number k
unfoldable pub next_number : ℕ → Event → ℕ
next_number k [] = k
next_number k (b ∷ bs) = next_number (next_byte k b) bs

unfoldable pub number_from : ℕ → History → ℕ
number_from k [] = k
number_from k (e ∷ h) = number_from (next_number k e) h

-- the digest after one more history, with the number k
unfoldable pub next_digest : ℕ → ℕ → ℕ
next_digest d k = (d * 65537 + k) % digest_end

unfoldable pub digest_from : ℕ → List History → ℕ
digest_from d [] = d
digest_from d (h ∷ hs) = digest_from (next_digest d (number_from 0 h)) hs

unfoldable pub count_ends : Sizes → List History → Ends
count_ends z hs = record { neither = how_many z 0 0 hs; passive = how_many z 0 1 hs; active = how_many z 1 0 hs; both = how_many z 1 1 hs; digest = digest_from 0 hs }

-- the definition's sizes, from the station g on
unfoldable pub sizes_after : Station → Sizes
sizes_after g h =
    let s = after_history definition h g in
    (length s.active, length s.passive)

-- all histories of at most four of the sixteen events
unfoldable pub all_histories : List History
all_histories = up_to event_records longest_history

-- what the program prints
unfoldable pub all_ends : Ends
all_ends = count_ends (sizes_after first) all_histories

-- how many histories were counted
unfoldable pub total_ends : Ends → ℕ
total_ends c = c.neither + (c.passive + (c.active + c.both))
