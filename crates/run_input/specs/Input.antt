-- Document 01, "The run program": which bytes are an input, and what it says: self, settings, events, draws.
-- A head of 15 numbers of 4 bytes (self in two halves by document 02, S-8, nine settings, event count, event offset, draw count, draw offset), events, draws, without gaps.
-- Assumes nothing.
use Rattle.std.specs.Prelude.{ℕ, zero, suc, ◌+◌, ◌*◌, ◌≤◌, ◌≡◌, Bool, true, not, ◌&&◌, List, [], ◌∷◌, length, get_or, take, drop, leb, eqb, Option, Some, None}
use Rattle.std.proofs.Math.Seq.{slice}
use Rattle.base_lists.specs.Lists.{choose, null}
use Rattle.base_lists.specs.Bytes.{read_le}
use Rattle.record.specs.Format.{header_length, four_bytes_end}
use Rattle.record.specs.Walk.{whole_length}
use Rattle.base_timing.specs.declared.Config.{Config}
use Rattle.run_input.specs.declared.Head.{Head}

-- "Input under 56 bytes or over 65,536" is refused, since S-8 under 60: the bytes of a head, and the most of an input
abbrev pub head_length : ℕ
head_length = 60

abbrev pub most_bytes : ℕ
most_bytes = 65536

-- the places of the head's numbers
abbrev pub self_low : ℕ
self_low = 0

abbrev pub self_high : ℕ
self_high = 1

abbrev pub first_setting : ℕ
first_setting = 2

abbrev pub event_count : ℕ
event_count = 11

abbrev pub event_offset : ℕ
event_offset = 12

abbrev pub draw_count : ℕ
draw_count = 13

abbrev pub draw_offset : ℕ
draw_offset = 14

-- the i-th number of 4 bytes; 0 where b ends before it does
unfoldable pub number : List ℕ → ℕ → ℕ
number b i = choose (leb (4 * i + 4) (length b)) (read_le 4 b (4 * i)) 0

-- n numbers from the i-th on
unfoldable pub numbers : ℕ → ℕ → List ℕ → List ℕ
numbers zero i b = []
numbers (suc n) i b = number b i ∷ numbers n (suc i) b

-- "self as two 4-byte halves, low half first"
abbrev pub from_halves : ℕ → ℕ → ℕ
from_halves low high = low + four_bytes_end * high

-- how many settings there are
abbrev pub setting_count : ℕ
setting_count = 9

-- the settings of nine numbers, in `Config`'s order
unfoldable pub settings_of : List ℕ → Config
settings_of ns = record {
  active_view_capacity = get_or ns 0 0;
  passive_view_capacity = get_or ns 1 0;
  active_random_walk_length = get_or ns 2 0;
  passive_random_walk_length = get_or ns 3 0;
  shuffle_random_walk_length = get_or ns 4 0;
  shuffle_active_view_count = get_or ns 5 0;
  shuffle_passive_view_count = get_or ns 6 0;
  shuffle_interval = get_or ns 7 0;
  neighbor_request_timeout = get_or ns 8 0;
}

-- the nine settings of an input, in that order
unfoldable pub config_of : List ℕ → Config
config_of b = record {
  active_view_capacity = number b first_setting;
  passive_view_capacity = number b (first_setting + 1);
  active_random_walk_length = number b (first_setting + 2);
  passive_random_walk_length = number b (first_setting + 3);
  shuffle_random_walk_length = number b (first_setting + 4);
  shuffle_active_view_count = number b (first_setting + 5);
  shuffle_passive_view_count = number b (first_setting + 6);
  shuffle_interval = number b (first_setting + 7);
  neighbor_request_timeout = number b (first_setting + 8);
}

-- "Events are cut by bytes 14–15", since S-8 by 22–23: how long the event at the front is; 0 where that is less than a header or more than there is
unfoldable pub event_length : List ℕ → ℕ
event_length b = choose (leb header_length (whole_length b) && leb (whole_length b) (length b)) (whole_length b) 0

-- whether b is exactly n events
unfoldable pub are_events : ℕ → List ℕ → Bool
are_events zero b = null b
are_events (suc n) b = not (eqb (event_length b) 0) && are_events n (drop (event_length b) b)

-- the first n events of b
unfoldable pub cut_events : ℕ → List ℕ → List (List ℕ)
cut_events zero b = []
cut_events (suc n) b = take (event_length b) b ∷ cut_events n (drop (event_length b) b)

-- the events start after the head, and the draws fill their place to the end
unfoldable pub places_ok : List ℕ → Bool
places_ok b =
    leb head_length (length b)
    && (leb (length b) most_bytes
    && (eqb (number b event_offset) head_length
    && (leb head_length (number b draw_offset) && eqb (number b draw_offset + 4 * number b draw_count) (length b))))

-- the bytes between the head and the draws
unfoldable pub events_part : List ℕ → List ℕ
events_part b = slice head_length (number b draw_offset) b

-- the events exactly fill their place
unfoldable pub events_ok : List ℕ → Bool
events_ok b = are_events (number b event_count) (events_part b)

unfoldable pub input_head : List ℕ → Head
input_head b = record {
  me = from_halves (number b self_low) (number b self_high);
  config = config_of b;
  events = number b event_count;
  draws_at = number b draw_offset;
  draws = number b draw_count;
}

-- what an input is: refused as a whole (`= 3 0`), or its head
unfoldable pub input_of : List ℕ → Option Head
input_of b = choose (places_ok b && events_ok b) (Some (input_head b)) None

-- what the head of an input that is not refused says of its places
pub record Laid (b : List ℕ) (h : Head) : Type 0 where
  pub low : head_length ≤ h.draws_at
  pub full : h.draws_at + 4 * h.draws ≡ length b
  pub most : length b ≤ most_bytes
  pub events : are_events h.events (slice head_length h.draws_at b) ≡ true
