-- Where each number and each section of the state's words stands. Written by tools/make/layout.py.
-- Assumes nothing.
use Rattle.std.specs.Prelude.{ℕ, List, get_or}
use Rattle.base_util.specs.Section.{part, ValidSet}
use Rattle.base_columns.specs.Columns.{ValidNumbers, ValidDataWords}
pub use Rattle.base_columns.specs.Columns.{active_places}

-- the words of a state, and where its numbers end and its sections begin
abbrev pub words : ℕ
words = 559

abbrev pub numbers_end : ℕ
numbers_end = 22

-- ---- the numbers, and where each stands

abbrev pub me_at : ℕ
me_at = 0

abbrev pub me : List ℕ → ℕ
me xs = get_or xs me_at 0

abbrev pub own_present_at : ℕ
own_present_at = 1

abbrev pub own_present : List ℕ → ℕ
own_present xs = get_or xs own_present_at 0

abbrev pub own_len_at : ℕ
own_len_at = 2

abbrev pub own_len : List ℕ → ℕ
own_len xs = get_or xs own_len_at 0

abbrev pub active_view_capacity_at : ℕ
active_view_capacity_at = 3

abbrev pub active_view_capacity : List ℕ → ℕ
active_view_capacity xs = get_or xs active_view_capacity_at 0

abbrev pub passive_view_capacity_at : ℕ
passive_view_capacity_at = 4

abbrev pub passive_view_capacity : List ℕ → ℕ
passive_view_capacity xs = get_or xs passive_view_capacity_at 0

abbrev pub active_random_walk_length_at : ℕ
active_random_walk_length_at = 5

abbrev pub active_random_walk_length : List ℕ → ℕ
active_random_walk_length xs = get_or xs active_random_walk_length_at 0

abbrev pub passive_random_walk_length_at : ℕ
passive_random_walk_length_at = 6

abbrev pub passive_random_walk_length : List ℕ → ℕ
passive_random_walk_length xs = get_or xs passive_random_walk_length_at 0

abbrev pub shuffle_random_walk_length_at : ℕ
shuffle_random_walk_length_at = 7

abbrev pub shuffle_random_walk_length : List ℕ → ℕ
shuffle_random_walk_length xs = get_or xs shuffle_random_walk_length_at 0

abbrev pub shuffle_active_view_count_at : ℕ
shuffle_active_view_count_at = 8

abbrev pub shuffle_active_view_count : List ℕ → ℕ
shuffle_active_view_count xs = get_or xs shuffle_active_view_count_at 0

abbrev pub shuffle_passive_view_count_at : ℕ
shuffle_passive_view_count_at = 9

abbrev pub shuffle_passive_view_count : List ℕ → ℕ
shuffle_passive_view_count xs = get_or xs shuffle_passive_view_count_at 0

abbrev pub shuffle_interval_at : ℕ
shuffle_interval_at = 10

abbrev pub shuffle_interval : List ℕ → ℕ
shuffle_interval xs = get_or xs shuffle_interval_at 0

abbrev pub neighbor_request_timeout_at : ℕ
neighbor_request_timeout_at = 11

abbrev pub neighbor_request_timeout : List ℕ → ℕ
neighbor_request_timeout xs = get_or xs neighbor_request_timeout_at 0

abbrev pub timers_scheduled_at : ℕ
timers_scheduled_at = 12

abbrev pub timers_scheduled : List ℕ → ℕ
timers_scheduled xs = get_or xs timers_scheduled_at 0

abbrev pub next_shuffle_interval_at : ℕ
next_shuffle_interval_at = 13

abbrev pub next_shuffle_interval : List ℕ → ℕ
next_shuffle_interval xs = get_or xs next_shuffle_interval_at 0

abbrev pub passes_alone_at : ℕ
passes_alone_at = 14

abbrev pub passes_alone : List ℕ → ℕ
passes_alone xs = get_or xs passes_alone_at 0

abbrev pub passes_short_at : ℕ
passes_short_at = 15

abbrev pub passes_short : List ℕ → ℕ
passes_short xs = get_or xs passes_short_at 0

abbrev pub refill_kind_at : ℕ
refill_kind_at = 16

abbrev pub refill_kind : List ℕ → ℕ
refill_kind xs = get_or xs refill_kind_at 0

abbrev pub refill_requests_at : ℕ
refill_requests_at = 17

abbrev pub refill_requests : List ℕ → ℕ
refill_requests xs = get_or xs refill_requests_at 0

abbrev pub next_neighbor_request_at : ℕ
next_neighbor_request_at = 18

abbrev pub next_neighbor_request : List ℕ → ℕ
next_neighbor_request xs = get_or xs next_neighbor_request_at 0

abbrev pub next_join_at : ℕ
next_join_at = 19

abbrev pub next_join : List ℕ → ℕ
next_join xs = get_or xs next_join_at 0

abbrev pub own_low_at : ℕ
own_low_at = 20

abbrev pub own_low : List ℕ → ℕ
own_low xs = get_or xs own_low_at 0

abbrev pub own_high_at : ℕ
own_high_at = 21

abbrev pub own_high : List ℕ → ℕ
own_high xs = get_or xs own_high_at 0

-- ---- the sections: where each begins, its places, where its count stands, and its words

abbrev pub active_at : ℕ
active_at = 22

abbrev pub active_count : ℕ
active_count = 30

abbrev pub active_size : ℕ
active_size = 9

abbrev pub active_part : List ℕ → List ℕ
active_part xs = part active_at active_size xs

abbrev pub passive_at : ℕ
passive_at = 31

abbrev pub passive_places : ℕ
passive_places = 32

abbrev pub passive_count : ℕ
passive_count = 63

abbrev pub passive_size : ℕ
passive_size = 33

abbrev pub passive_part : List ℕ → List ℕ
passive_part xs = part passive_at passive_size xs

abbrev pub alive_at : ℕ
alive_at = 64

abbrev pub alive_places : ℕ
alive_places = 32

abbrev pub alive_count : ℕ
alive_count = 96

abbrev pub alive_size : ℕ
alive_size = 33

abbrev pub alive_part : List ℕ → List ℕ
alive_part xs = part alive_at alive_size xs

abbrev pub refused_at : ℕ
refused_at = 97

abbrev pub refused_places : ℕ
refused_places = 32

abbrev pub refused_count : ℕ
refused_count = 129

abbrev pub refused_size : ℕ
refused_size = 33

abbrev pub refused_part : List ℕ → List ℕ
refused_part xs = part refused_at refused_size xs

abbrev pub requests_at : ℕ
requests_at = 130

abbrev pub requests_places : ℕ
requests_places = 32

abbrev pub requests_count : ℕ
requests_count = 194

abbrev pub requests_size : ℕ
requests_size = 65

abbrev pub requests_part : List ℕ → List ℕ
requests_part xs = part requests_at requests_size xs

abbrev pub bootstrap_at : ℕ
bootstrap_at = 195

abbrev pub bootstrap_places : ℕ
bootstrap_places = 8

abbrev pub bootstrap_count : ℕ
bootstrap_count = 203

abbrev pub bootstrap_size : ℕ
bootstrap_size = 9

abbrev pub bootstrap_part : List ℕ → List ℕ
bootstrap_part xs = part bootstrap_at bootstrap_size xs

abbrev pub recent_at : ℕ
recent_at = 204

abbrev pub recent_places : ℕ
recent_places = 8

abbrev pub recent_count : ℕ
recent_count = 212

abbrev pub recent_size : ℕ
recent_size = 9

abbrev pub recent_part : List ℕ → List ℕ
recent_part xs = part recent_at recent_size xs

abbrev pub joins_at : ℕ
joins_at = 213

abbrev pub joins_places : ℕ
joins_places = 8

abbrev pub joins_count : ℕ
joins_count = 229

abbrev pub joins_size : ℕ
joins_size = 17

abbrev pub joins_part : List ℕ → List ℕ
joins_part xs = part joins_at joins_size xs

abbrev pub peer_data_at : ℕ
peer_data_at = 230

abbrev pub peer_data_places : ℕ
peer_data_places = 80

abbrev pub peer_data_count : ℕ
peer_data_count = 550

abbrev pub peer_data_size : ℕ
peer_data_size = 321

abbrev pub peer_data_part : List ℕ → List ℕ
peer_data_part xs = part peer_data_at peer_data_size xs

abbrev pub pins_at : ℕ
pins_at = 551

abbrev pub pins_places : ℕ
pins_places = 7

abbrev pub pins_count : ℕ
pins_count = 558

abbrev pub pins_size : ℕ
pins_size = 8

abbrev pub pins_part : List ℕ → List ℕ
pins_part xs = part pins_at pins_size xs

pub record Sections : Type 0 where
  pub active : List ℕ
  pub passive : List ℕ
  pub alive : List ℕ
  pub refused : List ℕ
  pub requests : List ℕ
  pub bootstrap : List ℕ
  pub recent : List ℕ
  pub joins : List ℕ
  pub peer_data : List ℕ
  pub pins : List ℕ

abbrev pub sections : List ℕ → Sections
sections xs = record { active = active_part xs; passive = passive_part xs; alive = alive_part xs; refused = refused_part xs; requests = requests_part xs; bootstrap = bootstrap_part xs; recent = recent_part xs; joins = joins_part xs; peer_data = peer_data_part xs; pins = pins_part xs }

-- every section is well formed
pub record WellFormed (s : Sections) : Type 0 where
  pub active : ValidSet active_places s.active
  pub passive : ValidSet passive_places s.passive
  pub alive : ValidSet alive_places s.alive
  pub refused : ValidSet refused_places s.refused
  pub requests : ValidNumbers requests_places s.requests
  pub bootstrap : ValidSet bootstrap_places s.bootstrap
  pub recent : ValidSet recent_places s.recent
  pub joins : ValidNumbers joins_places s.joins
  pub peer_data : ValidDataWords peer_data_places s.peer_data
  pub pins : ValidSet pins_places s.pins
