-- What the words of a state stand for: the station of the definition.
-- Assumes nothing.
use Rattle.std.specs.Prelude.{ℕ, ◌≤◌, ◌≡◌, Bool, true, ◌&&◌, ◌||◌, List, length, leb, eqb}
use Rattle.base_lists.specs.Lists.{choose}
use Rattle.base_util.specs.Section.{items_at}
use Rattle.base_columns.specs.Columns.{numbers_at, word_bytes, data_map_at}
use Rattle.base_peer.specs.Held.{DataFields, fields_in, ValidData}
use Rattle.base_timing.specs.declared.Config.{Config}
use Rattle.base_timing.specs.Timing.{longest_time, in_range}
use Rattle.spec_hyparview.specs.Station.{Station, Refill, automatic, requests_left, recovery, top_passes}
use Rattle.work.specs.Work as work
use Rattle.hyparview_state.specs.declared.RefillLimit.{RefillLimit}
use Rattle.hyparview_state.specs.declared.RefillLimit.TheVariants.{Automatic, Requests, Recovery}
use Rattle.hyparview_state.specs.Layout as layout
use Rattle.hyparview_state.specs.Layout.{words, Sections, sections, WellFormed}

-- ---- own data, the settings and the limit on refills, of the numbers n

unfoldable pub own_at : List ℕ → DataFields
own_at n = record { present = eqb (layout.own_present n) 1; len = layout.own_len n; bytes = word_bytes (layout.own_low n) (layout.own_high n) }

-- the settings, by tools/make/layout.py
unfoldable pub settings_at : List ℕ → Config
settings_at n = record {
  active_view_capacity = layout.active_view_capacity n;
  passive_view_capacity = layout.passive_view_capacity n;
  active_random_walk_length = layout.active_random_walk_length n;
  passive_random_walk_length = layout.passive_random_walk_length n;
  shuffle_random_walk_length = layout.shuffle_random_walk_length n;
  shuffle_active_view_count = layout.shuffle_active_view_count n;
  shuffle_passive_view_count = layout.shuffle_passive_view_count n;
  shuffle_interval = layout.shuffle_interval n;
  neighbor_request_timeout = layout.neighbor_request_timeout n;
}

-- end

-- kind 0 is Automatic, 1 is Requests, 2 is Recovery
unfoldable pub limit_at : List ℕ → RefillLimit
limit_at n = choose (eqb (layout.refill_kind n) 0) Automatic (choose (eqb (layout.refill_kind n) 1) (Requests (layout.refill_requests n)) Recovery)

-- two words are a limit: the requests are 0 but in kind 1
unfoldable pub limit_formed : ℕ → ℕ → Bool
limit_formed kind requests = leb kind 2 && (eqb kind 1 || eqb requests 0)

unfoldable pub refill_in : RefillLimit → Refill
refill_in Automatic = automatic
refill_in (Requests n) = requests_left n
refill_in Recovery = recovery

-- ---- the station

-- the station of the numbers n and the sections s, by tools/make/layout.py
unfoldable pub station_of : List ℕ → Sections → Station
station_of n s = record {
  me = layout.me n;
  own_data = fields_in (own_at n);
  active = items_at layout.active_places s.active;
  passive = items_at layout.passive_places s.passive;
  config = settings_at n;
  scheduled = eqb (layout.timers_scheduled n) 1;
  next_interval = layout.next_shuffle_interval n;
  bootstrap = items_at layout.bootstrap_places s.bootstrap;
  passes_alone = layout.passes_alone n;
  passes_short = layout.passes_short n;
  recent = items_at layout.recent_places s.recent;
  requests = numbers_at layout.requests_places s.requests;
  next_request = layout.next_neighbor_request n;
  joins = numbers_at layout.joins_places s.joins;
  next_join = layout.next_join n;
  peer_data = data_map_at layout.peer_data_places s.peer_data;
  alive = items_at layout.alive_places s.alive;
  refused = items_at layout.refused_places s.refused;
  refill = refill_in (limit_at n);
  pins = items_at layout.pins_places s.pins;
}

-- end

-- the station that the words stand for
unfoldable pub unpack : List ℕ → Station
unpack xs = station_of xs (sections xs)

-- ---- words that stand for a station

-- the numbers and the sections are well formed, the settings in range, the views within capacity and the interval no longer than the longest; over the numbers and the sections,
-- so that a step that leaves them alone keeps them by copying
pub record Packed (n : List ℕ) (s : Sections) : Type 0 where
  pub present : layout.own_present n ≤ 1
  pub timers : layout.timers_scheduled n ≤ 1
  pub limit : limit_formed (layout.refill_kind n) (layout.refill_requests n) ≡ true
  pub alone : layout.passes_alone n ≤ top_passes
  pub short : layout.passes_short n ≤ top_passes
  pub own_data : ValidData (own_at n)
  pub settings : in_range (settings_at n) ≡ true
  pub short_interval : layout.next_shuffle_interval n ≤ longest_time
  pub sections : WellFormed s
  pub active_fits : length (items_at layout.active_places s.active) ≤ layout.active_view_capacity n
  pub passive_fits : length (items_at layout.passive_places s.passive) ≤ layout.passive_view_capacity n

-- a data type, so that a search does not go into it
pub data PackedState (xs : List ℕ) : Type 0 where
  shut : length xs ≡ words → Packed xs (sections xs) → PackedState xs

pub opened : {xs : List ℕ} → PackedState xs → Packed xs (sections xs)
opened (shut l p) = p

pub long : {xs : List ℕ} → PackedState xs → length xs ≡ words
long (shut l p) = l

-- how the words stand for a station
abbrev pub station_form : work.Form Station
station_form = record { unpack = unpack; Packed = PackedState }

-- the words are packed, and stand for the station g
abbrev pub Becomes : List ℕ → Station → Type 0
Becomes = work.Becomes station_form
