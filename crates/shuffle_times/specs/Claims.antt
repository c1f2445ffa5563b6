-- Document 02, S-11, as theorems about lists of calls to a machine: what its own shuffle timers are due at, and both directions.
-- Assumes nothing.
use Rattle.std.specs.Prelude.{ℕ, ◌-◌, ◌≤◌, true, List, [], ◌≡◌, length, get_or}
use Rattle.base_timing.specs.declared.Config.{Config}
use Rattle.spec_hyparview.specs.Station.{draws_end}
use Rattle.spec_hyparview.specs.Rules.{all_under}
use Rattle.spec_history.specs.Calls.{Machine, AfterNew, definition}
use Rattle.shuffle_times.specs.Times.{first_interval, dues, has_times, shuffle_times}
use Rattle.shuffle_times.specs.Histories.{Brought, shuffles_due, start_of, on_time, every_timer_fires, none_numbered, in_time_order}

-- the shuffle timers of the calls have the intervals of the definition, each with the draw beside it
pub record Tied {G S : Type 0} (m : Machine G S) (c : Config) (s : S) (vs : List Brought) : Type 0 where
  pub draws : List ℕ
  pub are_draws : all_under draws_end draws ≡ true
  pub same : shuffles_due m vs s ≡ dues c.shuffle_interval (first_interval c.shuffle_interval) (start_of m vs s) draws

-- the k-th shuffle timer of the calls is due within the two ends
pub record Within {G S : Type 0} (m : Machine G S) (earliest latest k : ℕ) (c : Config) (s : S) (vs : List Brought) : Type 0 where
  pub not_before : (shuffle_times earliest latest c k).earliest ≤ get_or (shuffles_due m vs s) (k - 1) 0
  pub not_after : get_or (shuffles_due m vs s) (k - 1) 0 ≤ (shuffle_times earliest latest c k).latest

-- calls with a start in the range and every timer fired when due, maintenance too, whose k-th shuffle timer is due at time t
pub record Reached {G S : Type 0} (m : Machine G S) (earliest latest k t : ℕ) (s : S) : Type 0 where
  pub calls : List Brought
  pub fire : every_timer_fires m calls s ≡ true
  -- and none of them has a peer or a number, so that kind and time tell which one fires
  pub alone : none_numbered m calls s ≡ true
  pub ordered : in_time_order 0 calls ≡ true
  pub not_early : earliest ≤ start_of m calls s
  pub not_late : start_of m calls s ≤ latest
  pub enough : k ≤ length (shuffles_due m calls s)
  pub due_then : get_or (shuffles_due m calls s) (k - 1) 0 ≡ t

-- of a machine with the settings c, from its new state s on, in every history whose shuffle timers fire when due
pub record Timed {G S : Type 0} (m : Machine G S) (c : Config) (s : S) : Type 0 where
  -- the due times of the definition are the machine's own
  pub due_times_tied : (vs : List Brought) → on_time m vs s [] ≡ true → Tied m c s vs
  -- "nothing outside is"
  pub nothing_outside :
      (vs : List Brought) → on_time m vs s [] ≡ true → (earliest latest k : ℕ) → has_times earliest latest c k ≡ true
      → earliest ≤ start_of m vs s → start_of m vs s ≤ latest → k ≤ length (shuffles_due m vs s) → Within m earliest latest k c s vs
  -- "Every whole millisecond between is proved reachable by some start and draws"
  pub every_one_reached :
      (earliest latest k : ℕ) → has_times earliest latest c k ≡ true
      → (t : ℕ) → (shuffle_times earliest latest c k).earliest ≤ t → t ≤ (shuffle_times earliest latest c k).latest → Reached m earliest latest k t s

-- S-11 of a machine, after a `new` that answered 0
abbrev pub TimedOf : {G S : Type 0} → Machine G S → Type 0
TimedOf m = AfterNew m (λ me c s. Timed m c s)

-- of the definition
abbrev pub ShufflesTimed : Type 0
ShufflesTimed = TimedOf definition

-- "both ends 0" is the empty range alone: the latest end of any other is at least k
abbrev pub ZeroIsEmpty : Type 0
ZeroIsEmpty =
    (earliest latest : ℕ) (c : Config) (k : ℕ) → has_times earliest latest c k ≡ true → k ≤ (shuffle_times earliest latest c k).latest
