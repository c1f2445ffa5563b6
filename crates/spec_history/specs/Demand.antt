-- Demand 3, sentence by sentence, for a list of calls to a new station.
-- Assumes nothing.
use Rattle.std.specs.Prelude.{ℕ, ◌+◌, ◌*◌, ◌≤◌, Bool, true, false, List, ◌≡◌, length}
use Rattle.base_lists.specs.Lists.{mem, distinct}
use Rattle.base_lists.specs.Maps.{keys}
use Rattle.base_timing.specs.declared.Config.{Config}
use Rattle.base_timing.specs.Timing.{max_bootstrap_peers}
use Rattle.spec_hyparview.specs.Station.{Station}
use Rattle.spec_hyparview.specs.Rules.{station_ok}
use Rattle.spec_history.specs.Ledger.{Ledger, empty_ledger}
use Rattle.spec_history.specs.Calls.{Call, Machine, AfterNew, state_after, codes, ledger_after, definition}

-- of the state s that the list left, for a station `me` with settings c
pub record Views (me : ℕ) (c : Config) (s : Station) : Type 0 where
  -- "views are within capacity, disjoint and without the station itself"
  pub active_fits : length s.active ≤ c.active_view_capacity
  pub passive_fits : length s.passive ≤ c.passive_view_capacity
  pub active_once : distinct s.active ≡ true
  pub passive_once : distinct s.passive ≡ true
  pub disjoint : (x : ℕ) → mem x s.active ≡ true → mem x s.passive ≡ false
  pub not_in_active : mem me s.active ≡ false
  pub not_in_passive : mem me s.passive ≡ false
  -- "alive marks are passive"
  pub alive_passive : (x : ℕ) → mem x s.alive ≡ true → mem x s.passive ≡ true
  -- "joins awaiting retry are not neighbours and are among at most eight bootstrap peers"
  pub joins_not_active : (x : ℕ) → mem x (keys s.joins) ≡ true → mem x s.active ≡ false
  pub joins_bootstrap : (x : ℕ) → mem x (keys s.joins) ≡ true → mem x s.bootstrap ≡ true
  pub bootstrap_few : length s.bootstrap ≤ max_bootstrap_peers

-- of that state and the ledger
pub record Booked (s : Station) (l : Ledger) : Type 0 where
  -- "the active view and the set have the same peers"
  pub same_peers : (x : ℕ) → mem x l.up ≡ mem x s.active
  -- "messages plus twice the set's size are at most the allowance", and so with the neighbours now held
  pub allowed : l.sent + 2 * length l.up ≤ l.allowance
  pub allowed_held : l.sent + 2 * length s.active ≤ l.allowance

-- demand 3 of the calls vs to the machine m, from a state s that stands for a station, as all its states do; `ok` is the test of every station rule
pub record Demand3 {G S : Type 0} (m : Machine G S) (station : S → Station) (ok : S → Bool) (me : ℕ) (c : Config) (s : S) (vs : List Call) : Type 0 where
  -- "no event in it was answered 2"
  pub none_is_two : mem 2 (codes m vs s) ≡ false
  -- "Every station rule holds after the list"
  pub rules_hold : ok (state_after m vs s) ≡ true
  pub views : Views me c (station (state_after m vs s))
  pub booked : Booked (station (state_after m vs s)) (ledger_after m c.active_view_capacity vs s empty_ledger)

-- Demand 3 of a machine. "For every list of events brought to a new station"
abbrev pub Demand3Of : {G S : Type 0} → Machine G S → (S → Station) → (S → Bool) → Type 0
Demand3Of m station ok = AfterNew m (λ me c s. (vs : List Call) → Demand3 m station ok me c s vs)

-- of the definition
abbrev pub Demand3Holds : Type 0
Demand3Holds = Demand3Of definition (λ s. s) station_ok
