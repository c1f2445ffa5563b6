-- The rejoin promise, for a station that is cut off: what `handle_maintenance_timer` owes to a station with both views empty.
-- Assumes nothing.
use Rattle.std.specs.Prelude.{ℕ, Bool, true, ◌&&◌, List, [], ◌∷◌, ◌++◌, ◌≡◌, length, eqb}
use Rattle.base_lists.specs.Lists.{choose}
use Rattle.base_peer.specs.Data.{Data}
use Rattle.record.specs.Kinds.{DoMaintenance, kind_byte}
use Rattle.record.specs.Format.{encode}
use Rattle.record.specs.Walk.{kind_in}
use Rattle.spec_hyparview.specs.Station.{Station}
use Rattle.spec_hyparview.specs.Sending.{join_to}
use Rattle.spec_hyparview.specs.Timers.{knows_none}
use Rattle.spec_history.specs.Calls.{Call, Machine, AfterNew, code_of, state_of, output_of, definition}

-- an accepted maintenance timer: the state that it met, and the output that it left
pub record Tick : Type 0 where
  pub met : Station
  pub output : List ℕ

unfoldable pub is_tick : {G S : Type 0} → Machine G S → Call → S → Bool
is_tick m v s = eqb (kind_in v.event) (kind_byte DoMaintenance) && eqb (code_of m v s) 0

-- the accepted maintenance timers among the calls to a machine, in order; each state of it stands for a station
unfoldable pub ticks : {G S : Type 0} → Machine G S → (S → Station) → List Call → S → List Tick
ticks m station [] s = []
ticks m station (v ∷ vs) s =
    choose (is_tick m v s) (record { met = station s; output = output_of m v s } ∷ ticks m station vs (state_of m v s)) (ticks m station vs (state_of m v s))

-- all of them met a station with both views empty
unfoldable pub all_alone : List Tick → Bool
all_alone [] = true
all_alone (t ∷ ts) = knows_none t.met && all_alone ts

-- the bytes of a Join to each of the peers, in order
unfoldable pub joins_to : Data → List ℕ → List ℕ
joins_to d [] = []
joins_to d (p ∷ ps) = encode (join_to d p) ++ joins_to d ps

-- with a Join to every bootstrap peer then held, the output begins
pub record Rejoins (t : Tick) : Type 0 where
  pub rest : List ℕ
  pub begins : t.output ≡ joins_to t.met.own_data t.met.bootstrap ++ rest

-- at least one of them
pub data Some (X : Tick → Type 0) : List Tick → Type 0 where
  here : {t : Tick} {ts : List Tick} → X t → Some X (t ∷ ts)
  later : {t : Tick} {ts : List Tick} → Some X ts → Some X (t ∷ ts)

-- Among any 12 successive accepted maintenance timers of a history that all met a station with both views empty, at least one sends a
-- Join to every bootstrap peer then held. Other events, and maintenance timers that are refused, may stand between them.
abbrev pub Promised : List Tick → Type 0
Promised ts = (before twelve after : List Tick) → ts ≡ before ++ (twelve ++ after) → length twelve ≡ 12 → all_alone twelve ≡ true → Some Rejoins twelve

-- of every list of calls to a new station
abbrev pub RejoinOf : {G S : Type 0} → Machine G S → (S → Station) → Type 0
RejoinOf m station = AfterNew m (λ me c s. (vs : List Call) → Promised (ticks m station vs s))

-- of the definition
abbrev pub RejoinPromise : Type 0
RejoinPromise = RejoinOf definition (λ s. s)
