-- What is claimed of the calls from C: of every list of calls of `hyparview_handle`, from the words and the tally that `hyparview_new` filled.
-- `memory_made` and `memory_outcome` are what the contracts of the two functions say; the check ties them to the claims by `new_says` and `handle_says`, and the exported functions' to them by `new_same` and `handle_same` (controller_c).
-- Assumes nothing.
use Rattle.std.specs.Prelude.{ℕ, ◌≤◌, ◌≡◌, Bool, true, not, List, length, take, replicate, get_or, eqb}
use Rattle.base_timing.specs.declared.Config.{Config}
use Rattle.base_util.specs.Chances.{sure_end}
use Rattle.record.specs.Kinds.{Quit, kind_byte}
use Rattle.spec_hyparview.specs.Rules.{all_under}
use Rattle.spec_hyparview.specs.Station.{Station}
use Rattle.spec_history.specs.Ledger.{Ledger, empty_ledger}
use Rattle.spec_history.specs.Calls.{Call, narrow_draws, Machine, AfterNew, code_of, state_after, ledger_after}
use Rattle.spec_history.specs.Demand.{Demand3Of}
use Rattle.spec_history.specs.Outputs.{OutputsOf}
use Rattle.spec_history.specs.Refusals.{NeverEightOf}
use Rattle.spec_history.specs.Rejoin.{RejoinOf}
use Rattle.spec_history.specs.Pinned.{PinsStayOf}
use Rattle.tally.specs.declared.Tally.{Tally}
use Rattle.tally.specs.Counts.{top}
use Rattle.tally.specs.Sum.{total}
use Rattle.tally.specs.History.{no_messages}
use Rattle.shuffle_times.specs.Claims.{TimedOf}
use Rattle.spec_hyparview.specs.Sides.{Side, wired, radio, radio_nodes, radio_draws, draws_taken}
use Rattle.hyparview_state.specs.Layout.{words}
use Rattle.hyparview_state.specs.Unpack.{unpack}
use Rattle.hyparview_rules.specs.Ok.{state_ok}
use Rattle.hyparview.specs.Made.{lent}
use Rattle.controller.specs.Calls.{Begun, begun, Called, called}
use Rattle.spec_demand.specs.Program.{Suffices, GoesOn, GoesOnOf}

-- what a caller in C lends, and keeps between calls
pub record LentMemory : Type 0 where
  pub words : List ℕ
  pub tally : Tally

-- `hyparview_new` on this memory, whatever it holds; own data is absent where `present` is 0
unfoldable pub memory_made : LentMemory → ℕ → ℕ → List ℕ → Config → Begun
memory_made x me present own c = begun x.words x.tally me (lent (not (eqb present 0)) own) c

-- the memory after it
abbrev pub filled : Begun → LentMemory
filled m = record { words = m.words; tally = m.tally }

-- `hyparview_handle` on this memory
unfoldable pub memory_outcome : Side → List ℕ → List ℕ → List ℕ → LentMemory → Called
memory_outcome side b ds out x = called side x.words x.tally b ds (length out)

-- what `hyparview_new` is lent: the memory, and own data as a flag and bytes
pub record MemoryLending : Type 0 where
  pub held : LentMemory
  pub present : ℕ
  pub own : List ℕ

abbrev pub c_calls : Machine MemoryLending LentMemory
c_calls = record {
  own = λ g. lent (not (eqb g.present 0)) g.own;
  new_code = λ me g c. (memory_made g.held me g.present g.own c).code;
  new_state = λ me g c. filled (memory_made g.held me g.present g.own c);
  code = λ side b ds out x. (memory_outcome side b ds out x).code;
  state = λ side b ds out x. record { words = (memory_outcome side b ds out x).words; tally = (memory_outcome side b ds out x).tally };
  used = λ side b ds out x. (memory_outcome side b ds out x).draws;
  output = λ side b ds out x. (memory_outcome side b ds out x).output;
}

-- the station that it holds, and whether the words keep the rules
abbrev pub station_in : LentMemory → Station
station_in x = unpack x.words

abbrev pub memory_passes : LentMemory → Bool
memory_passes x = state_ok x.words

-- Demand 3: of every list of calls, whatever the memory held before `hyparview_new`
abbrev pub Demand3Holds : Type 0
Demand3Holds = Demand3Of c_calls station_in memory_passes

-- the rejoin promise, for the same lists
abbrev pub RejoinPromise : Type 0
RejoinPromise = RejoinOf c_calls station_in

-- what an accepted call writes is read back, for the same lists
abbrev pub OutputsReadBack : Type 0
OutputsReadBack = OutputsOf c_calls

-- the ledger of the list
abbrev pub ledger : Config → List Call → LentMemory → Ledger
ledger c vs x = ledger_after c_calls c.active_view_capacity vs x empty_ledger

-- and the six counts of the lent tally together are the messages that the ledger has read, while these are below 2^64
abbrev pub EveryMessageCounted : Type 0
EveryMessageCounted =
    AfterNew c_calls (λ me c s. (vs : List Call) → narrow_draws vs ≡ true → (ledger c vs s).sent ≤ top → total (state_after c_calls vs s).tally ≡ (ledger c vs s).sent)

-- S-11 of document 02: when its shuffles are due
abbrev pub ShufflesTimed : Type 0
ShufflesTimed = TimedOf c_calls

-- "8,192 output bytes and 512 draws always suffice", by 02, S-6, draws that are kept: of one call from the wired side at words that keep the rules, whatever the tally is
abbrev pub EnoughLent : Type 0
EnoughLent = (x : LentMemory) → memory_passes x ≡ true → (v : Call) → v.side ≡ wired → Suffices c_calls station_in x v

-- 02, S-12: the same answer from either side, at any words and tally
abbrev pub SameFromEitherOfCalls : Type 0
SameFromEitherOfCalls =
    (x : LentMemory) (b ds out : List ℕ) → get_or b 3 0 ≤ radio_nodes → draws_taken (station_in x) b ds (length out) ≤ radio_draws
    → memory_outcome radio b ds out x ≡ memory_outcome wired b ds out x

-- 02, S-12: at most 64 draws are used from the radio side, and where they are kept ones they suffice
abbrev pub FewDrawsUsedOfCalls : Type 0
FewDrawsUsedOfCalls = (x : LentMemory) (b ds out : List ℕ) → (memory_outcome radio b ds out x).draws ≤ radio_draws

abbrev pub EnoughForRadioOfCalls : Type 0
EnoughForRadioOfCalls =
    (x : LentMemory) (b ds out : List ℕ) → all_under 256 b ≡ true → get_or b 3 0 ≤ radio_nodes → radio_draws ≤ length ds → all_under sure_end (take radio_draws ds) ≡ true
    → (get_or b 0 0 ≡ kind_byte Quit → length (station_in x).active ≤ 2)
    → ((memory_outcome radio b ds out x).code ≡ 5 → ⊥) × (memory_outcome radio b ds out x ≡ memory_outcome wired b ds out x)

-- "Code 1 belongs to `new` alone", whatever the words, the tally and the event are
abbrev pub NeverOne : Type 0
NeverOne = (x : LentMemory) (v : Call) → code_of c_calls v x ≡ 1 → ⊥

-- 02, S-5: code 8 never occurs at words that keep the rules, and so after no list of calls
abbrev pub NeverEight : Type 0
NeverEight = (x : LentMemory) → memory_passes x ≡ true → (v : Call) → code_of c_calls v x ≡ 8 → ⊥

abbrev pub NeverEightAfter : Type 0
NeverEightAfter = NeverEightOf c_calls

-- 02, S-14: once pinned, a neighbour stays one
abbrev pub PinsStay : Type 0
PinsStay = PinsStayOf c_calls station_in

-- the Rust's `unreachable!` is not reached at words that keep the rules
abbrev pub NeverUnreachable : Type 0
NeverUnreachable = (x : LentMemory) → memory_passes x ≡ true → GoesOn (station_in x)

-- and so after every list of calls
abbrev pub NeverUnreachableAfter : Type 0
NeverUnreachableAfter = GoesOnOf c_calls station_in

-- a refused `hyparview_new` leaves words and tally of zeroes
abbrev pub RefusedZeroes : Type 0
RefusedZeroes = (me : ℕ) (g : MemoryLending) (c : Config) → c_calls.new_code me g c ≡ 1 → c_calls.new_state me g c ≡ record { words = replicate words 0; tally = no_messages }
