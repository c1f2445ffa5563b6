-- What is claimed of the program: of every list of calls of `handle`, from the words that `new` filled.
-- `program_made` and `program_outcome` are what the contracts of `hyparview::new` and `hyparview::handle_from` say; the check ties them to the claims by `new_says` and `handle_says`, and the form by value in the same way (proofs/Tied).
-- Assumes nothing.
use Rattle.std.specs.Prelude.{ℕ, ◌≤◌, ◌≡◌, Bool, true, false, List, length, take, replicate, get_or}
use Rattle.base_lists.specs.Lists.{null, without}
use Rattle.base_timing.specs.declared.Config.{Config}
use Rattle.base_util.specs.Chances.{sure_end}
use Rattle.base_peer.specs.Data.{Node}
use Rattle.spec_hyparview.specs.Station.{Station}
use Rattle.spec_hyparview.specs.Messages.{ends_here, learn_joiner}
use Rattle.record.specs.Kinds.{Quit, kind_byte}
use Rattle.spec_hyparview.specs.Rules.{all_under}
use Rattle.spec_hyparview.specs.Kept.{FewerKept}
use Rattle.spec_hyparview.specs.Handle as Handle
use Rattle.spec_history.specs.Calls.{Call, Machine, AfterNew, code_of, state_after}
use Rattle.spec_history.specs.Demand.{Demand3Of}
use Rattle.spec_history.specs.Outputs.{OutputsOf}
use Rattle.spec_history.specs.Refusals.{NeverEightOf}
use Rattle.spec_history.specs.Rejoin.{RejoinOf}
use Rattle.spec_history.specs.Pinned.{PinsStayOf}
use Rattle.tally.specs.History.{CountsOf}
use Rattle.shuffle_times.specs.Claims.{TimedOf}
use Rattle.spec_hyparview.specs.Sides.{Side, wired, radio, radio_nodes, radio_draws, draws_taken, handle_from}
use Rattle.hyparview_state.specs.Layout.{words}
use Rattle.hyparview_state.specs.Unpack.{unpack}
use Rattle.hyparview_rules.specs.Ok.{state_ok}
use Rattle.hyparview.specs.Made.{MadeWords, lent, pack_made}
use Rattle.hyparview.specs.Made as lending
use Rattle.hyparview.specs.declared.State.{State}
use Rattle.hyparview.specs.declared.MadeState as by_value
use Rattle.hyparview.specs.Handled.{Outcome, handled_from}

-- what `new` answers, and the words xs that it was lent as it leaves them
unfoldable pub program_made : List ℕ → ℕ → Bool → List ℕ → Config → MadeWords
program_made xs me present own c = lending.made xs me (lent present own) c

-- what `handle` answers, and the words and the output as it leaves them
unfoldable pub program_outcome : Side → List ℕ → List ℕ → List ℕ → List ℕ → Outcome
program_outcome side b ds out xs = handled_from side xs b ds (length out)

-- what `new` is lent: the words, whatever they hold, and own data as a flag and bytes
pub record Lending : Type 0 where
  pub words : List ℕ
  pub present : Bool
  pub own : List ℕ

abbrev pub program : Machine Lending (List ℕ)
program = record {
  own = λ g. lent g.present g.own;
  new_code = λ me g c. (program_made g.words me g.present g.own c).code;
  new_state = λ me g c. (program_made g.words me g.present g.own c).words;
  code = λ side b ds out xs. (program_outcome side b ds out xs).code;
  state = λ side b ds out xs. (program_outcome side b ds out xs).words;
  used = λ side b ds out xs. (program_outcome side b ds out xs).draws;
  output = λ side b ds out xs. (program_outcome side b ds out xs).output;
}

-- Demand 3: of every list of calls, whatever the words held before `new`
abbrev pub Demand3Holds : Type 0
Demand3Holds = Demand3Of program unpack state_ok

-- the rejoin promise, for the same lists
abbrev pub RejoinPromise : Type 0
RejoinPromise = RejoinOf program unpack

-- what an accepted call writes is read back, for the same lists
abbrev pub OutputsReadBack : Type 0
OutputsReadBack = OutputsOf program

-- and the tally raised after each call counts every message that the ledger reads
abbrev pub EveryMessageCounted : Type 0
EveryMessageCounted = CountsOf program

-- S-11 of document 02: when its shuffles are due
abbrev pub ShufflesTimed : Type 0
ShufflesTimed = TimedOf program

-- of one call to a machine, at a state that stands for a station
pub record Suffices {G S : Type 0} (m : Machine G S) (station : S → Station) (s : S) (v : Call) : Type 0 where
  -- "8,192 output bytes and 512 draws always suffice"; by 02, S-6, 512 draws that are kept: code 5 is answered only where fewer than 512 of those lent were kept
  pub five : code_of m v s ≡ 5 → FewerKept 512 (λ ds. m.code v.side v.event ds v.output s) (λ ds. m.used v.side v.event ds v.output s) (λ ds. station (m.state v.side v.event ds v.output s)) v.draws
  -- and an accepted call keeps at most 512, fewer than 513, of the draws that it uses
  pub kept_used : code_of m v s ≡ 0
      → FewerKept 513 (λ ds. m.code v.side v.event ds v.output s) (λ ds. m.used v.side v.event ds v.output s) (λ ds. station (m.state v.side v.event ds v.output s)) (take (m.used v.side v.event v.draws v.output s) v.draws)
  -- and so 512 draws below 2^32 - 32 suffice, which every choice keeps
  pub no_five : 512 ≤ length v.draws → all_under sure_end v.draws ≡ true → code_of m v s ≡ 5 → ⊥
  pub no_nine : 8192 ≤ length v.output → code_of m v s ≡ 9 → ⊥
  -- "The count in the result equals the draws the definition consumes"; by S-6 those lent bound it, and no longer 512
  pub draws_used : m.used v.side v.event v.draws v.output s ≡ (handle_from v.side (station s) v.event v.draws (length v.output)).used
  pub few_draws : m.used v.side v.event v.draws v.output s ≤ length v.draws

-- of words that keep the rules, from the wired side; how few draws the radio side reads, and when they suffice, is said apart (Sides)
abbrev pub EnoughLent : Type 0
EnoughLent = (xs : List ℕ) → state_ok xs ≡ true → (v : Call) → v.side ≡ wired → Suffices program unpack xs v

-- 02, S-12: "An event of at most 8 nodes that needs at most 64 draws .. the same answer from either side", at any words: code, words, draws used and every byte
abbrev pub SameFromEitherOfCalls : Type 0
SameFromEitherOfCalls =
    (xs b ds out : List ℕ) → get_or b 3 0 ≤ radio_nodes → draws_taken (unpack xs) b ds (length out) ≤ radio_draws
    → program_outcome radio b ds out xs ≡ program_outcome wired b ds out xs

-- 02, S-12: from the radio side at most 64 draws are used, at any words
abbrev pub FewDrawsUsedOfCalls : Type 0
FewDrawsUsedOfCalls = (xs b ds out : List ℕ) → (program_outcome radio b ds out xs).draws ≤ radio_draws

-- 02, S-12: where the first 64 draws are kept ones, an event of at most 8 nodes misses none and is answered as from the wired side, but a Quit of three neighbours or more
abbrev pub EnoughForRadioOfCalls : Type 0
EnoughForRadioOfCalls =
    (xs b ds out : List ℕ) → all_under 256 b ≡ true → get_or b 3 0 ≤ radio_nodes → radio_draws ≤ length ds → all_under sure_end (take radio_draws ds) ≡ true
    → (get_or b 0 0 ≡ kind_byte Quit → length (unpack xs).active ≤ 2)
    → ((program_outcome radio b ds out xs).code ≡ 5 → ⊥) × (program_outcome radio b ds out xs ≡ program_outcome wired b ds out xs)

-- "Code 1 belongs to `new` alone", whatever the words and the event are
abbrev pub NeverOne : Type 0
NeverOne = (xs : List ℕ) (v : Call) → code_of program v xs ≡ 1 → ⊥

-- 02, S-5: "Code 8 stays in the table and is proved never to occur after a new station"; at any words that keep the rules, and so after every list of calls
abbrev pub NeverEight : Type 0
NeverEight = (xs : List ℕ) → state_ok xs ≡ true → (v : Call) → code_of program v xs ≡ 8 → ⊥

abbrev pub NeverEightAfter : Type 0
NeverEightAfter = NeverEightOf program

-- 02, S-14: once pinned, a neighbour stays one but for its own Disconnect, its closed connection or a Quit
abbrev pub PinsStay : Type 0
PinsStay = PinsStayOf program unpack

-- at the station s a ForwardJoin that is neither answered nor dropped finds a neighbour other than its sender: the Rust's `unreachable!` is not reached
abbrev pub GoesOn : Station → Type 0
GoesOn s =
    (ds : List ℕ) (room from : ℕ) (n : Node) (ttl : ℕ) → ends_here n.id ttl s ≡ false
    → null (without from (learn_joiner n ttl (Handle.start s ds room)).station.active) ≡ false

-- of words that keep the rules
abbrev pub NeverUnreachable : Type 0
NeverUnreachable = (xs : List ℕ) → state_ok xs ≡ true → GoesOn (unpack xs)

-- of a machine: after every list of calls to a new station
abbrev pub GoesOnOf : {G S : Type 0} → Machine G S → (S → Station) → Type 0
GoesOnOf m station = AfterNew m (λ me c s. (vs : List Call) → GoesOn (station (state_after m vs s)))

-- and so of the program
abbrev pub NeverUnreachableAfter : Type 0
NeverUnreachableAfter = GoesOnOf program unpack

-- a refused `new` hands back "a state of zeroes", word by word
abbrev pub RefusedZeroes : Type 0
RefusedZeroes = (me : ℕ) (g : Lending) (c : Config) → program.new_code me g c ≡ 1 → program.new_state me g c ≡ replicate words 0

-- ---- the form that document 01 names: the state by value, `State::new` and `handle` with self

-- what `State::new` hands back
unfoldable pub made_state : ℕ → Bool → List ℕ → Config → by_value.MadeState
made_state me present own c =
    let m = pack_made (Handle.new me (lent present own) c) in
    record { code = m.code; state = record { words = m.words } }

abbrev pub value_program : Machine (Bool × List ℕ) State
value_program = record {
  own = λ g. lent g.0 g.1;
  new_code = λ me g c. (made_state me g.0 g.1 c).code;
  new_state = λ me g c. (made_state me g.0 g.1 c).state;
  code = λ side b ds out s. (program_outcome side b ds out s.words).code;
  state = λ side b ds out s. record { words = (program_outcome side b ds out s.words).words };
  used = λ side b ds out s. (program_outcome side b ds out s.words).draws;
  output = λ side b ds out s. (program_outcome side b ds out s.words).output;
}

abbrev pub unpack_state : State → Station
unpack_state s = unpack s.words

abbrev pub state_passes : State → Bool
state_passes s = state_ok s.words

-- the claims above on lists of calls
pub record ByValueHolds : Type 0 where
  pub demand_3 : Demand3Of value_program unpack_state state_passes
  pub rejoins : RejoinOf value_program unpack_state
  pub read_back : OutputsOf value_program
  pub counted : CountsOf value_program
  pub timed : TimedOf value_program
  pub never_eight : NeverEightOf value_program
  pub pins_stay : PinsStayOf value_program unpack_state
  pub goes_on : GoesOnOf value_program unpack_state
