-- Document 02, S-2: the records of kind 12 tell whom the events evicted, in order, and nobody else; of one call, and of every list of calls.
-- Assumes nothing.
use Rattle.std.specs.Prelude.{ℕ, ◌≡◌, true, List, [], ◌∷◌, ◌++◌, map, length, eqb}
use Rattle.std.proofs.Math.Option.{Option, none, some}
use Rattle.base_lists.specs.Lists.{choose}
use Rattle.record.specs.Format.{Rec}
use Rattle.record.specs.Read.{rec_of, decode}
use Rattle.spec_hyparview.specs.Station.{Station, draws_end}
use Rattle.spec_hyparview.specs.Rules.{all_under}
use Rattle.spec_hyparview.specs.Evictions.{evictions, named, Names}
use Rattle.spec_hyparview.specs.Handle.{start}
use Rattle.spec_hyparview.specs.Sides.{draws_from}
use Rattle.spec_history.specs.Calls.{Call, narrow_draws, Machine, code_of, state_of, output_of}
use Rattle.spec_history.specs.Outputs.{cut_records}
use Rattle.hyparview_state.specs.Unpack.{unpack}
use Rattle.spec_demand.specs.Program.{program, value_program, unpack_state}

-- whom the event of a call evicts, at the state s that stands for a station
abbrev pub evicted_in : {S : Type 0} → (S → Station) → Call → S → List ℕ
evicted_in station v s = evictions (rec_of v.event) (start (station s) (draws_from v.side v.draws) (length v.output))

-- of one accepted call at any state: its output names exactly these
abbrev pub NamesEvictedOf : {G S : Type 0} → Machine G S → (S → Station) → Type 0
NamesEvictedOf {S = S} m station =
    (s : S) (v : Call) → all_under draws_end v.draws ≡ true → code_of m v s ≡ 0 → Names (evicted_in station v s) (output_of m v s)

-- the records that the reader read
unfoldable pub those_read : List (Option Rec) → List Rec
those_read [] = []
those_read (none ∷ es) = those_read es
those_read (some e ∷ es) = e ∷ those_read es

-- whom the records of kind 12 of an output name, as a panel reads them
unfoldable pub told : List ℕ → List ℕ
told out = named (those_read (map decode (cut_records out)))

-- of all outputs of a list of calls, accepted or refused, in order
unfoldable pub told_after : {G S : Type 0} → Machine G S → List Call → S → List ℕ
told_after m [] s = []
told_after m (v ∷ vs) s = told (output_of m v s) ++ told_after m vs (state_of m v s)

-- and whom the accepted ones evicted
unfoldable pub evicted_after : {G S : Type 0} → Machine G S → (S → Station) → List Call → S → List ℕ
evicted_after m station [] s = []
evicted_after m station (v ∷ vs) s = choose (eqb (code_of m v s) 0) (evicted_in station v s) [] ++ evicted_after m station vs (state_of m v s)

-- of every list of calls from any state, and so from a new station; draws have 32 bits by their type
abbrev pub EvictionsToldOf : {G S : Type 0} → Machine G S → (S → Station) → Type 0
EvictionsToldOf {S = S} m station =
    (vs : List Call) (s : S) → narrow_draws vs ≡ true → told_after m vs s ≡ evicted_after m station vs s

-- of the program
abbrev pub NamesEvicted : Type 0
NamesEvicted = NamesEvictedOf program unpack

abbrev pub EvictionsTold : Type 0
EvictionsTold = EvictionsToldOf program unpack

-- the same of the form by value
abbrev pub NamesEvictedByValue : Type 0
NamesEvictedByValue = NamesEvictedOf value_program unpack_state

abbrev pub EvictionsToldByValue : Type 0
EvictionsToldByValue = EvictionsToldOf value_program unpack_state
