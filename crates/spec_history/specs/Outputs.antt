-- What is claimed of the output of every accepted call: it is records, and each of them is read back.
-- Assumes nothing.
use Rattle.std.specs.Prelude.{ℕ, true, List, [], ◌∷◌, map, ◌≡◌, take}
use Rattle.std.proofs.Math.Option.{some}
use Rattle.record.specs.Format.{encode}
use Rattle.record.specs.Read.{decode}
use Rattle.record.specs.Walk.{whole_length, records_in}
use Rattle.spec_hyparview.specs.Written.{WrittenOut}
use Rattle.spec_history.specs.Calls.{Call, narrow_draws, Machine, AfterNew, code_of, state_of, output_of, definition}

-- the records of an output, each without the bytes behind it
unfoldable pub cut_records : List ℕ → List (List ℕ)
cut_records out = map (λ b. take (whole_length b) b) (records_in out)

-- records in form and zeroes; cut by whole lengths, the output is these records and no others; and the reader reads each of them back
pub record ReadsBack (out : List ℕ) : Type 0 where
  pub written : WrittenOut out
  pub parts : cut_records out ≡ map encode written.records
  pub read : map decode (cut_records out) ≡ map some written.records

-- of every accepted one of the calls to a machine
unfoldable pub OutputsRead : {G S : Type 0} → Machine G S → List Call → S → Type 0
OutputsRead m [] s = Unit {0}
OutputsRead m (v ∷ vs) s = (code_of m v s ≡ 0 → ReadsBack (output_of m v s)) × OutputsRead m vs (state_of m v s)

-- of every list of calls to a new station; draws have 32 bits by their type
abbrev pub OutputsOf : {G S : Type 0} → Machine G S → Type 0
OutputsOf m = AfterNew m (λ me c s. (vs : List Call) → narrow_draws vs ≡ true → OutputsRead m vs s)

-- of the definition
abbrev pub OutputsReadBack : Type 0
OutputsReadBack = OutputsOf definition
