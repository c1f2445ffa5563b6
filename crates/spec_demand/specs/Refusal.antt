-- Document 01, demand 1: "A refused call has its code, the old state, an output of zero bytes only, and 0 draws used."
-- Assumes nothing.
use Rattle.std.specs.Prelude.{◌≡◌, length, replicate}
use Rattle.spec_history.specs.Calls.{Call, Machine, code_of, state_of, output_of}
use Rattle.spec_demand.specs.Program.{program, value_program}

-- what a call to a machine that is not accepted leaves of the state s and the output that it was lent
pub record LeftAsLent {G S : Type 0} (m : Machine G S) (s : S) (v : Call) : Type 0 where
  pub same_state : state_of m v s ≡ s
  pub zeroes : output_of m v s ≡ replicate (length v.output) 0
  pub no_draws : m.used v.side v.event v.draws v.output s ≡ 0

-- of every call at every state, whether it keeps the rules or not
abbrev pub RefusalsOf : {G S : Type 0} → Machine G S → Type 0
RefusalsOf {S = S} m = (s : S) (v : Call) → (code_of m v s ≡ 0 → ⊥) → LeftAsLent m s v

-- of the program: the very words, as many as there are
abbrev pub RefusalsKept : Type 0
RefusalsKept = RefusalsOf program

-- the same of the form by value
abbrev pub RefusalsKeptByValue : Type 0
RefusalsKeptByValue = RefusalsOf value_program
