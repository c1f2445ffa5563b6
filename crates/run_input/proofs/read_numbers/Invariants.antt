-- The places passed hold the numbers that are wanted.
use Prim.Native.Nat.{ℕ}
use mathlib.Core.List.{List}
use lib.ListN.{length}
use Rattle.base_lists.proofs.Front.{Front}
use Rattle.run_input.specs.Input.{numbers}
use Rattle.run_input.proofs.read_numbers.Given as goal

abbrev pub Wanted : List ℕ → List ℕ → List ℕ → ℕ → Type 0
Wanted b to₀ to i = Front 0 (length to₀) (numbers (length to₀) 0 b) to₀ to i

abbrev pub invariant-loop-i : goal.invariant-loop-i
invariant-loop-i l = Wanted l.b l.initial.to l.to l.i
