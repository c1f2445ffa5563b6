-- What remains: the bytes of `rest` from place i on.
use Prim.Native.Nat.{ℕ, ◌+◌}
use mathlib.Core.Path.{◌≡◌}
use mathlib.Core.List.{List}
use Rattle.base_lists.specs.Bytes.{le, overwrite}
use Rattle.record_writer.proofs.put_number.Given as goal

pub record Inv (out₀ : List ℕ) (at x k : ℕ) (out : List ℕ) (rest i : ℕ) : Type 0 where
  pub same : (left : ℕ) → i + left ≡ at + k → overwrite out i (le left rest) ≡ overwrite out₀ at (le k x)

abbrev pub invariant-loop-i : goal.invariant-loop-i
invariant-loop-i l = Inv l.initial.out l.at l.x l.k l.out l.rest l.i
