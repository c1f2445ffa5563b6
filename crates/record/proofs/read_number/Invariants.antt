-- The bytes from place i on are read, into a number that as many bytes hold.
use Prim.Native.Nat.{ℕ, ◌+◌, ◌-◌, ◌^◌, ◌≤◌, ◌<◌}
use mathlib.Core.Path.{◌≡◌}
use mathlib.Core.List.{List}
use Rattle.base_lists.specs.Bytes.{read_le}
use Rattle.record.proofs.read_number.Given as goal

pub record Inv (b : List ℕ) (at k r i : ℕ) : Type 0 where
  pub low : at ≤ i
  pub high : i ≤ at + k
  pub small : r < 256 ^ (at + k - i)
  pub same : r ≡ read_le (at + k - i) b i

abbrev pub invariant-loop-i : goal.invariant-loop-i
invariant-loop-i l = Inv l.b l.at l.k l.r l.i
