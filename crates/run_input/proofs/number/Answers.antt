-- By cases on whether the bytes have an i-th number: it is read there, and otherwise it is 0.
use Prim.Native.Nat.{ℕ, ◌*◌, ◌/◌, ◌≤◌, ◌<◌}
use mathlib.Core.Path.{◌≡◌, sym, ◌∙◌}
use mathlib.Core.List.{List}
use lib.ListN.{length}
use Rattle.base_lists.specs.Bytes.{read_le}
use Rattle.run_input.specs.Input.{number}
use Rattle.run_input.proofs.Laws.{number_read, number_none}
use Rattle.run_input.proofs.number.Goals as goal

there : (b : List ℕ) (i r : ℕ) → i < length b / 4 → r ≡ read_le 4 b (4 * i) → r ≡ number b i
there b i r h e = e ∙ sym (number_read b i h)

none : (b : List ℕ) (i : ℕ) → length b / 4 ≤ i → 0 ≡ number b i
none b i h = sym (number_none b i h)

pub returns-then-i-b : goal.returns-then-i-b
returns-then-i-b c = there _ _ _ c.if-i-b.true c.read_number.ensures.0

pub returns : goal.returns
returns c = search none
