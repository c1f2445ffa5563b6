-- By cases of the record's kind: a message is counted, and any other record leaves the tally as it was.
use Prim.Native.Nat.{ℕ}
use mathlib.Core.Path.{◌≡◌}
use borrow.Author.Tests.{eq-eqb, ne_eqb}
use Rattle.base_lists.specs.Lists.{choose}
use Rattle.tally.specs.declared.Tally.{Tally}
use Rattle.tally.specs.Counts.{raise_one, enter}
use Rattle.tally.proofs.enter.Goals as goal

message : (k m : ℕ) (t r : Tally) → r ≡ raise_one m t → k ≡ 0 → r ≡ enter k m t
unfolding enter choose
message k m t r e h = rw (eq-eqb k 0 h) e

other : (k m : ℕ) (t : Tally) → (k ≡ 0 → ⊥) → t ≡ enter k m t
unfolding enter choose
other k m t h = rw (ne_eqb k 0 h)

pub returns-then-h-eq-MESSAGE : goal.returns-then-h-eq-MESSAGE
returns-then-h-eq-MESSAGE c = search message

pub returns : goal.returns
returns c = search other
