-- What remains: the entries from i on, whose data stand from `at` on.
use Prim.Native.Nat.{ℕ, ◌+◌, ◌*◌, ◌≤◌}
use mathlib.Core.Path.{◌≡◌}
use mathlib.Core.List.{List}
use lib.ListN.{length}
use Rattle.record.specs.Format.{place_by}
use Rattle.record.specs.Forms.{form_width}
use Rattle.record.specs.Read.{header_of_by, entries_ok_by, well_formed_by}
use Rattle.record.proofs.well_formed.Given as goal

pub record Inv (w : ℕ) (b : List ℕ) (n at i : ℕ) : Type 0 where
  pub few : n ≤ 255
  pub room : place_by w n ≤ length b
  pub small : at ≤ 3092 + 255 * i
  pub same : (left : ℕ) → i + left ≡ n → well_formed_by w b ≡ entries_ok_by w (header_of_by w b) b i left at

abbrev pub invariant-loop-i : goal.invariant-loop-i
invariant-loop-i l = Inv (form_width l.form) l.b l.n l.at l.i
