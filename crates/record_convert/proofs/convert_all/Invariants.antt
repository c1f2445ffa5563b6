-- What remains: the records from place `taken` on, into the room from place `written` on. The measure is the bytes that are left.
use Prim.Native.Nat.{ℕ, ◌-◌, ◌≤◌}
use mathlib.Core.Path.{◌≡◌}
use mathlib.Core.List.{List}
use lib.ListN.{length}
use Rattle.record.specs.Forms.{form_width}
use Rattle.record_convert.proofs.Walk.{Walking}
use Rattle.record_convert.proofs.convert_all.Given as goal

pub record Inv (v w : ℕ) (b : List ℕ) (room : ℕ) (out : List ℕ) (from to : ℕ) : Type 0 where
  pub low : from ≤ length b
  pub top : to ≤ room
  pub len : length out ≡ room
  pub at : Walking v w b room out from to

abbrev pub invariant-loop-taken : goal.invariant-loop-taken
invariant-loop-taken l = Inv (form_width l.from) (form_width l.to) l.b (length l.initial.out) l.out l.taken l.written

abbrev pub decreases-loop-taken : goal.decreases-loop-taken
decreases-loop-taken l = length l.b - l.taken
