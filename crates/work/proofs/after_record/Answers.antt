-- By cases on what the writer answered: the place reached, or the code of a full output.
use Prim.Native.Nat.{ℕ}
use mathlib.Core.Path.{◌≡◌}
use Rattle.std.specs.Prelude.{Option, Some, None}
use Rattle.work.specs.declared.Work.{Work}
use Rattle.work.specs.Work.{after_record}
use Rattle.work.proofs.after_record.Goals as goal

reached : (w : Work) (a : Option ℕ) (n : ℕ) → a ≡ Some n → record { drawn = w.drawn; written = n; code = w.code } ≡ after_record a w
unfolding after_record
reached w a n e = rw e

refused : (w : Work) (a : Option ℕ) (c : ℕ) → a ≡ None → c ≡ 9 → record { drawn = w.drawn; written = w.written; code = c } ≡ after_record a w
unfolding after_record
refused w a c e q = rw (e, q)

pub returns-in-Some : goal.returns-in-Some
returns-in-Some c = search reached

pub returns-in-None : goal.returns-in-None
returns-in-None c = search refused
