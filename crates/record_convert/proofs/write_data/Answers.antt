-- What is lent from the place of the data on is the rest of the record, and it is written at the other form's place.
use Prim.Native.Nat.{ℕ, ◌-◌}
use mathlib.Core.Path.{◌≡◌, ap, ◌∙◌}
use mathlib.Core.List.{List}
use native.Mathlib.Omega.{arith}
use lib.ListN.{length, take, drop, length-drop}
use lib.Seq.{take_all}
use Rattle.base_lists.specs.Bytes.{overwrite}
use Rattle.record.specs.Format.{place_by}
use Rattle.record_convert.proofs.write_data.Goals as goal

behind : (v w n : ℕ) (b out o : List ℕ) (p q : ℕ) → p ≡ place_by v n → q ≡ place_by w n → o ≡ overwrite out q (take (length b - p) (drop p b)) → o ≡ overwrite out (place_by w n) (drop (place_by v n) b)
behind v w n b out o p q e f s = s ∙ rw (f, e) (ap (overwrite out (place_by w n)) (take_all (length b - place_by v n) (drop (place_by v n) b) (simp length-drop (omega arith))))

pub returns : goal.returns
returns c = behind _ _ _ _ _ _ _ _ c.place-data.ensures.0 c.place.ensures.0 c.write_bytes.ensures
