-- The bytes before, those lent and those after are what `overwrite` makes.
use Prim.Native.Nat.{ℕ, ◌+◌, ◌-◌, ◌≤◌}
use mathlib.Core.Path.{◌≡◌, sym, ◌∙◌}
use mathlib.Core.List.{List, append_assoc}
use native.Mathlib.Omega.{arith}
use borrow.Rule.Slice.PartMut.{put_mid}
use lib.ListN.{length, take, drop}
use Rattle.std.proofs.lemmas.List.{drop-drop}
use Rattle.base_lists.specs.Bytes.{overwrite}
use Rattle.base_lists.proofs.Bytes.{overwrite_is}
use Rattle.record_writer.proofs.write_bytes.Goals as goal

put : (out bs b : List ℕ) (at : ℕ) → at + length bs ≤ length out → b ≡ bs → put_mid at (at + length bs - at) out b ≡ overwrite out at bs
put out bs b at h e = let k : at + length bs - at ≡ length bs = omega arith in rw (k, e, drop-drop) (sym (overwrite_is out at bs h ∙ append_assoc (take at out) bs (drop (at + length bs) out)))

pub returns : goal.returns
returns c = put _ _ _ _ c.requires c.copy_from_slice.ensures.after
