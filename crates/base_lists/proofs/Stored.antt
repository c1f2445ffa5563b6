-- Laws of bytes that were stored into a list, where they fit.
-- Assumes nothing.
use Prim.Native.Nat.{ℕ, ◌+◌, ◌≤◌}
use mathlib.Core.Path.{◌≡◌, ap, ◌∙◌}
use mathlib.Core.List.{List, ◌++◌, append_assoc}
use native.Mathlib.Omega.{arith}
use lib.ListN.{length, take, drop, length-append}
use lib.Seq.{slice, length-take-le, take_at}
use Rattle.base_lists.specs.Bytes.{overwrite}
use Rattle.base_lists.proofs.Bytes.{overwrite_is}
use Rattle.base_lists.proofs.Slices.{slice_mid}

module _ (l : List ℕ) (i : ℕ) (bs : List ℕ) (h : i + length bs ≤ length l) where
  front : length (take i l) ≡ i
  front = length-take-le i l (omega arith)

  -- what stands up to the end of the stored bytes
  pub take_stored : take (i + length bs) (overwrite l i bs) ≡ take i l ++ bs
  take_stored =
      rw (overwrite_is l i bs h)
      (take_at (take i l ++ bs) (drop (i + length bs) l) (i + length bs) (length-append (take i l) bs ∙ ap (λ (k : ℕ). k + length bs) front))

  -- the stored bytes themselves
  pub slice_stored : slice i (i + length bs) (overwrite l i bs) ≡ bs
  slice_stored =
      rw (overwrite_is l i bs h, append_assoc (take i l) bs (drop (i + length bs) l)) (slice_mid (take i l) bs (drop (i + length bs) l) i front)
