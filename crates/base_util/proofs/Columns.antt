-- Laws of a column of words alone, of any length.
-- Assumes nothing.
use Prim.Native.Nat.{ℕ, ◌+◌, ◌-◌, ◌≤◌, ◌<◌}
use mathlib.Core.Path.{◌≡◌, ap, ◌∙◌}
use mathlib.Core.List.{List}
use native.Mathlib.Omega.{arith}
use lib.ListN.{length, take, set}
use lib.Seq.{length-take-le}
use Rattle.std.specs.List.{CopiedTo, SameBelow, SameFrom}
use Rattle.base_lists.specs.Array.{pad}
use Rattle.base_lists.specs.Lists.{shift_remove, insert_at}
use Rattle.base_lists.proofs.Array.{length_pad}
use Rattle.base_lists.proofs.Entries.{taken_is}
use Rattle.base_lists.proofs.Remove.{removing_moved}
use Rattle.base_lists.proofs.Insert.{inserting_moved}
use Rattle.base_util.specs.Section.{Filled}

-- ---- what a column holds

pub filled_length : (s : List ℕ) (n : ℕ) → Filled s n → length (take n s) ≡ n
filled_length s n f = length-take-le n s f.fits

pub filled_of : (N : ℕ) (ys xs : List ℕ) (n : ℕ) → ys ≡ pad 0 N xs → n ≡ length xs → n ≤ N → Filled ys n
filled_of N ys xs n p q h =
    let l : length ys ≡ N = ap length p ∙ length_pad 0 N xs in
    let t : take n ys ≡ xs = taken_is 0 N xs ys n p q h in
    record { fits = omega arith; packed = rw (l, t) p }

-- ---- an item is taken out, and one is put in

module _ (s : List ℕ) (n i : ℕ) (t : List ℕ) (f : Filled s n) (l : length t ≡ length s) where
  pub taken_out : i < n → CopiedTo s t (i + 1) i (n - (i + 1)) → SameBelow s t i → SameFrom s t (i + (n - (i + 1))) → set t (n - 1) 0 ≡ pad 0 (length s) (shift_remove i (take n s))
  taken_out h a b c = removing_moved 0 (length s) n i s t (filled_length s n f) f.fits f.packed h a b c l

  pub put_in : (x : ℕ) → n < length s → i ≤ n → CopiedTo s t i (i + 1) (n - i) → SameBelow s t (i + 1) → SameFrom s t (i + 1 + (n - i)) → set t i x ≡ pad 0 (length s) (insert_at i x (take n s))
  put_in x r h a b c = inserting_moved 0 (length s) n i x s t (filled_length s n f) r f.packed h a b c l
