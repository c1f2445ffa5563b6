-- A hash as 32 bytes and as four numbers: equal numbers are equal bytes, since the numbers written one after the other are the bytes again.
-- Assumes nothing.
use Prim.Native.Nat.{ℕ, zero, suc, ◌-◌, ◌*◌, ◌/◌}
use mathlib.Core.Path.{◌≡◌, refl, sym, ap, ◌∙◌}
use mathlib.Core.Bool.{Bool, false, ◌&&◌}
use mathlib.Core.List.{List, [], ◌∷◌, ◌++◌}
use native.Mathlib.Omega.{arith}
use lib.Dec.{eqb}
use lib.ListN.{length, get_or, length-append}
use lib.Pointwise.{pointwise}
use lib.Seq.{slice}
use Rattle.base_lists.specs.Bytes.{le, read_le}
use Rattle.base_lists.specs.Lists.{same}
use Rattle.base_lists.proofs.Bytes.{length_le}
use Rattle.base_lists.proofs.Numbers.{Bytes, bytes_append, bytes_le, le_read, le_read_then}
use Rattle.base_lists.proofs.Sets.{same_alike, same_no}
use Rattle.base_lists.proofs.Slices.{slice_whole}
use Rattle.blake3.specs.Blake3.{iv, chunk_start, block_length, out_length, compress, blocks, chunk, bytes_of_words, hash, quarters}

-- ---- the hash is 32 bytes

length_blocks : (k : ℕ) (cv : List ℕ) (start : ℕ) (b : List ℕ) → length (blocks k cv start b) ≡ 8
unfolding blocks compress
length_blocks zero cv start b = refl
length_blocks (suc k) cv start b = length_blocks k _ 0 _

length_words : (ws : List ℕ) → length (bytes_of_words ws) ≡ 4 * length ws
unfolding bytes_of_words
length_words [] = refl
length_words (w ∷ ws) = omega (arith, length-append (le 4 w) (bytes_of_words ws), length_le 4 w, length_words ws)

pub hash_length : (b : List ℕ) → length (hash b) ≡ out_length
unfolding hash chunk
hash_length b = omega (arith, length_words (chunk iv chunk_start b), length_blocks ((length b - 1) / block_length) iv chunk_start b)

bytes_words : (ws : List ℕ) → Bytes (bytes_of_words ws)
unfolding bytes_of_words
bytes_words [] k = omega arith
bytes_words (w ∷ ws) k = bytes_append (le 4 w) (bytes_of_words ws) (bytes_le 4 w) (bytes_words ws) k

pub hash_bytes : (b : List ℕ) → Bytes (hash b)
unfolding hash
hash_bytes b = bytes_words (chunk iv chunk_start b)

-- ---- four numbers and 32 bytes

joined : List ℕ → List ℕ
joined q = le 8 (get_or q 0 0) ++ (le 8 (get_or q 1 0) ++ (le 8 (get_or q 2 0) ++ le 8 (get_or q 3 0)))

rejoined : (l : List ℕ) → Bytes l → length l ≡ out_length → joined (quarters l) ≡ l
unfolding joined quarters
rejoined l h w =
    let d : le 8 (read_le 8 l 24) ≡ slice 24 32 l = le_read 8 l 24 h (omega (arith, w)) in
    let c : le 8 (read_le 8 l 16) ++ slice 24 32 l ≡ slice 16 32 l = le_read_then 8 l 16 32 h (omega arith) (omega (arith, w)) in
    let b : le 8 (read_le 8 l 8) ++ slice 16 32 l ≡ slice 8 32 l = le_read_then 8 l 8 32 h (omega arith) (omega (arith, w)) in
    let a : le 8 (read_le 8 l 0) ++ slice 8 32 l ≡ slice 0 32 l = le_read_then 8 l 0 32 h (omega arith) (omega (arith, w)) in
    rw (d, c, b) (a ∙ ap (λ (k : ℕ). slice 0 k l) (sym w) ∙ slice_whole l)

-- the library's `==` of arrays
pub pointwise_same : (a b : List ℕ) → pointwise eqb a b ≡ same a b
unfolding same
pointwise_same [] [] = refl
pointwise_same [] (y ∷ b) = refl
pointwise_same (x ∷ a) [] = refl
pointwise_same (x ∷ a) (y ∷ b) = ap (λ (t : Bool). eqb x y && t) (pointwise_same a b)

module _ (l b : List ℕ) where
  -- equal numbers, equal bytes
  pub same_hash : Bytes l → length l ≡ out_length → quarters l ≡ quarters (hash b) → l ≡ hash b
  same_hash h w e = sym (rejoined l h w) ∙ ap joined e ∙ rejoined (hash b) (hash_bytes b) (hash_length b)

  -- one test for both
  pub same_tests : Bytes l → length l ≡ out_length → same (quarters l) (quarters (hash b)) ≡ same l (hash b)
  same_tests h w = same_alike _ _ _ _ (same_hash h w) (λ e. ap quarters e)

  -- bytes of another length are no hash
  pub other_length : (length l ≡ out_length → ⊥) → same l (hash b) ≡ false
  other_length h = same_no l (hash b) (λ e. h (ap (λ (t : List ℕ). length t) e ∙ hash_length b))
