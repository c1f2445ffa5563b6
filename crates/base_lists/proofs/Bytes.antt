-- Laws of numbers as bytes and of bytes stored into a list.
use Prim.Native.Nat.{ℕ, zero, suc, ◌+◌, ◌/◌, ◌%◌, ◌^◌, ◌≤◌}
use mathlib.Core.Path.{◌≡◌, refl, sym, ap, ◌∙◌}
use mathlib.Core.List.{List, [], ◌∷◌, ◌++◌}
use native.Mathlib.Nat.{add-zero, add-suc, suc-add, pow-suc, div-div-eq-div-mul}
use native.Mathlib.Omega.{arith}
use Rattle.std.specs.Int.{byte_at, bytes_low_first}
use lib.ListN.{length, set, take, drop, length-set}
use lib.Seq.{sets, sets-eq}
use Rattle.base_lists.specs.Bytes.{overwrite, le}

pub overwrite_append : (l : List ℕ) (i : ℕ) (xs ys : List ℕ) → overwrite (overwrite l i xs) (i + length xs) ys ≡ overwrite l i (xs ++ ys)
unfolding overwrite
overwrite_append l i [] ys = rw (add-zero i)
overwrite_append l i (x ∷ xs) ys = rw (add-suc i (length xs), ← suc-add i (length xs)) (overwrite_append (set l i x) (suc i) xs ys)

-- one more run of bytes, right after those that were stored
pub then : (l : List ℕ) (i : ℕ) (xs ys : List ℕ) {m n : List ℕ} {j : ℕ} → m ≡ overwrite l i xs → n ≡ overwrite m j ys → j ≡ i + length xs → n ≡ overwrite l i (xs ++ ys)
then l i xs ys p q e = q ∙ rw (p, e) (overwrite_append l i xs ys)

pub length_overwrite : (l : List ℕ) (i : ℕ) (bs : List ℕ) → length (overwrite l i bs) ≡ length l
unfolding overwrite
length_overwrite l i [] = refl
length_overwrite l i (b ∷ bs) = length_overwrite (set l i b) (suc i) bs ∙ length-set l i b

is_sets : (l : List ℕ) (i : ℕ) (bs : List ℕ) → overwrite l i bs ≡ sets l i bs
unfolding overwrite
is_sets l i [] = refl
is_sets l i (b ∷ bs) = is_sets (set l i b) (suc i) bs

-- where the bytes fit, they stand between what was before them and what was after them
pub overwrite_is : (l : List ℕ) (i : ℕ) (bs : List ℕ) → i + length bs ≤ length l → overwrite l i bs ≡ take i l ++ bs ++ drop (i + length bs) l
overwrite_is l i bs h = is_sets l i bs ∙ sets-eq bs l i h

pub length_le : (k x : ℕ) → length (le k x) ≡ k
unfolding le
length_le zero x = refl
length_le (suc k) x = ap suc (length_le k (x / 256))

-- ---- the bytes of the library's `to_le_bytes`

low_first : (k i x y : ℕ) → y ≡ x / 256 ^ i → bytes_low_first i k x ≡ le k y
unfolding le
low_first zero i x y e = refl
low_first (suc k) i x y e =
    let q : x / 256 ^ suc i ≡ y / 256 = ap (λ (p : ℕ). x / p) (pow-suc 256 i) ∙ sym (div-div-eq-div-mul x (256 ^ i) 256) ∙ ap (λ (z : ℕ). z / 256) (sym e) in
    λ j. (byte i x y e) j ∷ low_first k (suc i) x (y / 256) (sym q) j
  where
    byte : (i x y : ℕ) → y ≡ x / 256 ^ i → byte_at i x ≡ y % 256
    byte zero x y e = let q : x ≡ y = omega (arith, e) in ap (λ (z : ℕ). z % 256) q
    byte (suc i) x y e = ap (λ (z : ℕ). z % 256) (sym e)

pub low_bytes : (k x : ℕ) → bytes_low_first 0 k x ≡ le k x
low_bytes k x = low_first k 0 x x (omega arith)
