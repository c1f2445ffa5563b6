-- Laws of numbers as bytes, read from a list and written anew.
-- Assumes nothing.
use Prim.Native.Nat.{ℕ, zero, suc, ◌+◌, ◌*◌, ◌/◌, ◌%◌, ◌^◌, ◌≤◌, ◌<◌}
use mathlib.Core.Path.{◌≡◌, refl, sym, ap, ◌∙◌}
use mathlib.Core.List.{List, [], ◌∷◌, ◌++◌, append_assoc}
use native.Mathlib.Nat.{add-zero, add-suc, suc-add, mod-add-div, div-lt_iff_lt-mul, pow-suc}
use native.Mathlib.Omega.{arith}
use lib.ListN.{length, get_or, length-append}
use lib.Seq.{slice, slice_empty, slice-cons, get_or-append-add}
use Rattle.base_lists.specs.Bytes.{le, read_le}
use Rattle.base_lists.proofs.Slices.{slice_append}

-- every element is a byte
abbrev pub Bytes : List ℕ → Type 0
Bytes l = (k : ℕ) → get_or l k 0 < 256

pub bytes_append : (xs ys : List ℕ) → Bytes xs → Bytes ys → Bytes (xs ++ ys)
bytes_append [] ys p q k = q k
bytes_append (x ∷ xs) ys p q zero = p 0
bytes_append (x ∷ xs) ys p q (suc k) = bytes_append xs ys (λ j. p (suc j)) q k

pub bytes_le : (n x : ℕ) → Bytes (le n x)
unfolding le
bytes_le zero x k = omega arith
bytes_le (suc n) x zero = omega arith
bytes_le (suc n) x (suc k) = bytes_le n (x / 256) k

-- a number that is read where two lists have the same bytes
pub read_same : (k : ℕ) (l m : List ℕ) (i j : ℕ) → ((n : ℕ) → n < k → get_or l (i + n) 0 ≡ get_or m (j + n) 0) → read_le k l i ≡ read_le k m j
unfolding read_le
read_same zero l m i j h = refl
read_same (suc k) l m i j h =
    let first : get_or l i 0 ≡ get_or m j 0 = simp add-zero at (h 0 (omega arith)) in
    let rest : read_le k l (suc i) ≡ read_le k m (suc j) = read_same k l m (suc i) (suc j) (λ n p. simp (suc-add, ← add-suc) (h (suc n) (omega arith))) in
    rw (first, rest)

-- a number that stands after xs
pub read_after : (k : ℕ) (xs l : List ℕ) (j i : ℕ) → j ≡ length xs + i → read_le k (xs ++ l) j ≡ read_le k l i
unfolding read_le
read_after zero xs l j i e = refl
read_after (suc k) xs l j i e =
    let g : get_or (xs ++ l) j 0 ≡ get_or l i 0 = rw e (get_or-append-add xs l i 0) in
    rw (g, read_after k xs l (suc j) (suc i) (rw e (sym (add-suc (length xs) i))))

-- k bytes hold a number below 256 ^ k
pub read_below : (k : ℕ) (l : List ℕ) (i : ℕ) → Bytes l → read_le k l i < 256 ^ k
unfolding read_le
read_below zero l i h = omega arith
read_below (suc k) l i h = rw pow-suc (omega (arith, h i, read_below k l (suc i) h))

-- a number that was read is written as the bytes that stood there
pub le_read : (k : ℕ) (l : List ℕ) (i : ℕ) → Bytes l → i + k ≤ length l → le k (read_le k l i) ≡ slice i (i + k) l
unfolding le read_le
le_read zero l i h w = rw (add-zero i) (sym (slice_empty i l))
le_read (suc k) l i h w =
    let r : ℕ = read_le k l (suc i) in
    let low : (get_or l i 0 + 256 * r) % 256 ≡ get_or l i 0 = omega (arith, h i) in
    let high : (get_or l i 0 + 256 * r) / 256 ≡ r = omega (arith, h i) in
    let rest : le k r ≡ slice (suc i) (suc i + k) l = le_read k l (suc i) h (omega arith) in
    let e : suc i + k ≡ i + suc k = omega arith in
    rw (low, high, rest, e) (sym (slice-cons i (i + suc k) l 0 (omega arith) w))

-- the same with what stands after it
pub le_read_then : (k : ℕ) (l : List ℕ) (i t : ℕ) → Bytes l → i + k ≤ t → t ≤ length l → le k (read_le k l i) ++ slice (i + k) t l ≡ slice i t l
le_read_then k l i t h w q = rw (le_read k l i h (omega arith)) (slice_append i (i + k) t l (omega arith) w q)

-- ---- what stands in b from place j on

pub record From (b : List ℕ) (j : ℕ) (rest : List ℕ) : Type 0 where
  pub pre : List ℕ
  pub is : b ≡ pre ++ rest
  pub long : length pre ≡ j

written_first : (k x : ℕ) (rest : List ℕ) → x < 256 ^ k → read_le k (le k x ++ rest) 0 ≡ x
unfolding read_le le
written_first zero x rest h = omega (arith, h)
written_first (suc k) x rest h =
    let r : read_le k (x % 256 ∷ (le k (x / 256) ++ rest)) 1 ≡ x / 256 =
    read_after k (x % 256 ∷ []) (le k (x / 256) ++ rest) 1 0 refl ∙ written_first k (x / 256) rest ((div-lt_iff_lt-mul (omega arith)).1 (rw pow-suc at h)) in
    rw r (mod-add-div x 256)

module _ {b : List ℕ} {j : ℕ} where
  pub past : (xs rest : List ℕ) (k : ℕ) → k ≡ j + length xs → From b j (xs ++ rest) → From b k rest
  past xs rest k e f = record {
    pre = f.pre ++ xs;
    is = f.is ∙ sym (append_assoc f.pre xs rest);
    long = omega (arith, length-append f.pre xs, f.long, e);
  }

  -- a byte, and a number that was written, where they stand
  pub byte_from : (x : ℕ) (rest : List ℕ) → From b j (x ∷ rest) → get_or b j 0 ≡ x
  byte_from x rest f =
      let e : j ≡ length f.pre + 0 = omega (arith, f.long) in
      rw (f.is, e) (get_or-append-add f.pre (x ∷ rest) 0 0)

  pub number_from : (k x : ℕ) (rest : List ℕ) → x < 256 ^ k → From b j (le k x ++ rest) → read_le k b j ≡ x
  number_from k x rest h f =
      ap (λ (l : List ℕ). read_le k l j) f.is ∙ read_after k f.pre (le k x ++ rest) j 0 (omega (arith, f.long)) ∙ written_first k x rest h
