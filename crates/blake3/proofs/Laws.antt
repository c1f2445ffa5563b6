-- Laws of the definition, which the proofs of the functions cite: each step as the code takes it.
-- Assumes nothing.
use Prim.Native.Nat.{ℕ, zero, suc, ◌+◌, ◌-◌, ◌*◌, ◌/◌, ◌%◌, ◌^◌, ◌≤◌, ◌<◌}
use mathlib.Core.Path.{◌≡◌, refl, sym, ap, ◌∙◌, subst}
use mathlib.Core.List.{List, [], ◌∷◌, ◌++◌}
use native.Mathlib.Nat.{mod-lt, add-mul, mul_assoc, add-sub_of_le, le_of_lt, add-zero, add_assoc}
use native.Mathlib.Omega.{arith}
use lib.Bits.{bit_or, bit_xor, or_shifted, xor_lt}
use lib.Pow.{pow-add, pow_pos, split, low, shl_lt, shr_lt}
use lib.Dec.{T, leb, lit≤}
use lib.ListN.{length, get_or, take, drop, replicate, length-drop}
use mir.Syntax.{w32}
use Rattle.std.specs.Int.{rotate_right}
use Rattle.std.proofs.lemmas.Nat.{or_comm}
use Rattle.base_lists.specs.Array.{pad}
use Rattle.base_lists.specs.Bytes.{le, read_le}
use Rattle.base_lists.proofs.Array.{getD_filled, spell, spelled}
use Rattle.base_lists.proofs.Numbers.{read_same}
use Rattle.blake3.specs.declared.Quad.{Quad}
use Rattle.blake3.specs.Blake3.{chunk_end, root, block_length, low_bits, rotate, half, message_words, quad_at, block_words, compress, blocks, chunk, bytes_of_words, quarters}

-- ---- words

-- the two shifts of a rotation have no bit in common
pub rotated : (x k : ℕ) → k < 32 → x < 2 ^ 32 → bit_or (x * 2 ^ (32 - k) % 2 ^ 32) (x / 2 ^ k) ≡ rotate k x
unfolding rotate
rotated x k h w =
    let j : ℕ = 32 - k in
    let e : k + j ≡ 32 = add-sub_of_le (le_of_lt h) in
    let f : j + k ≡ 32 = omega arith in
    let whole : 2 ^ k * 2 ^ j ≡ 2 ^ 32 = sym (pow-add 2 k j) ∙ ap (λ (n : ℕ). 2 ^ n) e in
    let parts : x * 2 ^ j ≡ x / 2 ^ k * 2 ^ 32 + x % 2 ^ k * 2 ^ j =
    ap (λ (n : ℕ). n * 2 ^ j) (sym (split x k)) ∙ add-mul (x / 2 ^ k * 2 ^ k) (x % 2 ^ k) (2 ^ j)
    ∙ ap (λ (n : ℕ). n + x % 2 ^ k * 2 ^ j) (mul_assoc (x / 2 ^ k) (2 ^ k) (2 ^ j) ∙ ap (λ (n : ℕ). x / 2 ^ k * n) whole) in
    let small : x % 2 ^ k * 2 ^ j < 2 ^ 32 = subst (λ (n : ℕ). x % 2 ^ k * 2 ^ j < 2 ^ n) e (shl_lt k j (mod-lt x (pow_pos k))) in
    ap (λ (n : ℕ). bit_or (n % 2 ^ 32) (x / 2 ^ k)) parts
    ∙ ap (λ (n : ℕ). bit_or n (x / 2 ^ k)) (low (x / 2 ^ k) 32 small)
    ∙ or_shifted (x % 2 ^ k) j (x / 2 ^ k) (shr_lt j k (subst (λ (n : ℕ). x < 2 ^ n) (sym f) w))

-- the library's rotation of a word
pub turned : (k x : ℕ) → 0 < k → k < 32 → x < 2 ^ 32 → rotate_right w32 x k ≡ rotate k x
turned k x g h w =
    let e : k % 32 ≡ k = omega arith in
    let f : (32 - k) % 32 ≡ 32 - k = omega arith in
    rw (e, f) (or_comm (x / 2 ^ k) (x * 2 ^ (32 - k) % 2 ^ 32) ∙ rotated x k h w)

-- a half of G, by its four words
pub halved : (j k x : ℕ) (q : Quad) (b d : ℕ) → (0 < j) × (j < 32) → (0 < k) × (k < 32) → q.b < 2 ^ 32 → q.d < 2 ^ 32
    → b ≡ rotate_right w32 (bit_xor q.b ((q.c + d) % 2 ^ 32)) k → d ≡ rotate_right w32 (bit_xor q.d (((q.a + q.b) % 2 ^ 32 + x) % 2 ^ 32)) j
    → ◌≡◌ {A = Quad} (record { a = ((q.a + q.b) % 2 ^ 32 + x) % 2 ^ 32; b = b; c = (q.c + d) % 2 ^ 32; d = d }) (half j k x q)
unfolding half
halved j k x q b d p r lb ld eb ed =
    let a' : ((q.a + q.b) % 2 ^ 32 + x) % 2 ^ 32 ≡ low_bits (q.a + q.b + x) = omega arith in
    let d' : d ≡ rotate j (bit_xor q.d (low_bits (q.a + q.b + x))) =
    ed ∙ turned j _ p.0 p.1 (xor_lt 32 q.d _ ld (omega arith)) ∙ ap (λ (n : ℕ). rotate j (bit_xor q.d n)) a' in
    let c' : (q.c + d) % 2 ^ 32 ≡ low_bits (q.c + rotate j (bit_xor q.d (low_bits (q.a + q.b + x)))) = ap (λ (n : ℕ). low_bits (q.c + n)) d' in
    let b' : b ≡ rotate k (bit_xor q.b (low_bits (q.c + rotate j (bit_xor q.d (low_bits (q.a + q.b + x)))))) =
    eb ∙ turned k _ r.0 r.1 (xor_lt 32 q.b _ lb (omega arith)) ∙ ap (λ (n : ℕ). rotate k (bit_xor q.b n)) c' in
    λ i. record { a = a' i; b = b' i; c = c' i; d = d' i }

-- ---- bytes

-- sixteen words by fours
abbrev pub from_rows : Quad → Quad → Quad → Quad → List ℕ
from_rows p q r s =
    p.a ∷ p.b ∷ p.c ∷ p.d
    ∷ q.a ∷ q.b ∷ q.c ∷ q.d
    ∷ r.a ∷ r.b ∷ r.c ∷ r.d
    ∷ s.a ∷ s.b ∷ s.c ∷ s.d
    ∷ []

pub by_fours : (l : List ℕ) (i : ℕ) → from_rows (quad_at l i) (quad_at l (i + 16)) (quad_at l (i + 32)) (quad_at l (i + 48)) ≡ message_words l i
unfolding message_words
by_fours l i = simp (add_assoc, add-zero)

-- the bytes stored before zeroes
zeroes : (k : ℕ) → replicate {A = ℕ} k 0 ≡ pad 0 k []
unfolding pad
zeroes zero = refl
zeroes (suc k) = ap (λ (l : List ℕ). 0 ∷ l) (zeroes k)

stored : (l : List ℕ) (k : ℕ) → length l ≤ k → l ++ drop (length l) (replicate {A = ℕ} k 0) ≡ pad 0 k l
unfolding pad
stored [] k h = zeroes k
stored (x ∷ l) zero h = absurd (omega (arith, h))
stored (x ∷ l) (suc k) h = ap (λ (r : List ℕ). x ∷ r) (stored l k (omega (arith, h)))

pub filled : (l xs : List ℕ) (n : ℕ) → length l ≤ n → xs ≡ l → xs ++ drop (length l) (replicate {A = ℕ} n 0) ≡ pad 0 n l
filled l xs n h e = ap (λ (ys : List ℕ). ys ++ drop (length l) (replicate {A = ℕ} n 0)) e ∙ stored l n h

-- the words of a block are those of its first bytes
pad_take : (k : ℕ) (l : List ℕ) → pad 0 k (take k l) ≡ pad 0 k l
unfolding pad
pad_take zero l = refl
pad_take (suc k) [] = refl
pad_take (suc k) (x ∷ l) = ap (λ (r : List ℕ). x ∷ r) (pad_take k l)

pub block_front : (l : List ℕ) → block_words (take block_length l) ≡ block_words l
unfolding block_words
block_front l = ap (λ (bs : List ℕ). message_words bs 0) (pad_take block_length l)

-- the words of a whole block
pub block_at : (l : List ℕ) → block_words l ≡ message_words l 0
unfolding block_words message_words
block_at l =
    let r : (i : ℕ) → T (leb (i + 4) block_length) → read_le 4 (pad 0 block_length l) (0 + i) ≡ read_le 4 l (0 + i) =
    λ i t. read_same 4 (pad 0 block_length l) l (0 + i) (0 + i) (λ n h. getD_filled 0 block_length l (0 + i + n) (omega (arith, lit≤ {m = i + 4} {n = block_length} t))) in
    λ j. r 0 tt j ∷ r 4 tt j ∷ r 8 tt j ∷ r 12 tt j ∷ r 16 tt j ∷ r 20 tt j ∷ r 24 tt j ∷ r 28 tt j
    ∷ r 32 tt j ∷ r 36 tt j ∷ r 40 tt j ∷ r 44 tt j ∷ r 48 tt j ∷ r 52 tt j ∷ r 56 tt j ∷ r 60 tt j ∷ []

-- two words are eight bytes
pub paired : (low high : ℕ) → low < 2 ^ 32 → high < 2 ^ 32 → low + 2 ^ 32 * high ≡ read_le 8 (bytes_of_words (low ∷ high ∷ [])) 0
unfolding read_le bytes_of_words le
paired low high p q = omega arith

-- eight words are four pairs
pub quartered : (h : List ℕ) (p q r s : ℕ) → length h ≡ 8
    → s ≡ read_le 8 (bytes_of_words (get_or h 6 0 ∷ get_or h 7 0 ∷ [])) 0
    → r ≡ read_le 8 (bytes_of_words (get_or h 4 0 ∷ get_or h 5 0 ∷ [])) 0
    → q ≡ read_le 8 (bytes_of_words (get_or h 2 0 ∷ get_or h 3 0 ∷ [])) 0
    → p ≡ read_le 8 (bytes_of_words (get_or h 0 0 ∷ get_or h 1 0 ∷ [])) 0
    → ◌≡◌ {A = List ℕ} (p ∷ q ∷ r ∷ s ∷ []) (quarters (bytes_of_words h))
unfolding quarters bytes_of_words le read_le spell
quartered h p q r s e es er eq ep =
    ◌∙◌ {b = quarters (bytes_of_words (spell 0 8 0 h))} (λ i. ep i ∷ eq i ∷ er i ∷ es i ∷ []) (ap (λ (l : List ℕ). quarters (bytes_of_words l)) (spelled 0 8 h e))

-- ---- the blocks of a chunk

module _ (cv : List ℕ) (start : ℕ) (b : List ℕ) where
  pub chunk_last : length b ≤ block_length → chunk cv start b ≡ compress cv (block_words b) (length b) (start + chunk_end + root)
  unfolding chunk blocks
  chunk_last h = let e : (length b - 1) / block_length ≡ 0 = omega arith in ap (λ (k : ℕ). blocks k cv start b) e

  pub chunk_more : block_length < length b → chunk cv start b ≡ chunk (compress cv (block_words b) block_length start) 0 (drop block_length b)
  unfolding chunk blocks
  chunk_more h =
      let e : (length b - 1) / block_length ≡ suc ((length (drop block_length b) - 1) / block_length) = omega (arith, length-drop block_length b) in
      ap (λ (k : ℕ). blocks k cv start b) e
