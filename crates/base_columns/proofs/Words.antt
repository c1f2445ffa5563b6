-- 16 bytes and two words of 64 bits stand for each other.
-- Assumes nothing.
use Prim.Native.Nat.{ℕ, zero, suc, ◌+◌, ◌*◌, ◌/◌, ◌%◌, ◌^◌, ◌≤◌, ◌<◌}
use mathlib.Core.Path.{◌≡◌, refl, sym, ap, ◌∙◌}
use mathlib.Core.List.{List, [], ◌∷◌, ◌++◌, append-nil}
use native.Mathlib.Nat.{mod-add-div, div-lt_iff_lt-mul, pow-suc}
use native.Mathlib.Omega.{arith}
use native.Mathlib.Decide.{dec_lt}
use mir.Syntax.{w8, w64}
use mir.Val.{Fits}
use lib.ListN.{length, get_or, take, drop, length-append, length-take, length-drop, take-append-drop, get_or-eq_default}
use lib.Seq.{drop-cons, drop_at, take_at, take_all, length-take-le, get_or-take, get_or-drop, get_or-append_seam, append_snoc}
use borrow.Rule.Slice.PartMut.{put_mid}
use Rattle.std.specs.Int.{from_le_bytes, to_le_bytes}
use Rattle.std.proofs.lemmas.Nat.{le_bytes_8}
use Rattle.base_lists.specs.Bytes.{le, read_le}
use Rattle.base_lists.proofs.Bytes.{length_le, low_bytes}
use Rattle.base_columns.specs.Columns.{words_end, word_bytes}

-- ---- a byte more

pub le_more : (k a y : ℕ) → a < 256 → le (suc k) (a + 256 * y) ≡ a ∷ le k y
unfolding le
le_more k a y h =
    let p : (a + 256 * y) % 256 ≡ a = omega arith in
    let q : (a + 256 * y) / 256 ≡ y = omega arith in
    λ i. p i ∷ le k (q i)

-- ---- from bytes to words and back

le_none : (x : ℕ) → le 0 x ≡ []
unfolding le
le_none x = refl

pub le_read : (k : ℕ) (b : List ℕ) (i : ℕ) → i + k ≤ length b → ((j : ℕ) → get_or b j 0 < 256) → le k (read_le k b i) ≡ take k (drop i b)
unfolding read_le
le_read zero b i h f = le_none (read_le zero b i)
le_read (suc k) b i h f =
    le_more k (get_or b i 0) (read_le k b (suc i)) (f i) ∙ ap (λ (l : List ℕ). get_or b i 0 ∷ l) (le_read k b (suc i) (omega arith) f)
    ∙ sym (ap (take (suc k)) (drop-cons b i 0 (omega arith)))

pub bytes_words : (b : List ℕ) → length b ≡ 16 → ((j : ℕ) → get_or b j 0 < 256) → word_bytes (read_le 8 b 0) (read_le 8 b 8) ≡ b
unfolding word_bytes
bytes_words b l f =
    let r : take 8 (drop 8 b) ≡ drop 8 b = take_all 8 (drop 8 b) (omega (arith, length-drop 8 b)) in
    (λ i. le_read 8 b 0 (omega arith) f i ++ (le_read 8 b 8 (omega arith) f ∙ r) i) ∙ take-append-drop 8 b

-- ---- from words to bytes and back

pub read_word : (k x : ℕ) (p r : List ℕ) (i : ℕ) → i ≡ length p → x < 256 ^ k → read_le k (p ++ (le k x ++ r)) i ≡ x
unfolding read_le le
read_word zero x p r i e h = omega (arith, h)
read_word (suc k) x p r i e h =
    let a : get_or (p ++ (x % 256 ∷ (le k (x / 256) ++ r))) i 0 ≡ x % 256 = ap (λ (j : ℕ). get_or (p ++ (x % 256 ∷ (le k (x / 256) ++ r))) j 0) e ∙ get_or-append_seam p (x % 256) (le k (x / 256) ++ r) 0 in
    let q : p ++ (x % 256 ∷ (le k (x / 256) ++ r)) ≡ (p ++ (x % 256 ∷ [])) ++ (le k (x / 256) ++ r) = sym (append_snoc p (x % 256) (le k (x / 256) ++ r)) in
    let b : read_le k (p ++ (x % 256 ∷ (le k (x / 256) ++ r))) (suc i) ≡ x / 256 =
    ap (λ (l : List ℕ). read_le k l (suc i)) q
    ∙ read_word k (x / 256) (p ++ (x % 256 ∷ [])) r (suc i) (omega (arith, length-append p (x % 256 ∷ []))) ((div-lt_iff_lt-mul (omega arith)).1 (rw pow-suc at h)) in
    rw (a, b) (mod-add-div x 256)

module _ (w x : ℕ) (h : w < words_end) (k : x < words_end) where
  pub word_low : read_le 8 (word_bytes w x) 0 ≡ w
  unfolding word_bytes
  word_low = read_word 8 w [] (le 8 x) 0 refl h

  pub word_high : read_le 8 (word_bytes w x) 8 ≡ x
  unfolding word_bytes
  word_high = ap (λ (l : List ℕ). read_le 8 (le 8 w ++ l) 8) (sym (append-nil (le 8 x))) ∙ read_word 8 x (le 8 w) [] 8 (sym (length_le 8 w)) k

-- ---- as the library reads and writes the bytes of a word

small : (b : List ℕ) (at : ℕ) → ((k : ℕ) → Fits w8 (get_or b k 0)) → (i : ℕ) → Dec (i < 8) → get_or (take 8 (drop at b)) i 0 < 256
small b at f i (yes p) = let e : get_or (take 8 (drop at b)) i 0 ≡ get_or b (at + i) 0 = get_or-take 8 (drop at b) i 0 p ∙ get_or-drop at b i 0 in omega (arith, e, (f (at + i)).fits)
small b at f i (no p) = let e : get_or (take 8 (drop at b)) i 0 ≡ 0 = get_or-eq_default (take 8 (drop at b)) 0 (omega (arith, length-take 8 (drop at b))) in omega (arith, e)

pub word_read : (b : List ℕ) (at r : ℕ) (ws : List ℕ) → ws ≡ take 8 (drop at b) → length b ≡ 16 → at ≤ 8 → ((k : ℕ) → Fits w8 (get_or b k 0)) → r ≡ from_le_bytes w64 ws → le 8 r ≡ take 8 (drop at b)
word_read b at r ws e l h f q =
    let n : length (take 8 (drop at b)) ≡ 8 = length-take-le 8 (drop at b) (omega (arith, l, length-drop at b)) in
    sym (low_bytes 8 r) ∙ le_bytes_8 (take 8 (drop at b)) r n (λ i. small b at f i (dec_lt i 8)) (q ∙ ap (from_le_bytes w64) e)

pub words_stored : (w x : ℕ) (ys zs : List ℕ) → ys ≡ to_le_bytes w64 w → zs ≡ to_le_bytes w64 x → put_mid 8 8 (ys ++ (0 ∷ 0 ∷ 0 ∷ 0 ∷ 0 ∷ 0 ∷ 0 ∷ 0 ∷ [])) zs ≡ word_bytes w x
unfolding word_bytes
words_stored w x ys zs e f =
    let p : ys ≡ le 8 w = e ∙ low_bytes 8 w in
    let n : length ys ≡ 8 = ap length p ∙ length_le 8 w in
    let o : List ℕ = 0 ∷ 0 ∷ 0 ∷ 0 ∷ 0 ∷ 0 ∷ 0 ∷ 0 ∷ [] in
    (λ j. take_at ys o 8 n j ++ (zs ++ drop 8 (drop_at ys o 8 n j))) ∙ (λ j. p j ++ append-nil ((f ∙ low_bytes 8 x) j) j)
