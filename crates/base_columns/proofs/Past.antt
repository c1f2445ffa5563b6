-- The test of an entry by its words: the bytes of a word past a place are zero where the word is small.
-- Assumes nothing.
use Prim.Native.Nat.{ℕ, zero, suc, ◌+◌, ◌*◌, ◌-◌, ◌/◌, ◌%◌, ◌^◌, ◌≤◌, ◌<◌}
use mathlib.Core.Path.{◌≡◌, refl, sym, ap, ◌∙◌}
use mathlib.Core.Bool.{Bool, true, false, ◌&&◌}
use mathlib.Core.List.{List, [], ◌∷◌, ◌++◌}
use native.Mathlib.Nat.{div-lt_iff_lt-mul, pow-suc, not-suc-le-zero}
use native.Mathlib.Omega.{arith}
use lib.ListN.{length, drop, get_or, length-append, drop_of_length-le}
use lib.Seq.{drop-append-le, drop-append-add}
use lib.Dec.{eqb, ltb, eqb→eq}
use borrow.Author.Tests.{eqb-true, eqb-false, eq-eqb, ne_eqb, ltb-true, ltb-false, lt-ltb, le-ltb, le-leb, lt-leb}
use Rattle.base_lists.specs.Bytes.{le}
use Rattle.base_lists.specs.Tests.{every, packed}
use Rattle.base_lists.proofs.Bytes.{length_le}
use Rattle.base_lists.proofs.Choice.{split}
use Rattle.base_lists.proofs.Table.{at}
use Rattle.base_lists.proofs.Tests.{every_append}
use Rattle.base_peer.specs.Held.{zero_byte}
use Rattle.base_peer.specs.Maps.{valid_entry}
use Rattle.base_columns.specs.Columns.{words_end, word_bytes, row}

-- a number is zero where its remainder and its quotient are
zero_both : (w : ℕ) → (eqb (w % 256) 0 && eqb (w / 256) 0) ≡ eqb w 0
zero_both w =
    split (eqb w 0)
    (λ t. let z : w ≡ 0 = eqb-true w 0 t in
    let a : w % 256 ≡ 0 = omega arith in
    let b : w / 256 ≡ 0 = omega arith in
    rw (eq-eqb _ _ a, eq-eqb _ _ b, t))
    (λ t. let z : w ≡ 0 → ⊥ = eqb-false w 0 t in
    split (eqb (w % 256) 0)
    (λ f. let a : w % 256 ≡ 0 = eqb-true (w % 256) 0 f in
    rw (f, ne_eqb (w / 256) 0 (λ e. z (omega arith)), t))
    (λ f. rw (f, t)))

quotient : (k w : ℕ) → w < 256 ^ suc k → w / 256 < 256 ^ k
quotient k w h = (div-lt_iff_lt-mul {k = 256} {x = w} {y = 256 ^ k} (omega arith)).1 (rw pow-suc at h)

zero_word : (k w : ℕ) → w < 256 ^ k → every zero_byte (le k w) ≡ eqb w 0
unfolding every le
zero_word zero w h = sym (eq-eqb w 0 (omega (arith, h)))
zero_word (suc k) w h = ap (λ (b : Bool). eqb (w % 256) 0 && b) (zero_word k (w / 256) (quotient k w h)) ∙ zero_both w

same_test : (a b c d : ℕ) → (a < b → c < d) → (c < d → a < b) → ltb a b ≡ ltb c d
same_test a b c d f g =
    split (ltb a b) (λ t. t ∙ sym (lt-ltb c d (f (ltb-true a b t))))
    (λ t. t ∙ sym (split (ltb c d) (λ u. let x : a < b = g (ltb-true c d u) in absurd (omega (arith, ltb-false a b t))) (λ u. u)))

past_word : (k l w : ℕ) → l ≤ k → w < 256 ^ k → every zero_byte (drop l (le k w)) ≡ ltb w (256 ^ l)
unfolding le
past_word k zero w p h =
    zero_word k w h ∙ split (eqb w 0) (λ t. t ∙ sym (lt-ltb w 1 (omega (arith, eqb-true w 0 t))))
    (λ t. t ∙ sym (le-ltb w 1 (let z : w ≡ 0 → ⊥ = eqb-false w 0 t in omega arith)))
past_word zero (suc l) w p h = absurd (not-suc-le-zero p)
past_word (suc k) (suc l) w p h =
    past_word k l (w / 256) (omega arith) (quotient k w h)
    ∙ same_test (w / 256) (256 ^ l) w (256 ^ suc l) (λ q. rw pow-suc ((div-lt_iff_lt-mul {k = 256} {x = w} {y = 256 ^ l} (omega arith)).0 q)) (λ q. quotient l w q)

-- ---- a power as the code shifts it, tested for each of the eight numbers by one computation

powers : List ℕ
powers = 1 ∷ 256 ∷ 65536 ∷ 16777216 ∷ 4294967296 ∷ 1099511627776 ∷ 281474976710656 ∷ 72057594037927936 ∷ []

abbrev pub shifted : ℕ → ℕ
shifted k = (1 * 2 ^ (8 * k)) % words_end

is_power : ℕ → ℕ → Bool
is_power k x = eqb x (256 ^ k)

is_shifted : ℕ → ℕ → Bool
is_shifted k x = eqb x (shifted k)

power : (k : ℕ) → k < 8 → shifted k ≡ 256 ^ k
unfolding powers is_power is_shifted
power k h =
    sym (eqb→eq (get_or powers k 0) (shifted k) (at is_shifted powers tt k h)) ∙ eqb→eq (get_or powers k 0) (256 ^ k) (at is_power powers tt k h)

-- ---- the entry

word_long : (w x : ℕ) → length (word_bytes w x) ≡ 16
unfolding word_bytes
word_long w x = length-append (le 8 w) (le 8 x) ∙ (λ i. length_le 8 w i + length_le 8 x i)

module _ (l w x : ℕ) where
  tested : l ≤ 16 → valid_entry (row l w x) ≡ every zero_byte (drop l (word_bytes w x))
  unfolding valid_entry packed
  tested h = rw (le-leb l 16 h, eq-eqb _ _ (word_long w x)) refl

  pub row_no : 16 < l → false ≡ valid_entry (row l w x)
  unfolding valid_entry
  row_no h = rw (lt-leb _ _ h)

  pub row_short : l < 8 → w < words_end → x < words_end → (ltb w (shifted l) && eqb x 0) ≡ valid_entry (row l w x)
  unfolding word_bytes
  row_short h a b =
      sym (tested (omega arith) ∙ ap (every zero_byte) (drop-append-le l (le 8 w) (le 8 x) (omega (arith, length_le 8 w)))
      ∙ every_append zero_byte (drop l (le 8 w)) (le 8 x) ∙ (λ i. past_word 8 l w (omega arith) a i && zero_word 8 x b i)
      ∙ ap (λ (q : ℕ). ltb w q && eqb x 0) (sym (power l h)))

  pub row_long : 8 ≤ l → l < 16 → x < words_end → ltb x (shifted (l - 8)) ≡ valid_entry (row l w x)
  unfolding word_bytes
  row_long g h b =
      let k : l ≡ length (le 8 w) + (l - 8) = omega (arith, length_le 8 w) in
      sym (tested (omega arith) ∙ ap (λ (j : ℕ). every zero_byte (drop j (le 8 w ++ le 8 x))) k ∙ ap (every zero_byte) (drop-append-add (le 8 w) (le 8 x) (l - 8))
      ∙ past_word 8 (l - 8) x (omega arith) b ∙ ap (ltb x) (sym (power (l - 8) (omega arith))))

  pub row_full : 16 ≤ l → l ≤ 16 → true ≡ valid_entry (row l w x)
  unfolding every
  row_full g h = sym (tested h ∙ ap (every zero_byte) (drop_of_length-le (word_bytes w x) {i = l} (omega (arith, word_long w x))))
