-- What the words of a map are: those of its peers and values, and zeroes.
-- Assumes nothing.
use Prim.Native.Nat.{ℕ, zero, suc, ◌+◌, ◌-◌, ◌≤◌, ◌<◌}
use mathlib.Core.Path.{◌≡◌, refl, sym, ap, ◌∙◌, subst}
use mathlib.Core.List.{List, [], ◌∷◌, ◌++◌, map}
use native.Mathlib.Nat.{le_of_suc-le-suc}
use native.Mathlib.Omega.{arith}
use lib.ListN.{length, take, drop, get_or}
use lib.Seq.{take-length, take-add, take-suc}
use Rattle.base_lists.proofs.Slices.{slice_part, slice_each}
use Rattle.base_lists.specs.Array.{pad}
use Rattle.base_lists.specs.Bytes.{read_le}
use Rattle.base_lists.specs.Lists.{Rising}
use Rattle.base_lists.specs.Maps.{keys, values, zip}
use Rattle.base_lists.specs.Tests.{All}
use Rattle.base_lists.proofs.Array.{length_pad, getD_pad}
use Rattle.base_lists.proofs.Entries.{Entries, entries_of, entries_keys, entries_values}
use Rattle.base_peer.specs.Maps.{no_data, entry_bytes, ValidEntry}
use Rattle.base_peer.proofs.Maps.{itself, Any, map_itself, length_entry}
use Rattle.base_util.specs.Section.{working_places, part, HoldsSet}
use Rattle.base_util.proofs.Parts.{part_long}
use Rattle.base_util.proofs.Sets.{set_as}
use Rattle.base_columns.specs.Columns.{words_end, Two, row, rows, head_of, tail_of, count_of, numbers_at, ValidNumbers, HoldsNumbers, numbers_section, data_map_at, ValidDataWords, HoldsDataWords, low_word, high_word, data_section}
use Rattle.base_columns.proofs.Numbers.{Stored, number_entries, number_held, number_keys}
use Rattle.base_columns.proofs.Data.{filled_to, head_long, tail_long, lens_long, lows_long, highs_long, taken_rows, lows_like, highs_like, data_entries, data_held}
use Rattle.base_columns.proofs.Words.{word_low, word_high}

-- ---- a list in its parts

pub in_two : (n : ℕ) (s : List ℕ) → length s ≡ n + n → s ≡ part 0 n s ++ part n n s
unfolding part
in_two n s l = sym (take-length s) ∙ ap (λ (k : ℕ). take k s) l ∙ take-add n n s

pub with_last : (k : ℕ) (m : List ℕ) → length m ≡ k + 1 → m ≡ take k m ++ (get_or m k 0 ∷ [])
with_last k m l =
    let q : length m ≡ suc k = omega arith in
    sym (take-length m) ∙ ap (λ (j : ℕ). take j m) q ∙ take-suc m k 0 (omega arith)

grouped : (xs ys zs : List ℕ) → xs ++ (ys ++ zs) ≡ xs ++ ys ++ zs
grouped [] ys zs = refl
grouped (x ∷ xs) ys zs = ap (λ (l : List ℕ). x ∷ l) (grouped xs ys zs)

-- ---- a map of numbers

in_halves : (n : ℕ) (m : List ℕ) → take (n + n) m ≡ part 0 n m ++ part n n m
unfolding part
in_halves n m = take-add n n m

pub numbers_words : (n : ℕ) (m : List ℕ) → ValidNumbers n m → m ≡ numbers_section n (numbers_at n m)
unfolding numbers_section
numbers_words n m v =
    let e = number_entries n m v in
    let p : part 0 n m ≡ pad 0 n (keys (numbers_at n m)) = e.keyed ∙ ap (pad 0 n) (sym (number_keys n m v)) in
    let w : values (numbers_at n m) ≡ take (get_or m (n + n) 0) (part n n m) = entries_values 0 n itself Any _ _ _ _ e ∙ map_itself (take (get_or m (n + n) 0) (part n n m)) in
    let q : part n n m ≡ pad 0 n (values (numbers_at n m)) = e.packed ∙ ap (pad 0 n) (sym w) in
    with_last (n + n) m v.long ∙ (λ i. in_halves n m i ++ (sym v.counted i ∷ [])) ∙ (λ i. p i ++ q i ++ (length (numbers_at n m) ∷ []))

-- ---- all zeroes

take_zeroes : (k n : ℕ) → k ≤ n → take k (pad {A = ℕ} 0 n []) ≡ pad 0 k []
unfolding pad
take_zeroes zero n h = refl
take_zeroes (suc k) zero h = absurd (omega arith)
take_zeroes (suc k) (suc n) h = ap (λ (l : List ℕ). 0 ∷ l) (take_zeroes k n (le_of_suc-le-suc h))

drop_zeroes : (a n : ℕ) → drop a (pad {A = ℕ} 0 n []) ≡ pad 0 (n - a) []
unfolding pad
drop_zeroes zero n = let z : n ≡ n - 0 = omega arith in ap (λ (k : ℕ). pad {A = ℕ} 0 k []) z
drop_zeroes (suc a) zero = let z : 0 ≡ 0 - suc a = omega arith in ap (λ (k : ℕ). pad {A = ℕ} 0 k []) z
drop_zeroes (suc a) (suc n) = let z : n - a ≡ suc n - suc a = omega arith in drop_zeroes a n ∙ ap (λ (k : ℕ). pad {A = ℕ} 0 k []) z

pub part_zeroes : (a k n : ℕ) → a + k ≤ n → part a k (pad 0 n []) ≡ pad 0 k []
unfolding part
part_zeroes a k n h = ap (take k) (drop_zeroes a n) ∙ take_zeroes k (n - a) (omega arith)

zero_word : (n i : ℕ) → get_or (pad {A = ℕ} 0 n []) i 0 ≡ 0
zero_word n i = getD_pad 0 n [] i (omega arith)

zeroes_stored : (n : ℕ) → Stored n (pad 0 (n + n + 1) []) (pad 0 n []) (pad 0 n []) 0
zeroes_stored n = record {
  long = length_pad 0 (n + n + 1) [];
  first = part_zeroes 0 n (n + n + 1) (omega arith);
  second = part_zeroes n n (n + n + 1) (omega arith);
  count = zero_word (n + n + 1) (n + n);
}

none_rise : (A : Type 0) → Rising (keys {A = A} [])
unfolding Rising keys
none_rise A = tt

no_entries : {E B : Type 0} (z : E) (n : ℕ) (f : E → B) (P : E → Type 0) → Entries z n f P (pad 0 n []) (pad z n []) 0 []
unfolding zip All
no_entries {E} {B} z n f P = entries_of z n f P [] [] (pad 0 n []) (pad z n []) 0 [] refl refl refl refl (omega arith) tt (none_rise B) refl

pub numbers_cleared : (n : ℕ) (m t : List ℕ) → length m ≡ n + n + 1 → t ≡ pad 0 (length m) (take 0 m) → HoldsNumbers n t []
numbers_cleared n m t l e =
    subst (λ (s : List ℕ). HoldsNumbers n s []) (sym (e ∙ ap (λ (k : ℕ). pad {A = ℕ} 0 k []) l))
    (number_held n (pad 0 (n + n + 1) []) (pad 0 n []) (pad 0 n []) 0 [] (zeroes_stored n) (no_entries 0 n itself Any))

zeroes_two : (n : ℕ) → Two n (pad 0 (n + n) []) [] []
zeroes_two n = record { long = length_pad 0 (n + n) []; first = part_zeroes 0 n (n + n) (omega arith); second = part_zeroes n n (n + n) (omega arith) }

pub data_cleared : (n : ℕ) (m t : List ℕ) → length m ≡ n + n + (n + n) + 1 → t ≡ pad 0 (length m) (take 0 m) → HoldsDataWords n t []
unfolding rows
data_cleared n m t l e =
    subst (λ (s : List ℕ). HoldsDataWords n s []) (sym (e ∙ ap (λ (k : ℕ). pad {A = ℕ} 0 k []) l))
    (data_held n (pad 0 (n + n + (n + n) + 1) []) (pad 0 (n + n) []) (pad 0 (n + n) []) 0 [] [] [] [] [] (zeroes_stored (n + n)) (zeroes_two n) (zeroes_two n) refl refl refl refl (omega arith)
    (no_entries no_data n entry_bytes ValidEntry))

-- ---- the peers of a map of numbers as a set

pub keys_copied : (n : ℕ) (m t : List ℕ) → ValidNumbers n m → HoldsSet working_places t (take (get_or m (n + n) 0) (part 0 n m)) → HoldsSet working_places t (keys (numbers_at n m))
keys_copied n m t v h = set_as working_places t _ _ h (sym (number_keys n m v))

pub keys_few : (n : ℕ) (m : List ℕ) (k : ℕ) → ValidNumbers n m → n ≤ k → length (part 0 n m) ≤ k
keys_few n m k v h = omega (arith, part_long 0 n m (omega (arith, v.long)))

-- ---- a map of data

-- every word fits 64 bits, which the code knows of each word that it is lent
abbrev pub Small : List ℕ → Type 0
Small m = (i : ℕ) → get_or m i 0 < words_end

small_part : (a k : ℕ) (m : List ℕ) → Small m → Small (part a k m)
unfolding part
small_part a k m f i = rw (slice_part a k m) (slice_each (λ x. x < words_end) 0 a (a + k) m (omega arith) f i)

small_taken : (k : ℕ) (m : List ℕ) → Small m → Small (take k m)
small_taken k m f i = slice_each (λ x. x < words_end) 0 0 k m (omega arith) f i

-- the columns of the bytes of valid entries
lens_back : (ls ws xs : List ℕ) → length ws ≡ length ls → length xs ≡ length ls → All ValidEntry (rows ls ws xs) → map length (map entry_bytes (rows ls ws xs)) ≡ ls
unfolding rows All
lens_back [] ws xs p q a = refl
lens_back (l ∷ ls) [] xs p q a = absurd (omega arith)
lens_back (l ∷ ls) (w ∷ ws) [] p q a = absurd (omega arith)
lens_back (l ∷ ls) (w ∷ ws) (x ∷ xs) p q a = λ i. length_entry (row l w x) a.0 i ∷ lens_back ls ws xs (omega arith) (omega arith) a.1 i

module _ (l w x : ℕ) (v : ValidEntry (row l w x)) (f : w < words_end) (g : x < words_end) where
  low_back : low_word (entry_bytes (row l w x)) ≡ w
  unfolding low_word
  low_back = ap (λ (b : List ℕ). read_le 8 b 0) (sym v.packed) ∙ word_low w x f g

  high_back : high_word (entry_bytes (row l w x)) ≡ x
  unfolding high_word
  high_back = ap (λ (b : List ℕ). read_le 8 b 8) (sym v.packed) ∙ word_high w x f g

lows_back : (ls ws xs : List ℕ) → length ws ≡ length ls → length xs ≡ length ls → Small ws → Small xs → All ValidEntry (rows ls ws xs) → map low_word (map entry_bytes (rows ls ws xs)) ≡ ws
unfolding rows All
lows_back [] [] xs p q f g a = refl
lows_back [] (w ∷ ws) xs p q f g a = absurd (omega arith)
lows_back (l ∷ ls) [] xs p q f g a = absurd (omega arith)
lows_back (l ∷ ls) (w ∷ ws) [] p q f g a = absurd (omega arith)
lows_back (l ∷ ls) (w ∷ ws) (x ∷ xs) p q f g a =
    λ i. low_back l w x a.0 (f 0) (g 0) i ∷ lows_back ls ws xs (omega arith) (omega arith) (λ k. f (suc k)) (λ k. g (suc k)) a.1 i

highs_back : (ls ws xs : List ℕ) → length ws ≡ length ls → length xs ≡ length ls → Small ws → Small xs → All ValidEntry (rows ls ws xs) → map high_word (map entry_bytes (rows ls ws xs)) ≡ xs
unfolding rows All
highs_back [] ws [] p q f g a = refl
highs_back [] ws (x ∷ xs) p q f g a = absurd (omega arith)
highs_back (l ∷ ls) [] xs p q f g a = absurd (omega arith)
highs_back (l ∷ ls) (w ∷ ws) [] p q f g a = absurd (omega arith)
highs_back (l ∷ ls) (w ∷ ws) (x ∷ xs) p q f g a =
    λ i. high_back l w x a.0 (f 0) (g 0) i ∷ highs_back ls ws xs (omega arith) (omega arith) (λ k. f (suc k)) (λ k. g (suc k)) a.1 i

module _ (n : ℕ) (m : List ℕ) (v : ValidDataWords n m) (f : Small m) where
  words_taken : values (data_map_at n m) ≡ map entry_bytes (rows (take (count_of n m) (part n n (head_of n m))) (take (count_of n m) (part 0 n (tail_of n m))) (take (count_of n m) (part n n (tail_of n m))))
  words_taken = entries_values no_data n entry_bytes ValidEntry _ _ _ _ (data_entries n m v) ∙ ap (map entry_bytes) (taken_rows n m v)

  each_row : All ValidEntry (rows (take (count_of n m) (part n n (head_of n m))) (take (count_of n m) (part 0 n (tail_of n m))) (take (count_of n m) (part n n (tail_of n m))))
  each_row = subst (All ValidEntry) (taken_rows n m v) v.each

  small_tail : Small (tail_of n m)
  unfolding tail_of
  small_tail = small_part (n + n) (n + n) m f

  small_low : Small (take (count_of n m) (part 0 n (tail_of n m)))
  small_low = small_taken (count_of n m) (part 0 n (tail_of n m)) (small_part 0 n (tail_of n m) small_tail)

  small_high : Small (take (count_of n m) (part n n (tail_of n m)))
  small_high = small_taken (count_of n m) (part n n (tail_of n m)) (small_part n n (tail_of n m) small_tail)

  key_column : part 0 n (head_of n m) ≡ pad 0 n (keys (data_map_at n m))
  key_column = (data_entries n m v).keyed ∙ ap (pad 0 n) (sym (entries_keys no_data n entry_bytes ValidEntry _ _ _ _ (data_entries n m v)))

  len_column : part n n (head_of n m) ≡ pad 0 n (map length (values (data_map_at n m)))
  len_column =
      filled_to n _ _ (lens_long n m v) v.lens ∙ ap (pad 0 n) (sym (ap (map length) words_taken ∙ lens_back _ _ _ (lows_like n m v) (highs_like n m v) each_row))

  low_column : part 0 n (tail_of n m) ≡ pad 0 n (map low_word (values (data_map_at n m)))
  low_column =
      filled_to n _ _ (lows_long n m v) v.lows
      ∙ ap (pad 0 n) (sym (ap (map low_word) words_taken ∙ lows_back _ _ _ (lows_like n m v) (highs_like n m v) small_low small_high each_row))

  high_column : part n n (tail_of n m) ≡ pad 0 n (map high_word (values (data_map_at n m)))
  high_column =
      filled_to n _ _ (highs_long n m v) v.highs
      ∙ ap (pad 0 n) (sym (ap (map high_word) words_taken ∙ highs_back _ _ _ (lows_like n m v) (highs_like n m v) small_low small_high each_row))

  halves : take (n + n + (n + n)) m ≡ head_of n m ++ tail_of n m
  unfolding head_of tail_of part
  halves = take-add (n + n) (n + n) m

  pub data_words : m ≡ data_section n (data_map_at n m)
  unfolding data_section
  data_words =
      let h = in_two n (head_of n m) (head_long n m v.long) ∙ (λ i. key_column i ++ len_column i) in
      let t = in_two n (tail_of n m) (tail_long n m v.long) ∙ (λ i. low_column i ++ high_column i) in
      with_last (n + n + (n + n)) m v.long ∙ (λ i. halves i ++ (sym v.counted i ∷ [])) ∙ (λ i. h i ++ t i ++ (length (data_map_at n m) ∷ []))
      ∙ ap (λ (l : List ℕ). l ++ (length (data_map_at n m) ∷ [])) (grouped (pad 0 n (keys (data_map_at n m)) ++ pad 0 n (map length (values (data_map_at n m)))) (pad 0 n (map low_word (values (data_map_at n m)))) (pad 0 n (map high_word (values (data_map_at n m)))))

pub data_same : (n : ℕ) (s t : List ℕ) (l : List (ℕ × List ℕ)) → Small s → Small t → HoldsDataWords n s l → HoldsDataWords n t l → s ≡ t
data_same n s t l f g h k = data_words n s h.valid f ∙ ap (data_section n) (h.items ∙ sym k.items) ∙ sym (data_words n t k.valid g)
