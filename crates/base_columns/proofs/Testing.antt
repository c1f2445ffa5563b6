-- The test of the entries of a map of data, of any words.
-- Assumes nothing.
use Prim.Native.Nat.{ℕ, ◌+◌, ◌≤◌, ◌<◌}
use mathlib.Core.Path.{◌≡◌, refl, sym, ap, ◌∙◌, subst}
use mathlib.Core.Bool.{Bool, true, false, ◌&&◌, and-true, and_assoc, and_comm}
use mathlib.Core.List.{List}
use native.Mathlib.Omega.{arith}
use lib.ListN.{length, take, drop, get_or, length-map}
use lib.Seq.{length-take-le, take-take}
use lib.Dec.{leb}
use borrow.Author.Tests.{lt-leb, le-leb, leb-true, eq-eqb, eqb-true}
use Rattle.base_lists.specs.Array.{pad}
use Rattle.base_lists.specs.Lists.{rising}
use Rattle.base_lists.specs.Maps.{keys}
use Rattle.base_lists.proofs.Choice.{and_left, and_right}
use Rattle.base_lists.proofs.Maps.{length_keys}
use Rattle.base_lists.proofs.Zip.{keys_zip}
use Rattle.base_lists.specs.Tests.{every, packed}
use Rattle.base_lists.proofs.Rest.{Rest, rest_next, rest_end}
use Rattle.base_lists.proofs.Tests.{every_true, true_every, both_true, rising_true, true_rising, packed_true, true_packed}
use Rattle.base_peer.specs.Maps.{DataEntry, valid_entry, entry_bytes, ValidEntry}
use Rattle.base_scan.specs.Words.{unused}
use Rattle.base_peer.proofs.Maps.{unread, valid_entry_true, true_valid_entry}
use Rattle.base_util.specs.Section.{part, Filled}
use Rattle.base_columns.specs.Columns.{row, head_of, tail_of, count_of, entries_at, data_map_at, ValidDataWords, valid_data_words}
use Rattle.base_util.proofs.Parts.{part_long, part_past, part_part}
use Rattle.base_columns.proofs.Rows.{length_rows, get_d_rows}
use Rattle.base_columns.proofs.Data.{head_long, tail_long, keys_long, lens_long, lows_long, highs_long, head_read, low_read, high_read}

module _ (n : ℕ) (m : List ℕ) (l : length m ≡ n + n + (n + n) + 1) where
  lens : length (part n n (head_of n m)) ≡ n
  lens = part_long n n (head_of n m) (omega (arith, head_long n m l))

  lows : length (part 0 n (tail_of n m)) ≡ length (part n n (head_of n m))
  lows = part_long 0 n (tail_of n m) (omega (arith, tail_long n m l)) ∙ sym lens

  highs : length (part n n (tail_of n m)) ≡ length (part n n (head_of n m))
  highs = part_long n n (tail_of n m) (omega (arith, tail_long n m l)) ∙ sym lens

  entries_long : length (entries_at n m) ≡ n
  unfolding entries_at
  entries_long = length_rows _ _ _ lows highs ∙ lens

  read : (i : ℕ) → i < n → row (get_or m (n + i) 0) (get_or m (n + n + i) 0) (get_or m (n + n + n + i) 0) ≡ get_or (entries_at n m) i unread
  unfolding entries_at
  read i h =
      sym (get_d_rows i unread _ _ _ lows highs (omega (arith, lens)) ∙ (λ j. row (head_read n m i h j) (low_read n m i h j) (high_read n m i h j)))

-- ---- the zeroes

packed_is : (n k : ℕ) (s : List ℕ) → length s ≡ n → packed unused n k s ≡ every unused (drop k s)
unfolding packed
packed_is n k s l = rw (eq-eqb _ _ l)

-- the column of n places from place a on, past its first k
column : (n k a from end : ℕ) (m s : List ℕ) (r : Bool) → s ≡ part a n m → from ≡ a + k → end ≡ a + n → a + n ≤ length m → r ≡ every unused (drop from (take end m)) → r ≡ packed unused n k s
column n k a from end m s r e f g h q =
    q ∙ (λ i. every unused (drop (f i) (take (g i) m))) ∙ ap (every unused) (part_past a n k m h ∙ ap (drop k) (sym e))
    ∙ sym (packed_is n k s (ap length e ∙ part_long a n m h))

-- ---- the test

regroup : (a b c d e t : Bool) → ((a && b) && ((c && d) && (e && t))) ≡ (((((a && b) && c) && d) && t) && e)
regroup false b c d e t = refl
regroup true false c d e t = refl
regroup true true false d e t = refl
regroup true true true false e t = refl
regroup true true true true e t = and_comm e t

abbrev pub AndEntries : Bool → List DataEntry → Bool
AndEntries ok l = ok && every valid_entry l

-- the zeroes and the order of the peers were seen: the entries from i on are to be looked at
pub record Rows (n : ℕ) (m : List ℕ) (half high k : ℕ) (ok : Bool) (i : ℕ) : Type 0 where
  pub long : length m ≡ n + n + (n + n) + 1
  pub doubled : half ≡ n + n
  pub tripled : high ≡ n + n + n
  pub fits : k ≤ n
  pub rest : Rest AndEntries n (entries_at n m) k (valid_data_words n m) ok i

module _ (n : ℕ) (m : List ℕ) (l : length m ≡ n + n + (n + n) + 1) where
  pub words_no : n < count_of n m → false ≡ valid_data_words n m
  unfolding valid_data_words
  words_no h = rw (lt-leb _ _ h)

  words_keys : count_of n m ≤ n → keys (data_map_at n m) ≡ take (count_of n m) (part 0 n (head_of n m))
  unfolding data_map_at
  words_keys h =
      keys_zip _ _ (length-take-le (count_of n m) (part 0 n (head_of n m)) (omega (arith, part_long 0 n (head_of n m) (omega (arith, head_long n m l))))
      ∙ sym (length-map (take (count_of n m) (entries_at n m)) entry_bytes ∙ length-take-le (count_of n m) (entries_at n m) (omega (arith, entries_long n m l))))

  words_read : count_of n m ≤ n → keys (data_map_at n m) ≡ take (count_of n m) m
  unfolding part head_of
  words_read h = words_keys h ∙ take-take (count_of n m) n (head_of n m) h ∙ take-take (count_of n m) (n + n) m (omega arith)

  words_is : count_of n m ≤ n → valid_data_words n m ≡ ((packed unused n (count_of n m) (part 0 n (head_of n m)) && packed unused n (count_of n m) (part n n (head_of n m)))
      && ((packed unused n (count_of n m) (part 0 n (tail_of n m)) && packed unused n (count_of n m) (part n n (tail_of n m)))
      && (every valid_entry (take (count_of n m) (entries_at n m)) && rising (take (count_of n m) m))))
  unfolding valid_data_words
  words_is h = rw (le-leb _ _ h, words_read h) refl

  -- the entries are looked at from the first on
  pub rows_start : (a b c d t : Bool) → a ≡ every unused (drop (count_of n m) (take n m)) → b ≡ every unused (drop (n + count_of n m) (take (n + n) m)) → c ≡ every unused (drop (n + n + count_of n m) (take (n + n + n) m))
      → d ≡ every unused (drop (n + n + n + count_of n m) (take (n + n + (n + n)) m)) → t ≡ rising (take (count_of n m) m) → count_of n m ≤ n → Rows n m (n + n) (n + n + n) (count_of n m) ((((a && b) && c) && d) && t) 0
  unfolding head_of tail_of
  rows_start a b c d t p q r s y h =
      let k = count_of n m in
      let p' : a ≡ packed unused n (count_of n m) (part 0 n (head_of n m)) = column n k 0 k n m _ a (part_part 0 (n + n) 0 n m (omega arith) (omega arith)) (omega arith) (omega arith) (omega arith) p in
      let q' : b ≡ packed unused n (count_of n m) (part n n (head_of n m)) = column n k (0 + n) (n + k) (n + n) m _ b (part_part 0 (n + n) n n m (omega arith) (omega arith)) (omega arith) (omega arith) (omega arith) q in
      let r' : c ≡ packed unused n (count_of n m) (part 0 n (tail_of n m)) = column n k (n + n + 0) (n + n + k) (n + n + n) m _ c (part_part (n + n) (n + n) 0 n m (omega arith) (omega arith)) (omega arith) (omega arith) (omega arith) r in
      let s' : d ≡ packed unused n (count_of n m) (part n n (tail_of n m)) = column n k (n + n + n) (n + n + n + k) (n + n + (n + n)) m _ d (part_part (n + n) (n + n) n n m (omega arith) (omega arith)) (omega arith) (omega arith) (omega arith) s in
      record {
        long = l;
        doubled = refl;
        tripled = refl;
        fits = h;
        rest = record {
          low = omega arith;
          top = h;
          long = entries_long n m l;
          same = words_is h ∙ (λ i. (sym p' i && sym q' i) && ((sym r' i && sym s' i) && (every valid_entry (take (count_of n m) (entries_at n m)) && sym y i))) ∙ regroup a b c d _ t;
        };
      }

module _ (n : ℕ) (m : List ℕ) (half high k : ℕ) (ok : Bool) (i : ℕ) (v : Rows n m half high k ok i) where
  pub rows_next : (b : Bool) → b ≡ valid_entry (row (get_or m (n + i) 0) (get_or m (half + i) 0) (get_or m (high + i) 0)) → i < k → Rows n m half high k (ok && b) (i + 1)
  unfolding every
  rows_next b q h =
      let e : b ≡ valid_entry (get_or (entries_at n m) i unread) =
      q ∙ (λ j. valid_entry (row (get_or m (n + i) 0) (get_or m (v.doubled j + i) 0) (get_or m (v.tripled j + i) 0))) ∙ ap valid_entry (read n m v.long i (omega (arith, v.fits))) in
      record {
        long = v.long;
        doubled = v.doubled;
        tripled = v.tripled;
        fits = v.fits;
        rest = rest_next unread AndEntries v.rest (ok && b) h (λ l. ap (λ (t : Bool). ok && (t && every valid_entry l)) (sym e) ∙ sym (and_assoc ok b (every valid_entry l)));
      }

  pub rows_all : k ≤ i → ok ≡ valid_data_words n m
  unfolding every
  rows_all h = sym (rest_end unread AndEntries v.rest h ∙ and-true ok)

-- ---- what the test says

packed_filled : (n k : ℕ) (s : List ℕ) → length s ≡ n → k ≤ n → packed unused n k s ≡ true → Filled s k
packed_filled n k s l h e = record {
  fits = omega arith;
  packed = subst (λ (j : ℕ). s ≡ pad 0 j (take k s)) (sym l) (packed_true 0 unused (λ x. eqb-true x 0) n k s e);
}

pub valid_words_true : (n : ℕ) (m : List ℕ) → length m ≡ n + n + (n + n) + 1 → valid_data_words n m ≡ true → ValidDataWords n m
unfolding valid_data_words
valid_words_true n m l t =
    let c : ℕ = count_of n m in
    let h : count_of n m ≤ n = leb-true (count_of n m) n (and_left (leb (count_of n m) n) _ t) in
    let r = and_right (leb (count_of n m) n) _ t in
    let a = and_left (packed unused n (count_of n m) (part 0 n (head_of n m)) && packed unused n (count_of n m) (part n n (head_of n m))) _ r in
    let s = and_right (packed unused n (count_of n m) (part 0 n (head_of n m)) && packed unused n (count_of n m) (part n n (head_of n m))) _ r in
    let b = and_left (packed unused n (count_of n m) (part 0 n (tail_of n m)) && packed unused n (count_of n m) (part n n (tail_of n m))) _ s in
    let u = and_right (packed unused n (count_of n m) (part 0 n (tail_of n m)) && packed unused n (count_of n m) (part n n (tail_of n m))) _ s in
    let k : length (keys (data_map_at n m)) ≡ count_of n m =
    ap length (words_keys n m l h) ∙ length-take-le (count_of n m) (part 0 n (head_of n m)) (omega (arith, part_long 0 n (head_of n m) (omega (arith, head_long n m l)))) in
    record {
      long = l;
      fits = h;
      counted = sym (length_keys (data_map_at n m)) ∙ k;
      keyed = packed_filled n _ _ (part_long 0 n (head_of n m) (omega (arith, head_long n m l))) h (and_left (packed unused n (count_of n m) (part 0 n (head_of n m))) _ a);
      lens = packed_filled n _ _ (part_long n n (head_of n m) (omega (arith, head_long n m l))) h (and_right (packed unused n (count_of n m) (part 0 n (head_of n m))) _ a);
      lows = packed_filled n _ _ (part_long 0 n (tail_of n m) (omega (arith, tail_long n m l))) h (and_left (packed unused n (count_of n m) (part 0 n (tail_of n m))) _ b);
      highs = packed_filled n _ _ (part_long n n (tail_of n m) (omega (arith, tail_long n m l))) h (and_right (packed unused n (count_of n m) (part 0 n (tail_of n m))) _ b);
      each = every_true valid_entry ValidEntry valid_entry_true (take (count_of n m) (entries_at n m)) (and_left (every valid_entry (take (count_of n m) (entries_at n m))) _ u);
      rises = rising_true (keys (data_map_at n m)) (and_right (every valid_entry (take (count_of n m) (entries_at n m))) _ u);
    }

filled_packed : (n k : ℕ) (s : List ℕ) → length s ≡ n → Filled s k → packed unused n k s ≡ true
filled_packed n k s l f = true_packed 0 unused refl n k s (subst (λ (j : ℕ). s ≡ pad 0 j (take k s)) l f.packed)

pub true_valid_words : (n : ℕ) (m : List ℕ) → ValidDataWords n m → valid_data_words n m ≡ true
unfolding valid_data_words
true_valid_words n m v =
    both_true (leb (count_of n m) n) _ (le-leb (count_of n m) n v.fits)
    (both_true _ _ (both_true _ _ (filled_packed n _ _ (keys_long n m v) v.keyed) (filled_packed n _ _ (lens_long n m v) v.lens))
    (both_true _ _ (both_true _ _ (filled_packed n _ _ (lows_long n m v) v.lows) (filled_packed n _ _ (highs_long n m v) v.highs))
    (both_true _ _ (true_every valid_entry ValidEntry true_valid_entry (take (count_of n m) (entries_at n m)) v.each) (true_rising (keys (data_map_at n m)) v.rises))))
