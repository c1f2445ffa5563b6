-- The words of a map stand for it.
-- Assumes nothing.
use Prim.Native.Nat.{ℕ, zero, suc, ◌+◌, ◌^◌, ◌≤◌, ◌<◌}
use mathlib.Core.Path.{◌≡◌, refl, sym, ap, ◌∙◌, subst}
use mathlib.Core.Bool.{true}
use mathlib.Core.List.{List, [], ◌∷◌, ◌++◌, map, append_assoc}
use native.Mathlib.Nat.{pow-suc}
use native.Mathlib.Omega.{arith}
use lib.ListN.{length, take, drop, get_or, length-append, length-map}
use lib.Seq.{take_all, take_at, drop_at, get_or_at}
use lib.Dec.{leb}
use borrow.Author.Tests.{leb-true}
use Rattle.base_lists.specs.Array.{pad}
use Rattle.base_lists.specs.Bytes.{read_le}
use Rattle.base_lists.specs.Lists.{Rising}
use Rattle.base_lists.specs.Maps.{keys, values, zip}
use Rattle.base_lists.specs.Tests.{All}
use Rattle.base_lists.proofs.Array.{length_pad, take_pad}
use Rattle.base_lists.proofs.Choice.{and_left, and_right}
use Rattle.base_lists.proofs.Entries.{entries_of}
use Rattle.base_lists.proofs.Maps.{length_keys}
use Rattle.base_lists.proofs.Zip.{zip_back, length_values}
use Rattle.base_util.specs.Section.{part}
use Rattle.base_columns.specs.Columns.{words_end, Two, word_bytes, row, rows, HoldsNumbers, numbers_section, HoldsDataWords, low_word, high_word, data_section}
use Rattle.base_columns.proofs.Numbers.{Stored, number_held}
use Rattle.base_columns.proofs.Rows.{length_rows}
use Rattle.base_columns.proofs.Data.{data_held}
use Rattle.base_columns.proofs.Words.{bytes_words}
use Rattle.base_peer.specs.Maps.{no_data, entry_bytes, ValidEntry}
use Rattle.base_peer.proofs.Maps.{itself, Any, all_any, map_itself}
use Rattle.spec_hyparview.specs.Rules.{all_short, all_under, lists_under}
use Rattle.spec_hyparview.specs.Station.{bytes_end}
use Rattle.hyparview_rules.proofs.Widths.{under_pad, under_at}

-- ---- columns put together

module _ (n : ℕ) (a b : List ℕ) (l : length a ≡ n) (m : length b ≡ n) where
  both_long : length (a ++ b) ≡ n + n
  both_long = length-append a b ∙ (λ i. l i + m i)

  module _ (c : ℕ) where
    regrouped : a ++ b ++ (c ∷ []) ≡ a ++ (b ++ (c ∷ []))
    regrouped = append_assoc a b (c ∷ [])

    pub two_stored : Stored n (a ++ b ++ (c ∷ [])) a b c
    unfolding part
    two_stored = record {
      long = omega (arith, length-append (a ++ b) (c ∷ []), both_long);
      first = ap (take n) regrouped ∙ take_at a (b ++ (c ∷ [])) n l;
      second = ap (λ (t : List ℕ). take n (drop n t)) regrouped ∙ ap (take n) (drop_at a (b ++ (c ∷ [])) n l) ∙ take_at b (c ∷ []) n m;
      count = get_or_at (a ++ b) c [] 0 (n + n) both_long;
    }

two_columns : (n : ℕ) (xs ys : List ℕ) → Two n (pad 0 n xs ++ pad 0 n ys) xs ys
unfolding part
two_columns n xs ys =
    let l = length_pad 0 n xs in
    let m = length_pad 0 n ys in
    record {
      long = both_long n (pad 0 n xs) (pad 0 n ys) l m;
      first = take_at (pad 0 n xs) (pad 0 n ys) n l;
      second = ap (take n) (drop_at (pad 0 n xs) (pad 0 n ys) n l) ∙ take_all n (pad 0 n ys) (omega arith);
    }

-- ---- a map of numbers

pub numbers_stored : (n : ℕ) (l : List (ℕ × ℕ)) → Stored n (numbers_section n l) (pad 0 n (keys l)) (pad 0 n (values l)) (length l)
unfolding numbers_section
numbers_stored n l = two_stored n (pad 0 n (keys l)) (pad 0 n (values l)) (length_pad 0 n (keys l)) (length_pad 0 n (values l)) (length l)

pub numbers_hold : (n : ℕ) (l : List (ℕ × ℕ)) → length l ≤ n → Rising (keys l) → HoldsNumbers n (numbers_section n l) l
numbers_hold n l h r =
    number_held n _ _ _ _ l (numbers_stored n l)
    (entries_of 0 n itself Any (keys l) (values l) _ _ _ l refl refl (sym (length_keys l)) (sym (length_values l)) h (all_any _) r
    (ap (zip (keys l)) (map_itself (values l)) ∙ zip_back l))

-- ---- bytes in two words

module _ (b : List ℕ) (h : length b ≤ 16) (e : all_under bytes_end b ≡ true) where
  each_byte : (j : ℕ) → get_or (pad 0 16 b) j 0 < 256
  each_byte j = under_at bytes_end (pad 0 16 b) (omega arith) (under_pad bytes_end 16 b (omega arith) h ∙ e) j

  pub words_back : word_bytes (low_word b) (high_word b) ≡ pad 0 16 b
  unfolding low_word high_word
  words_back = bytes_words (pad 0 16 b) (length_pad 0 16 b) each_byte

  pub row_holds : entry_bytes (row (length b) (low_word b) (high_word b)) ≡ b
  row_holds = ap (take (length b)) words_back ∙ take_pad 0 16 b h

  row_valid : ValidEntry (row (length b) (low_word b) (high_word b))
  row_valid = record { fits = h; packed = words_back ∙ ap (pad 0 16) (sym row_holds) }

  read_under : (k i : ℕ) → read_le k (pad 0 16 b) i < 256 ^ k
  unfolding read_le
  read_under zero i = omega arith
  read_under (suc k) i = rw (pow-suc 256 k) (omega (arith, each_byte i, read_under k (suc i)))

  pub low_under : low_word b < words_end
  unfolding low_word
  low_under = read_under 8 0

  pub high_under : high_word b < words_end
  unfolding high_word
  high_under = read_under 8 8

-- ---- a map of data

abbrev pub low_words : List (ℕ × List ℕ) → List ℕ
low_words l = map low_word (values l)

abbrev pub high_words : List (ℕ × List ℕ) → List ℕ
high_words l = map high_word (values l)

abbrev pub lengths : List (ℕ × List ℕ) → List ℕ
lengths l = map length (values l)

rows_valid : (l : List (ℕ × List ℕ)) → all_short l ≡ true → lists_under bytes_end (values l) ≡ true → All ValidEntry (rows (lengths l) (low_words l) (high_words l))
unfolding rows values all_short lists_under All
rows_valid [] s e = tt
rows_valid (x ∷ l) s e = (
  row_valid x.1 (leb-true _ _ (and_left (leb (length x.1) 16) _ s)) (and_left (all_under bytes_end x.1) _ e),
  rows_valid l (and_right (leb (length x.1) 16) _ s) (and_right (all_under bytes_end x.1) _ e),
)

rows_hold : (l : List (ℕ × List ℕ)) → all_short l ≡ true → lists_under bytes_end (values l) ≡ true → map entry_bytes (rows (lengths l) (low_words l) (high_words l)) ≡ values l
unfolding rows values all_short lists_under
rows_hold [] s e = refl
rows_hold (x ∷ l) s e =
    let p = row_holds x.1 (leb-true _ _ (and_left (leb (length x.1) 16) _ s)) (and_left (all_under bytes_end x.1) _ e) in
    let q = rows_hold l (and_right (leb (length x.1) 16) _ s) (and_right (all_under bytes_end x.1) _ e) in
    λ i. p i ∷ q i

module _ (n : ℕ) (l : List (ℕ × List ℕ)) where
  halves : pad 0 n (keys l) ++ pad 0 n (lengths l) ++ pad 0 n (low_words l) ++ pad 0 n (high_words l) ≡ (pad 0 n (keys l) ++ pad 0 n (lengths l)) ++ (pad 0 n (low_words l) ++ pad 0 n (high_words l))
  halves = append_assoc (pad 0 n (keys l) ++ pad 0 n (lengths l)) (pad 0 n (low_words l)) (pad 0 n (high_words l))

  pub data_stored : Stored (n + n) (data_section n l) (pad 0 n (keys l) ++ pad 0 n (lengths l)) (pad 0 n (low_words l) ++ pad 0 n (high_words l)) (length l)
  unfolding data_section
  data_stored =
      let a : List ℕ = pad 0 n (keys l) ++ pad 0 n (lengths l) in
      let b : List ℕ = pad 0 n (low_words l) ++ pad 0 n (high_words l) in
      subst (λ (t : List ℕ). Stored (n + n) (t ++ (length l ∷ [])) a b (length l)) (sym halves)
      (two_stored (n + n) a b (two_columns n (keys l) (lengths l)).long (two_columns n (low_words l) (high_words l)).long (length l))

  pub data_hold : length l ≤ n → Rising (keys l) → all_short l ≡ true → lists_under bytes_end (values l) ≡ true → HoldsDataWords n (data_section n l) l
  data_hold h r s e =
      let p : (f : List ℕ → ℕ) → length l ≡ length (map f (values l)) = λ f. sym (length-map (values l) f ∙ length_values l) in
      let q = length_rows (lengths l) (low_words l) (high_words l) (sym (p low_word) ∙ p length) (sym (p high_word) ∙ p length) in
      data_held n _ _ _ (length l) (keys l) (lengths l) (low_words l) (high_words l) l data_stored (two_columns n (keys l) (lengths l)) (two_columns n (low_words l) (high_words l))
      (sym (length_keys l)) (p length) (p low_word) (p high_word) h
      (entries_of no_data n entry_bytes ValidEntry (keys l) (rows (lengths l) (low_words l) (high_words l)) _ _ (length l) l refl refl (sym (length_keys l)) (p length ∙ sym q) h (rows_valid l s e) r
      (ap (zip (keys l)) (rows_hold l s e) ∙ zip_back l))
