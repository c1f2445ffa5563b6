-- The loop that writes the items of a field: a number, peers, peers with their numbers, or peers with their data.
-- Assumes nothing.
use Prim.Native.Nat.{ℕ, zero, suc, ◌+◌, ◌*◌, min, ◌^◌, ◌≤◌, ◌<◌}
use mathlib.Core.Path.{◌≡◌, refl, sym, ap, ◌∙◌, subst}
use mathlib.Core.List.{List, [], ◌∷◌, ◌++◌, map}
use mathlib.Core.Logic.{⊎_elim}
use native.Mathlib.Omega.{arith}
use lib.ListN.{length, take, drop, get_or, length-take, length-map, drop_of_length-le}
use lib.Seq.{drop-cons, get_or-take}
use borrow.Author.Tests.{eq-eqb, ne_eqb}
use Rattle.base_lists.specs.Maps.{zip}
use Rattle.base_lists.proofs.Choice.{choose_yes, choose_no}
use Rattle.base_lists.proofs.Entries.{getD_mapped}
use Rattle.base_peer.specs.Maps.{no_data, entry_bytes}
use Rattle.base_util.specs.Section.{part, items_at}
use Rattle.base_util.proofs.Parts.{part_long, part_read}
use Rattle.base_columns.specs.Columns.{numbers_at, word_bytes, row, head_of, tail_of, count_of, entries_at, data_map_at}
use Rattle.base_columns.proofs.Data.{head_long, tail_long, head_read, low_read, high_read}
use Rattle.base_columns.proofs.Rows.{length_rows, get_d_rows}
use Rattle.run_text.specs.declared.Page.{Page}
use Rattle.run_text.specs.Text.{Prints}
use Rattle.run_text.specs.Numbers.{decimal}
use Rattle.run_text.proofs.Written.{nothing, then, named}
use Rattle.trace_text.specs.Hex.{hex}
use Rattle.trace_text.specs.Items.{ascii, comma_before, item_text, items_text, numbered_text, held_text}
use Rattle.trace_text.specs.Fields.{texts_at, field_at, InWords}
use Rattle.trace_text.proofs.Writing.{Writing, writing_start, writing_next, writing_end}

first_read : (c cap : ℕ) (s : List ℕ) (i : ℕ) → i < c → i < cap → get_or (take c (part 0 cap s)) i 0 ≡ get_or s i 0
unfolding part
first_read c cap s i h l = get_or-take c (part 0 cap s) i 0 h ∙ get_or-take cap s i 0 l

-- ---- pairs

module _ {A : Type 0} where
  length_zip : (ks : List ℕ) (vs : List A) → length vs ≡ length ks → length (zip ks vs) ≡ length ks
  unfolding zip
  length_zip [] vs e = refl
  length_zip (k ∷ ks) [] e = absurd (omega (arith, e))
  length_zip (k ∷ ks) (v ∷ vs) e = ap suc (length_zip ks vs (omega (arith, e)))

  pair_at : (ks : List ℕ) (vs : List A) (i : ℕ) (d : ℕ × A) (c : A) → length vs ≡ length ks → i < length ks → get_or (zip ks vs) i d ≡ (get_or ks i 0, get_or vs i c)
  unfolding zip
  pair_at [] vs i d c e h = absurd (omega (arith, h))
  pair_at (k ∷ ks) [] i d c e h = absurd (omega (arith, e))
  pair_at (k ∷ ks) (v ∷ vs) zero d c e h = refl
  pair_at (k ∷ ks) (v ∷ vs) (suc i) d c e h = pair_at ks vs i d c (omega (arith, e)) (omega (arith, h))

-- ---- peers, alone and with their numbers

module _ (cap : ℕ) (s : List ℕ) (l : length s ≡ cap + 1) where
  peers_count : length (items_at cap s) ≡ min (get_or s cap 0) cap
  unfolding items_at
  peers_count = omega (arith, length-take (get_or s cap 0) (part 0 cap s), part_long 0 cap s (omega (arith, l)))

  peer_at : (i : ℕ) → i < get_or s cap 0 → i < cap → get_or (items_at cap s) i 0 ≡ get_or s i 0
  unfolding items_at
  peer_at i few inside = first_read (get_or s cap 0) cap s i few inside

module _ (cap : ℕ) (m : List ℕ) (l : length m ≡ cap + cap + 1) where
  keys_count : length (take (get_or m (cap + cap) 0) (part 0 cap m)) ≡ min (get_or m (cap + cap) 0) cap
  keys_count = omega (arith, length-take (get_or m (cap + cap) 0) (part 0 cap m), part_long 0 cap m (omega (arith, l)))

  values_count : length (take (get_or m (cap + cap) 0) (part cap cap m)) ≡ length (take (get_or m (cap + cap) 0) (part 0 cap m))
  values_count = omega (arith, keys_count, length-take (get_or m (cap + cap) 0) (part cap cap m), part_long cap cap m (omega (arith, l)))

  numbers_count : length (numbers_at cap m) ≡ min (get_or m (cap + cap) 0) cap
  unfolding numbers_at
  numbers_count = length_zip _ _ values_count ∙ keys_count

  number_at : (i : ℕ) → i < get_or m (cap + cap) 0 → i < cap → get_or (numbers_at cap m) i (0, 0) ≡ (get_or m i 0, get_or m (cap + i) 0)
  unfolding numbers_at
  number_at i few inside =
      let c : ℕ = get_or m (cap + cap) 0 in
      pair_at (take c (part 0 cap m)) (take c (part cap cap m)) i (0, 0) 0 values_count (omega (arith, keys_count, few, inside))
      ∙ (λ j. (first_read c cap m i few inside j, (get_or-take c (part cap cap m) i 0 few ∙ part_read cap cap i m inside) j))

-- ---- peers with their data

module _ (n : ℕ) (m : List ℕ) (l : length m ≡ n + n + (n + n) + 1) where
  lens_long : length (part n n (head_of n m)) ≡ n
  lens_long = part_long n n (head_of n m) (omega (arith, head_long n m l))

  lows_long : length (part 0 n (tail_of n m)) ≡ length (part n n (head_of n m))
  lows_long = part_long 0 n (tail_of n m) (omega (arith, tail_long n m l)) ∙ sym lens_long

  highs_long : length (part n n (tail_of n m)) ≡ length (part n n (head_of n m))
  highs_long = part_long n n (tail_of n m) (omega (arith, tail_long n m l)) ∙ sym lens_long

  entries_long : length (entries_at n m) ≡ n
  unfolding entries_at
  entries_long = length_rows _ _ _ lows_long highs_long ∙ lens_long

  held_keys : length (take (count_of n m) (part 0 n (head_of n m))) ≡ min (count_of n m) n
  held_keys = omega (arith, length-take (count_of n m) (part 0 n (head_of n m)), part_long 0 n (head_of n m) (omega (arith, head_long n m l)))

  held_values : length (map entry_bytes (take (count_of n m) (entries_at n m))) ≡ length (take (count_of n m) (part 0 n (head_of n m)))
  held_values = length-map (take (count_of n m) (entries_at n m)) entry_bytes ∙ omega (arith, held_keys, length-take (count_of n m) (entries_at n m), entries_long)

  held_count : length (data_map_at n m) ≡ min (count_of n m) n
  unfolding data_map_at
  held_count = length_zip _ _ held_values ∙ held_keys

  module _ (i : ℕ) (few : i < count_of n m) (inside : i < n) where
    held_key : get_or (take (count_of n m) (part 0 n (head_of n m))) i 0 ≡ get_or m i 0
    unfolding head_of part
    held_key = first_read (count_of n m) n (head_of n m) i few inside ∙ get_or-take (n + n) m i 0 (omega (arith, inside))

    entry_at : get_or (entries_at n m) i no_data ≡ row (get_or m (n + i) 0) (get_or m (n + n + i) 0) (get_or m (n + n + n + i) 0)
    unfolding entries_at
    entry_at =
        get_d_rows i no_data _ _ _ lows_long highs_long (omega (arith, lens_long, inside))
        ∙ (λ j. row (head_read n m i inside j) (low_read n m i inside j) (high_read n m i inside j))

    held_value : get_or (map entry_bytes (take (count_of n m) (entries_at n m))) i []
        ≡ take (get_or m (n + i) 0) (word_bytes (get_or m (n + n + i) 0) (get_or m (n + n + n + i) 0))
    held_value =
        getD_mapped entry_bytes (take (count_of n m) (entries_at n m)) i no_data [] (omega (arith, length-take (count_of n m) (entries_at n m), entries_long, few, inside))
        ∙ ap entry_bytes (get_or-take (count_of n m) (entries_at n m) i no_data few ∙ entry_at)

    held_at : get_or (data_map_at n m) i (0, []) ≡ (get_or m i 0, take (get_or m (n + i) 0) (word_bytes (get_or m (n + n + i) 0) (get_or m (n + n + n + i) 0)))
    unfolding data_map_at
    held_at = pair_at _ _ i (0, []) [] held_values (omega (arith, held_keys, few, inside)) ∙ (λ j. (held_key j, held_value j))

-- ---- the texts of a field, in the state's words

module _ (a k : ℕ) (xs : List ℕ) where
  module _ (w : a + k < length xs) where
    one_long : length (part a (k + 1) xs) ≡ k + 1
    one_long = part_long a (k + 1) xs (omega (arith, w))

    one_count : length (items_at k (part a (k + 1) xs)) ≡ min (get_or xs (a + k) 0) k
    one_count = peers_count k (part a (k + 1) xs) one_long ∙ ap (λ (n : ℕ). min n k) (part_read a (k + 1) k xs (omega arith))

    one_text : (i : ℕ) → i < get_or xs (a + k) 0 → i < k → get_or (map decimal (items_at k (part a (k + 1) xs))) i [] ≡ decimal (get_or xs (a + i) 0)
    one_text i few inside =
        getD_mapped decimal (items_at k (part a (k + 1) xs)) i 0 [] (omega (arith, one_count, few, inside))
        ∙ ap decimal (peer_at k _ one_long i (subst (λ (n : ℕ). i < n) (sym (part_read a (k + 1) k xs (omega arith))) few) inside ∙ part_read a (k + 1) i xs (omega (arith, inside)))

  module _ (w : a + (k + k) < length xs) where
    two_long : length (part a (k + k + 1) xs) ≡ k + k + 1
    two_long = part_long a (k + k + 1) xs (omega (arith, w))

    two_count : length (numbers_at k (part a (k + k + 1) xs)) ≡ min (get_or xs (a + (k + k)) 0) k
    two_count = numbers_count k (part a (k + k + 1) xs) two_long ∙ ap (λ (n : ℕ). min n k) (part_read a (k + k + 1) (k + k) xs (omega arith))

    two_text : (i : ℕ) → i < get_or xs (a + (k + k)) 0 → i < k → get_or (map numbered_text (numbers_at k (part a (k + k + 1) xs))) i [] ≡ numbered_text (get_or xs (a + i) 0, get_or xs (a + (k + i)) 0)
    two_text i few inside =
        getD_mapped numbered_text (numbers_at k (part a (k + k + 1) xs)) i (0, 0) [] (omega (arith, two_count, few, inside))
        ∙ ap numbered_text
        (number_at k _ two_long i (subst (λ (n : ℕ). i < n) (sym (part_read a (k + k + 1) (k + k) xs (omega arith))) few) inside
        ∙ (λ j. (part_read a (k + k + 1) i xs (omega (arith, inside)) j, part_read a (k + k + 1) (k + i) xs (omega (arith, inside)) j)))

  module _ (w : a + (k + k + (k + k)) < length xs) where
    four_long : length (part a (k + k + (k + k) + 1) xs) ≡ k + k + (k + k) + 1
    four_long = part_long a (k + k + (k + k) + 1) xs (omega (arith, w))

    four_count : length (data_map_at k (part a (k + k + (k + k) + 1) xs)) ≡ min (get_or xs (a + (k + k + (k + k))) 0) k
    four_count = held_count k _ four_long ∙ ap (λ (n : ℕ). min n k) (part_read a (k + k + (k + k) + 1) (k + k + (k + k)) xs (omega arith))

    four_text : (i : ℕ) → i < get_or xs (a + (k + k + (k + k))) 0 → i < k → get_or (map held_text (data_map_at k (part a (k + k + (k + k) + 1) xs))) i []
        ≡ held_text (get_or xs (a + i) 0, take (get_or xs (a + (k + i)) 0) (word_bytes (get_or xs (a + (k + k + i)) 0) (get_or xs (a + (k + k + k + i)) 0)))
    four_text i few inside =
        let at : (j : ℕ) → j < k + k + (k + k) + 1 → get_or (part a (k + k + (k + k) + 1) xs) j 0 ≡ get_or xs (a + j) 0 = λ j h. part_read a (k + k + (k + k) + 1) j xs h in
        getD_mapped held_text (data_map_at k (part a (k + k + (k + k) + 1) xs)) i (0, []) [] (omega (arith, four_count, few, inside))
        ∙ ap held_text
        (held_at k _ four_long i (subst (λ (n : ℕ). i < n) (sym (at (k + k + (k + k)) (omega arith))) few) inside
        ∙ (λ j. (at i (omega (arith, inside)) j, take (at (k + i) (omega (arith, inside)) j) (word_bytes (at (k + k + i) (omega (arith, inside)) j) (at (k + k + k + i) (omega (arith, inside)) j)))))

-- ---- the loop

-- the items before the i-th are written, of the items of the field as many as the count says and there is room for
pub record Listed (c a k : ℕ) (xs : List ℕ) (count : ℕ) (t r : Page) (i : ℕ) : Type 0 where
  pub form : InWords c a k (length xs)
  pub many : length (texts_at c a k xs) ≡ min count k
  pub within : i ≤ k
  pub inside : a + k ≤ length xs
  pub short : length xs * 8 < 2 ^ 63
  pub text : Writing (field_at c a k xs) t r (items_text (λ (x : List ℕ). x) i (drop i (texts_at c a k xs)))

module _ (c a k : ℕ) (xs : List ℕ) (w : InWords c a k (length xs)) where
  texts_none : c ≡ 0 → texts_at c a k xs ≡ decimal (get_or xs a 0) ∷ []
  unfolding texts_at
  texts_none e = choose_yes _ _ _ (eq-eqb c 0 e)

  texts_one : c ≡ 1 → texts_at c a k xs ≡ map decimal (items_at k (part a (k + 1) xs))
  unfolding texts_at
  texts_one e = choose_no _ _ _ (ne_eqb c 0 (λ z. omega (arith, e, z))) ∙ choose_yes _ _ _ (eq-eqb c 1 e)

  texts_two : c ≡ 2 → texts_at c a k xs ≡ map numbered_text (numbers_at k (part a (k + k + 1) xs))
  unfolding texts_at
  texts_two e = choose_no _ _ _ (ne_eqb c 0 (λ z. omega (arith, e, z))) ∙ (choose_no _ _ _ (ne_eqb c 1 (λ z. omega (arith, e, z))) ∙ choose_yes _ _ _ (eq-eqb c 2 e))

  texts_four : c ≡ 4 → texts_at c a k xs ≡ map held_text (data_map_at k (part a (k + k + (k + k) + 1) xs))
  unfolding texts_at
  texts_four e =
      choose_no _ _ _ (ne_eqb c 0 (λ z. omega (arith, e, z)))
      ∙ (choose_no _ _ _ (ne_eqb c 1 (λ z. omega (arith, e, z))) ∙ choose_no _ _ _ (ne_eqb c 2 (λ z. omega (arith, e, z))))

  -- where the count stands
  place_of : (d : ℕ) → c ≡ d → a + c * k ≡ a + d * k
  place_of d e = ap (λ (z : ℕ). a + z * k) e

  inside_of : (d : ℕ) → c ≡ d → a + d * k < length xs
  inside_of d e = subst (λ (z : ℕ). z < length xs) (place_of d e) w.inside

  in_one : c ≡ 1 → a + k < length xs
  in_one e = let h = inside_of 1 e in omega (arith, h)

  in_two : c ≡ 2 → a + (k + k) < length xs
  in_two e = let h = inside_of 2 e in omega (arith, h)

  in_four : c ≡ 4 → a + (k + k + (k + k)) < length xs
  in_four e = let h = inside_of 4 e in omega (arith, h)

  long_one : c ≡ 1 → length (texts_at c a k xs) ≡ min (get_or xs (a + k) 0) k
  long_one e = ap length (texts_one e) ∙ (length-map (items_at k (part a (k + 1) xs)) decimal ∙ one_count a k xs (in_one e))

  long_two : c ≡ 2 → length (texts_at c a k xs) ≡ min (get_or xs (a + (k + k)) 0) k
  long_two e = ap length (texts_two e) ∙ (length-map (numbers_at k (part a (k + k + 1) xs)) numbered_text ∙ two_count a k xs (in_two e))

  long_four : c ≡ 4 → length (texts_at c a k xs) ≡ min (get_or xs (a + (k + k + (k + k))) 0) k
  long_four e = ap length (texts_four e) ∙ (length-map (data_map_at k (part a (k + k + (k + k) + 1) xs)) held_text ∙ four_count a k xs (in_four e))

  count_read : (d p : ℕ) → c ≡ d → a + d * k ≡ p → min (get_or xs p 0) k ≡ min (get_or xs (a + c * k) 0) k
  count_read d p e q = ap (λ (z : ℕ). min (get_or xs z 0) k) (sym (place_of d e ∙ q))

  counted : (c ≡ 0 → ⊥) → length (texts_at c a k xs) ≡ min (get_or xs (a + c * k) 0) k
  counted z =
      ⊎_elim (λ e. absurd (z e))
      (λ s. ⊎_elim (λ e. long_one e ∙ count_read 1 (a + k) e (omega arith))
      (λ u. ⊎_elim (λ e. long_two e ∙ count_read 2 (a + (k + k)) e (omega arith)) (λ e. long_four e ∙ count_read 4 (a + (k + k + (k + k))) e (omega arith)) u) s)
      w.form

  alone : c ≡ 0 → length (texts_at c a k xs) ≡ min 1 k
  alone e = ap length (texts_none e) ∙ omega (arith, w.some)

  start : (count : ℕ) (t : Page) → length xs * 8 < 2 ^ 63 → length (texts_at c a k xs) ≡ min count k → Listed c a k xs count t t 0
  unfolding field_at
  start count t b m = record { form = w; many = m; within = omega arith; inside = w.first; short = b; text = writing_start (field_at c a k xs) t }

  pub listed_some : (count : ℕ) (t : Page) → length xs * 8 < 2 ^ 63 → (c ≡ 0 → ⊥) → count ≡ get_or xs (a + c * k) 0 → Listed c a k xs count t t 0
  listed_some count t b z e = start count t b (counted z ∙ ap (λ (n : ℕ). min n k) (sym e))

  pub listed_alone : (count : ℕ) (t : Page) → length xs * 8 < 2 ^ 63 → c ≡ 0 → count ≡ 1 → Listed c a k xs count t t 0
  listed_alone count t b z e = start count t b (alone z ∙ ap (λ (n : ℕ). min n k) (sym e))

-- a comma or none
pub comma_none : (i : ℕ) (t : Page) → i ≡ 0 → Prints (comma_before i) t t
unfolding comma_before
comma_none i t e = named (sym (choose_yes _ _ _ (eq-eqb i 0 e))) nothing

pub comma_some : (i : ℕ) (t r : Page) → (i ≡ 0 → ⊥) → Prints (44 ∷ []) t r → Prints (comma_before i) t r
unfolding comma_before ascii
comma_some i t r e k = named (sym (choose_no _ _ _ (ne_eqb i 0 e))) k

module _ (c a k : ℕ) (xs : List ℕ) (count : ℕ) (t r : Page) (i : ℕ) (v : Listed c a k xs count t r i) where
  pub second_inside : i < k → 1 < c → a + i + k < length xs
  second_inside h l =
      ⊎_elim (λ e. absurd (omega (arith, e, l)))
      (λ s. ⊎_elim (λ e. absurd (omega (arith, e, l))) (λ u. ⊎_elim (λ e. let q = in_two c a k xs v.form e in omega (arith, q, h)) (λ e. let q = in_four c a k xs v.form e in omega (arith, q, h)) u) s)
      v.form.form

  pub is_four : 1 < c → (c ≡ 2 → ⊥) → c ≡ 4
  is_four l n =
      ⊎_elim (λ e. absurd (omega (arith, e, l)))
      (λ s. ⊎_elim (λ e. absurd (omega (arith, e, l))) (λ u. ⊎_elim (λ e. absurd (n e)) (λ e. e) u) s)
      v.form.form

  pub third_inside : i < k → 1 < c → (c ≡ 2 → ⊥) → a + i + 2 * k < length xs
  third_inside h l n = let q = in_four c a k xs v.form (is_four l n) in omega (arith, q, h)

  pub fourth_inside : i < k → 1 < c → (c ≡ 2 → ⊥) → a + i + 3 * k < length xs
  fourth_inside h l n = let q = in_four c a k xs v.form (is_four l n) in omega (arith, q, h)

  over : length (texts_at c a k xs) ≤ i → Prints (field_at c a k xs) t r
  unfolding items_text
  over h = writing_end v.text (ap (items_text (λ (x : List ℕ). x) i) (drop_of_length-le (texts_at c a k xs) h))

  pub listed_full : min count k ≤ i → Prints (field_at c a k xs) t r
  listed_full h = over (omega (arith, v.many, h))

  module _ (h : i < k) (l : i < count) where
    one_item : items_text (λ (x : List ℕ). x) i (drop i (texts_at c a k xs))
        ≡ item_text (λ (x : List ℕ). x) i (get_or (texts_at c a k xs) i []) ++ items_text (λ (x : List ℕ). x) (i + 1) (drop (i + 1) (texts_at c a k xs))
    unfolding items_text
    one_item =
        let e : suc i ≡ i + 1 = omega arith in
        ap (items_text (λ (x : List ℕ). x) i) (drop-cons (texts_at c a k xs) i [] (omega (arith, h, l, v.many)))
        ∙ ap (λ (j : ℕ). item_text (λ (x : List ℕ). x) i (get_or (texts_at c a k xs) i []) ++ items_text (λ (x : List ℕ). x) j (drop j (texts_at c a k xs))) e

    next : (x : List ℕ) (s : Page) → get_or (texts_at c a k xs) i [] ≡ x → Prints (comma_before i ++ x) r s → Listed c a k xs count t s (i + 1)
    unfolding item_text
    next x s e u = record {
      form = v.form;
      many = v.many;
      within = omega (arith, h);
      inside = v.inside;
      short = v.short;
      text = writing_next v.text (comma_before i ++ x) _ (one_item ∙ ap (λ (y : List ℕ). item_text (λ (z : List ℕ). z) i y ++ items_text (λ (z : List ℕ). z) (i + 1) (drop (i + 1) (texts_at c a k xs))) e) u;
    }

    single : c ≤ 1 → get_or (texts_at c a k xs) i [] ≡ decimal (get_or xs (a + i) 0)
    single f =
        ⊎_elim (λ e. let z : i ≡ 0 = omega (arith, h, l, v.many, alone c a k xs v.form e) in let g : a ≡ a + i = omega (arith, z) in
        (λ j. get_or (texts_none c a k xs v.form e j) (z j) []) ∙ ap (λ (j : ℕ). decimal (get_or xs j 0)) g)
        (λ s. ⊎_elim (λ e. ap (λ (y : List (List ℕ)). get_or y i []) (texts_one c a k xs v.form e) ∙ one_text a k xs (in_one c a k xs v.form e) i (omega (arith, h, l, v.many, long_one c a k xs v.form e)) h)
        (λ u. ⊎_elim (λ e. absurd (omega (arith, e, f))) (λ e. absurd (omega (arith, e, f))) u) s)
        v.form.form

    module _ (r₁ r₂ : Page) (p₂ : Prints (decimal (get_or xs (a + i) 0)) r₁ r₂) (p₁ : Prints (comma_before i) r r₁) where
      pub single_next : c ≤ 1 → Listed c a k xs count t r₂ (i + 1)
      single_next f = next _ r₂ (single f) (then p₂ p₁)

      module _ (r₃ r₄ : Page) (p₃ : Prints (58 ∷ []) r₂ r₃) where
        pub numbered_next : c ≡ 2 → Prints (decimal (get_or xs (a + i + k) 0)) r₃ r₄ → Listed c a k xs count t r₄ (i + 1)
        unfolding numbered_text ascii
        numbered_next e p₄ =
            let g : a + (k + i) ≡ a + i + k = omega arith in
            next (numbered_text (get_or xs (a + i) 0, get_or xs (a + i + k) 0)) r₄
            (ap (λ (y : List (List ℕ)). get_or y i []) (texts_two c a k xs v.form e)
            ∙ (two_text a k xs (in_two c a k xs v.form e) i (omega (arith, h, l, v.many, long_two c a k xs v.form e)) h ∙ ap (λ (j : ℕ). numbered_text (get_or xs (a + i) 0, get_or xs j 0)) g))
            (then (then (then p₄ p₃) p₂) p₁)

        pub held_next : (b : List ℕ) → 1 < c → (c ≡ 2 → ⊥) → b ≡ word_bytes (get_or xs (a + i + 2 * k) 0) (get_or xs (a + i + 3 * k) 0) → Prints (hex (take (get_or xs (a + i + k) 0) b)) r₃ r₄
            → Listed c a k xs count t r₄ (i + 1)
        unfolding held_text ascii
        held_next b f n y p₄ =
            let e = is_four f n in
            let g : a + (k + i) ≡ a + i + k = omega arith in
            let g₂ : a + (k + k + i) ≡ a + i + 2 * k = omega arith in
            let g₃ : a + (k + k + k + i) ≡ a + i + 3 * k = omega arith in
            next (held_text (get_or xs (a + i) 0, take (get_or xs (a + i + k) 0) b)) r₄
            (ap (λ (z : List (List ℕ)). get_or z i []) (texts_four c a k xs v.form e)
            ∙ (four_text a k xs (in_four c a k xs v.form e) i (omega (arith, h, l, v.many, long_four c a k xs v.form e)) h
            ∙ ((λ j. held_text (get_or xs (a + i) 0, take (get_or xs (g j) 0) (word_bytes (get_or xs (g₂ j) 0) (get_or xs (g₃ j) 0))))
            ∙ ap (λ (z : List ℕ). held_text (get_or xs (a + i) 0, take (get_or xs (a + i + k) 0) z)) (sym y))))
            (then (then (then p₄ p₃) p₂) p₁)
