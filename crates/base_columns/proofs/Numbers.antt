-- A map of numbers as a section: both columns or the count are put back, and what its words are.
-- Assumes nothing.
use Prim.Native.Nat.{ℕ, ◌+◌, ◌-◌, ◌≤◌, ◌<◌}
use mathlib.Core.Path.{◌≡◌, refl, sym, ap, ◌∙◌, subst}
use mathlib.Core.Bool.{Bool, true, false, ◌||◌, ◌&&◌, and_assoc}
use mathlib.Core.List.{List}
use mathlib.Core.Option.{some}
use native.Mathlib.Omega.{arith}
use lib.ListN.{length, take, drop, get_or, set, length-set}
use lib.Seq.{length-take-le, take-take, get_or-set_same, get_or-set_other}
use lib.Dec.{ltb, leb}
use borrow.Author.Tests.{lt-leb, le-leb, leb-true, eq-eqb, eqb-true}
use borrow.Rule.Slice.PartMut.{put_mid}
use Rattle.base_lists.specs.Array.{pad}
use Rattle.base_lists.specs.Lists.{mem, index_of, rank, shift_remove, insert_at, Rising, rising}
use Rattle.base_lists.specs.Maps.{keys, zip, has, lookup, cut, put}
use Rattle.base_lists.specs.Tests.{every, packed}
use Rattle.base_lists.proofs.Array.{length_pad}
use Rattle.base_lists.proofs.Choice.{and_left, and_right}
use Rattle.base_lists.proofs.Tests.{both_true, rising_true, true_rising, packed_true, true_packed}
use Rattle.base_lists.proofs.Zip.{keys_zip}
use Rattle.base_lists.proofs.Entries.{Entries, entries_keys, entries_length, entries_found, entries_none, entries_room, entries_cut, entries_cut_none, entries_replace, entries_insert}
use Rattle.std.specs.Prelude.{Some, None}
use Rattle.base_peer.specs.Maps.{number_in}
use Rattle.base_peer.proofs.Maps.{itself, Any, all_any, map_itself}
use Rattle.base_scan.specs.Words.{unused}
use Rattle.base_util.specs.Section.{part, Filled}
use Rattle.base_util.proofs.Parts.{part_long, part_read, part_put, part_before, part_set_after, part_set_in, part_past, put_long, first_put_long, after_first}
use Rattle.base_columns.specs.Columns.{numbers_at, ValidNumbers, HoldsNumbers, valid_numbers}

-- ---- a map of numbers

pub record Stored (n : ℕ) (m ks es : List ℕ) (c : ℕ) : Type 0 where
  pub long : length m ≡ n + n + 1
  pub first : part 0 n m ≡ ks
  pub second : part n n m ≡ es
  pub count : get_or m (n + n) 0 ≡ c

module _ (n : ℕ) (m ys zs : List ℕ) (c : ℕ) (l : length m ≡ n + n + 1) (p : length ys ≡ n) where
  once_long : length (put_mid 0 n m ys) ≡ n + n + 1
  once_long = first_put_long n m ys (omega arith) p ∙ l

  pub once_second : part n n (put_mid 0 n m ys) ≡ part n n m
  once_second = after_first n n m ys (omega arith) p

  pub twice_long : length zs ≡ n → length (put_mid n (n + n - n) (put_mid 0 n m ys) zs) ≡ n + n + 1
  twice_long q = put_long n (n + n) (put_mid 0 n m ys) zs (omega arith) (omega (arith, once_long)) (omega arith) ∙ once_long

  pub both_stored : length zs ≡ n → Stored n (set (put_mid n (n + n - n) (put_mid 0 n m ys) zs) (n + n) c) ys zs c
  both_stored q =
      let d : n + n - n ≡ n = omega arith in
      let b : List ℕ = put_mid n (n + n - n) (put_mid 0 n m ys) zs in
      let w = twice_long q in
      let s : part n (n + n - n) b ≡ zs = part_put n (n + n - n) (put_mid 0 n m ys) zs (omega (arith, once_long)) (q ∙ sym d) in
      record {
        long = length-set b (n + n) c ∙ w;
        first = part_set_after 0 n (n + n) c b (omega arith)
            ∙ part_before 0 n n (n + n - n) (put_mid 0 n m ys) zs (omega arith) (omega (arith, once_long))
            ∙ part_put 0 n m ys (omega arith) p;
        second = part_set_after n n (n + n) c b (omega arith) ∙ ap (λ (k : ℕ). part n k b) (sym d) ∙ s;
        count = get_or-set_same b (n + n) c 0 (omega (arith, w));
      }

pub number_entries : (n : ℕ) (m : List ℕ) → ValidNumbers n m → Entries 0 n itself Any (part 0 n m) (part n n m) (get_or m (n + n) 0) (numbers_at n m)
unfolding numbers_at
number_entries n m v =
    let a : length (part 0 n m) ≡ n = part_long 0 n m (omega (arith, v.long)) in
    let b : length (part n n m) ≡ n = part_long n n m (omega (arith, v.long)) in
    record {
      fits = v.fits;
      keyed = subst (λ (k : ℕ). part 0 n m ≡ pad 0 k (take (get_or m (n + n) 0) (part 0 n m))) a v.keyed.packed;
      packed = subst (λ (k : ℕ). part n n m ≡ pad 0 k (take (get_or m (n + n) 0) (part n n m))) b v.filled.packed;
      each = all_any _;
      rises = v.rises;
      items = ap (zip (take (get_or m (n + n) 0) (part 0 n m))) (map_itself (take (get_or m (n + n) 0) (part n n m)));
    }

held_whole : (n : ℕ) (m : List ℕ) (l : List (ℕ × ℕ)) → length m ≡ n + n + 1 → Entries 0 n itself Any (part 0 n m) (part n n m) (get_or m (n + n) 0) l → HoldsNumbers n m l
unfolding numbers_at
held_whole n m l w e =
    let a : length (part 0 n m) ≡ n = part_long 0 n m (omega arith) in
    let b : length (part n n m) ≡ n = part_long n n m (omega arith) in
    let q : numbers_at n m ≡ l = ap (zip (take (get_or m (n + n) 0) (part 0 n m))) (sym (map_itself (take (get_or m (n + n) 0) (part n n m)))) ∙ e.items in
    record {
      valid = record {
        long = w;
        fits = e.fits;
        counted = ap length q ∙ entries_length 0 n itself Any _ _ _ l e;
        keyed = record { fits = omega (arith, e.fits); packed = subst (λ (k : ℕ). part 0 n m ≡ pad 0 k (take (get_or m (n + n) 0) (part 0 n m))) (sym a) e.keyed };
        filled = record { fits = omega (arith, e.fits); packed = subst (λ (k : ℕ). part n n m ≡ pad 0 k (take (get_or m (n + n) 0) (part n n m))) (sym b) e.packed };
        rises = subst (λ (k : List (ℕ × ℕ)). Rising (keys k)) (sym q) e.rises;
      };
      items = q;
    }

pub number_held : (n : ℕ) (m ks es : List ℕ) (c : ℕ) (l : List (ℕ × ℕ)) → Stored n m ks es c → Entries 0 n itself Any ks es c l → HoldsNumbers n m l
number_held n m ks es c l s e =
    held_whole n m l s.long (subst (λ (k : ℕ). Entries 0 n itself Any (part 0 n m) (part n n m) k l) (sym s.count)
    (subst (λ (k : List ℕ). Entries 0 n itself Any (part 0 n m) k c l) (sym s.second) (subst (λ (k : List ℕ). Entries 0 n itself Any k es c l) (sym s.first) e)))

module _ (n : ℕ) (m : List ℕ) (v : ValidNumbers n m) where
  pub number_keys : keys (numbers_at n m) ≡ take (get_or m (n + n) 0) (part 0 n m)
  number_keys = entries_keys 0 n itself Any _ _ _ _ (number_entries n m v)

  -- the peers, as the code lends them
  pub numbers_lent : take (get_or m (n + n) 0) m ≡ keys (numbers_at n m)
  unfolding part
  numbers_lent = sym (number_keys ∙ take-take (get_or m (n + n) 0) n m v.fits)

  pub numbers_counted : get_or m (n + n) 0 ≡ length (take (get_or m (n + n) 0) m)
  numbers_counted = sym (length-take-le (get_or m (n + n) 0) m (omega (arith, v.fits, v.long)))

  pub number_has : (p : ℕ) (r : Bool) → r ≡ mem p (take (get_or m (n + n) 0) m) → r ≡ has p (numbers_at n m)
  unfolding has
  number_has p r q = q ∙ ap (mem p) numbers_lent

  module _ (p i : ℕ) (e : i ≡ index_of p (take (get_or m (n + n) 0) m)) where
    at_key : i ≡ index_of p (keys (numbers_at n m))
    at_key = e ∙ ap (index_of p) numbers_lent

    pub cut_kept : get_or m (n + n) 0 ≤ i → HoldsNumbers n m (cut p (numbers_at n m))
    cut_kept h = held_whole n m _ v.long (entries_cut_none 0 n itself Any _ _ _ _ (number_entries n m v) p i at_key h)

    pub number_room : get_or m (n + n) 0 ≤ i → (has p (numbers_at n m) || ltb (length (numbers_at n m)) n) ≡ true → get_or m (n + n) 0 < n
    number_room h t = entries_room 0 n itself Any _ _ _ _ (number_entries n m v) p i at_key h t

    pub number_fits : get_or m (n + n) 0 ≤ i → (has p (numbers_at n m) || ltb (length (numbers_at n m)) n) ≡ true → get_or m (n + n) 0 < length (part 0 n m)
    number_fits h t = omega (arith, number_room h t, part_long 0 n m (omega (arith, v.long)))

    pub number_found : i < get_or m (n + n) 0 → number_in (Some (get_or m (n + i) 0)) ≡ lookup p (numbers_at n m)
    unfolding number_in
    number_found h =
        ap some (sym (part_read n n i m (omega (arith, v.fits)))) ∙ sym (entries_found 0 n itself Any _ _ _ _ (number_entries n m v) p i 0 at_key h)

    pub number_none : get_or m (n + n) 0 ≤ i → number_in None ≡ lookup p (numbers_at n m)
    unfolding number_in
    number_none h = sym (entries_none 0 n itself Any _ _ _ _ (number_entries n m v) p i at_key h)

    pub number_replaced : (x : ℕ) → i < get_or m (n + n) 0 → HoldsNumbers n (set m (n + i) x) (put p x (numbers_at n m))
    number_replaced x h =
        let b = v.fits in
        let d : n + n ≡ n + i → ⊥ = λ q. omega arith in
        number_held n (set m (n + i) x) (part 0 n m) (set (part n n m) i x) (get_or m (n + n) 0) _
        (record {
          long = length-set m (n + i) x ∙ v.long;
          first = part_set_after 0 n (n + i) x m (omega arith);
          second = part_set_in n n i x m (omega arith);
          count = get_or-set_other m (n + i) (n + n) x 0 d;
        })
        (entries_replace 0 n itself Any _ _ _ _ (number_entries n m v) p x i x at_key h tt refl)

  -- the second column, after the first was put back
  module _ (ys xs : List ℕ) (o : ys ≡ pad 0 (length (part 0 n m)) xs) where
    first_is : ys ≡ pad 0 n xs
    first_is = rw (part_long 0 n m (omega (arith, v.long))) at o

    first_long : length ys ≡ n
    first_long = ap length first_is ∙ length_pad 0 n xs

    second_is : part n (n + n - n) (put_mid 0 n m ys) ≡ part n n m
    second_is =
        let d : n + n - n ≡ n = omega arith in
        ap (λ (k : ℕ). part n k (put_mid 0 n m ys)) d ∙ once_second n m ys ys 0 v.long first_long

    pub second_filled : Filled (part n (n + n - n) (put_mid 0 n m ys)) (get_or m (n + n) 0)
    second_filled = subst (λ (l : List ℕ). Filled l (get_or m (n + n) 0)) (sym second_is) v.filled

    pub second_fits : get_or m (n + n) 0 < n → get_or m (n + n) 0 < length (part n (n + n - n) (put_mid 0 n m ys))
    second_fits h = omega (arith, ap length second_is ∙ part_long n n m (omega (arith, v.long)))

    -- what a leaf made of the second column, as one of the column that was there
    module _ (zs : List ℕ) (f : List ℕ → List ℕ) (q : zs ≡ pad 0 (length (part n (n + n - n) (put_mid 0 n m ys))) (f (take (get_or m (n + n) 0) (part n (n + n - n) (put_mid 0 n m ys))))) where
      second_made : zs ≡ pad 0 n (f (take (get_or m (n + n) 0) (part n n m)))
      second_made =
          q ∙ (λ a. pad 0 (length (second_is a)) (f (take (get_or m (n + n) 0) (second_is a))))
          ∙ ap (λ (k : ℕ). pad 0 k (f (take (get_or m (n + n) 0) (part n n m)))) (part_long n n m (omega (arith, v.long)))

      made : (c : ℕ) → Stored n (set (put_mid n (n + n - n) (put_mid 0 n m ys) zs) (n + n) c) ys zs c
      made c = both_stored n m ys zs c v.long first_long (ap length second_made ∙ length_pad 0 n (f (take (get_or m (n + n) 0) (part n n m))))

  module _ (p i : ℕ) (e : i ≡ index_of p (take (get_or m (n + n) 0) m)) (ys zs : List ℕ) where
    pub removed : i < get_or m (n + n) 0 → ys ≡ pad 0 (length (part 0 n m)) (shift_remove i (take (get_or m (n + n) 0) (part 0 n m)))
        → zs ≡ pad 0 (length (part n (n + n - n) (put_mid 0 n m ys))) (shift_remove i (take (get_or m (n + n) 0) (part n (n + n - n) (put_mid 0 n m ys))))
        → HoldsNumbers n (set (put_mid n (n + n - n) (put_mid 0 n m ys) zs) (n + n) (get_or m (n + n) 0 - 1)) (cut p (numbers_at n m))
    removed h o q =
        number_held n _ ys zs (get_or m (n + n) 0 - 1) _ (made ys _ o zs (shift_remove i) q (get_or m (n + n) 0 - 1))
        (entries_cut 0 n itself Any _ _ _ _ (number_entries n m v) p i ys zs (get_or m (n + n) 0 - 1) (at_key p i e) h (first_is ys _ o) (second_made ys _ o zs (shift_remove i) q) (omega arith))

    pub number_inserted : (a x : ℕ) → get_or m (n + n) 0 ≤ i → (has p (numbers_at n m) || ltb (length (numbers_at n m)) n) ≡ true → a ≡ rank p (take (get_or m (n + n) 0) m)
        → ys ≡ pad 0 (length (part 0 n m)) (insert_at a p (take (get_or m (n + n) 0) (part 0 n m)))
        → zs ≡ pad 0 (length (part n (n + n - n) (put_mid 0 n m ys))) (insert_at a x (take (get_or m (n + n) 0) (part n (n + n - n) (put_mid 0 n m ys))))
        → HoldsNumbers n (set (put_mid n (n + n - n) (put_mid 0 n m ys) zs) (n + n) (get_or m (n + n) 0 + 1)) (put p x (numbers_at n m))
    number_inserted a x h t r o q =
        number_held n _ ys zs (get_or m (n + n) 0 + 1) _ (made ys _ o zs (insert_at a x) q (get_or m (n + n) 0 + 1))
        (entries_insert 0 n itself Any _ _ _ _ (number_entries n m v) p x a x ys zs (r ∙ ap (rank p) numbers_lent) (subst (λ (j : ℕ). get_or m (n + n) 0 ≤ j) (at_key p i e) h) (number_room p i e h t) tt refl
        (first_is ys _ o) (second_made ys _ o zs (insert_at a x) q))

-- ---- what the leaves ask

pub number_inside : (n : ℕ) (m : List ℕ) → ValidNumbers n m → n ≡ length (part 0 n m)
number_inside n m v = sym (part_long 0 n m (omega (arith, v.long)))

-- two columns and the count were stored
pub numbers_long : (n : ℕ) (m ys zs xs ws : List ℕ) (c : ℕ) → ys ≡ pad 0 (length (part 0 n m)) xs → zs ≡ pad 0 (length (part n (n + n - n) (put_mid 0 n m ys))) ws → ValidNumbers n m
    → length (set (put_mid n (n + n - n) (put_mid 0 n m ys) zs) (n + n) c) ≡ length m
numbers_long n m ys zs xs ws c o q v =
    let p : length ys ≡ n = ap length o ∙ length_pad 0 (length (part 0 n m)) xs ∙ part_long 0 n m (omega (arith, v.long)) in
    let b : length (part n (n + n - n) (put_mid 0 n m ys)) ≡ n = ap length (second_is n m v ys xs o) ∙ part_long n n m (omega (arith, v.long)) in
    let r : length zs ≡ n = ap length q ∙ length_pad 0 _ ws ∙ b in
    length-set (put_mid n (n + n - n) (put_mid 0 n m ys) zs) (n + n) c ∙ twice_long n m ys zs c v.long p r ∙ sym v.long

pub number_column : (n : ℕ) (m : List ℕ) → ValidNumbers n m → Filled (part 0 n m) (get_or m (n + n) 0)
number_column n m v = v.keyed

-- ---- the test of a map of numbers

module _ (n : ℕ) (m : List ℕ) (l : length m ≡ n + n + 1) where
  pub test_no : n < get_or m (n + n) 0 → false ≡ valid_numbers n m
  unfolding valid_numbers
  test_no h = rw (lt-leb _ _ h)

  test_keys : get_or m (n + n) 0 ≤ n → keys (numbers_at n m) ≡ take (get_or m (n + n) 0) (part 0 n m)
  unfolding numbers_at
  test_keys h =
      keys_zip _ _ (length-take-le (get_or m (n + n) 0) (part 0 n m) (omega (arith, part_long 0 n m (omega arith)))
      ∙ sym (length-take-le (get_or m (n + n) 0) (part n n m) (omega (arith, part_long n n m (omega arith)))))

  test_is : get_or m (n + n) 0 ≤ n → valid_numbers n m ≡ (every unused (drop (get_or m (n + n) 0) (part 0 n m)) && (every unused (drop (get_or m (n + n) 0) (part n n m)) && rising (take (get_or m (n + n) 0) (part 0 n m))))
  unfolding valid_numbers packed
  test_is h = rw (le-leb _ _ h, eq-eqb _ _ (part_long 0 n m (omega arith)), eq-eqb _ _ (part_long n n m (omega arith)), test_keys h) refl

  pub test_all : (a b r : Bool) → a ≡ every unused (drop (get_or m (n + n) 0) (take n m)) → b ≡ every unused (drop (n + get_or m (n + n) 0) (take (n + n) m)) → r ≡ rising (take (get_or m (n + n) 0) m) → get_or m (n + n) 0 ≤ n
      → ((a && b) && r) ≡ valid_numbers n m
  unfolding part
  test_all a b r p q o h =
      let y : b ≡ every unused (drop (get_or m (n + n) 0) (part n n m)) = q ∙ ap (every unused) (part_past n n (get_or m (n + n) 0) m (omega arith)) in
      let z : r ≡ rising (take (get_or m (n + n) 0) (part 0 n m)) = o ∙ ap rising (sym (take-take (get_or m (n + n) 0) n m h)) in
      (λ i. (p i && y i) && z i) ∙ and_assoc (every unused (drop (get_or m (n + n) 0) (part 0 n m))) (every unused (drop (get_or m (n + n) 0) (part n n m))) (rising (take (get_or m (n + n) 0) (part 0 n m))) ∙ sym (test_is h)

  pub valid_numbers_true : valid_numbers n m ≡ true → ValidNumbers n m
  unfolding valid_numbers numbers_at
  valid_numbers_true t =
      let c : ℕ = get_or m (n + n) 0 in
      let r = and_right (leb c n) _ t in
      let s = and_right (packed unused n c (part 0 n m)) _ r in
      (held_whole n m (numbers_at n m) l
      (record {
        fits = leb-true c n (and_left (leb c n) _ t);
        keyed = packed_true 0 unused (λ x. eqb-true x 0) n c (part 0 n m) (and_left (packed unused n c (part 0 n m)) _ r);
        packed = packed_true 0 unused (λ x. eqb-true x 0) n c (part n n m) (and_left (packed unused n c (part n n m)) _ s);
        each = all_any _;
        rises = rising_true (keys (numbers_at n m)) (and_right (packed unused n c (part n n m)) _ s);
        items = ap (zip (take c (part 0 n m))) (map_itself (take c (part n n m)));
      })).valid

pub true_valid_numbers : (n : ℕ) (m : List ℕ) → ValidNumbers n m → valid_numbers n m ≡ true
unfolding valid_numbers
true_valid_numbers n m v =
    let c : ℕ = get_or m (n + n) 0 in
    let e = number_entries n m v in
    both_true (leb c n) _ (le-leb c n v.fits)
    (both_true (packed unused n c (part 0 n m)) _ (true_packed 0 unused refl n c (part 0 n m) e.keyed)
    (both_true (packed unused n c (part n n m)) _ (true_packed 0 unused refl n c (part n n m) e.packed) (true_rising (keys (numbers_at n m)) v.rises)))
