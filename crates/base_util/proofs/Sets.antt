-- A set as a section: what its words are, what its test says, and what the leaves and stores make of it.
-- Assumes nothing.
use Prim.Native.Nat.{ℕ, zero, suc, ◌+◌, ◌-◌, ◌≤◌, ◌<◌}
use mathlib.Core.Path.{◌≡◌, refl, sym, ap, ◌∙◌, subst}
use mathlib.Core.Bool.{Bool, true, false}
use mathlib.Core.List.{List, [], ◌∷◌, ◌++◌}
use native.Mathlib.Numerals.{add-one}
use native.Mathlib.Nat.{le_of_suc-le-suc, not-suc-le-zero}
use native.Mathlib.Omega.{arith}
use lib.ListN.{length, take, drop, get_or, set, length-set, length-append, length-drop, get_or-append}
use lib.Seq.{take-length, take-take, take-suc, get_or_at, get_or-append-add, get_or-set_same, set_at, set-append_left, length-take-le}
use lib.Dec.{eqb, leb}
use borrow.Author.Tests.{lt-leb, le-leb, leb-true, eq-eqb, ne_eqb, eqb-true, eqb-false}
use borrow.Rule.Slice.PartMut.{put_mid}
use Rattle.base_lists.specs.Array.{pad}
use Rattle.base_lists.specs.Lists.{null, index_of, rank, remove, shift_remove, swap_remove, insert_at, insert, without, without_all, renew, mem, distinct, rising}
use Rattle.base_lists.specs.Tests.{every, packed}
use Rattle.base_lists.proofs.Array.{length_pad, getD_pad, set_pad, push_pad, pop_pad, length_shift_remove, length_insert_at}
use Rattle.base_lists.proofs.Choice.{split, and_left, and_right}
use Rattle.base_lists.proofs.Entries.{taken_is}
use Rattle.base_lists.proofs.Search.{index_mem, index_not_mem}
use Rattle.base_lists.proofs.Sets.{insert_there, insert_new, shift_first, renew_room, renew_full}
use Rattle.base_lists.proofs.Tests.{both_true, packed_true, true_packed}
use Rattle.base_scan.specs.Words.{unused}
use Rattle.base_util.specs.Section.{part, Filled, items_at, ValidSet, HoldsSet, valid_set, section}
use Rattle.base_util.proofs.Columns.{filled_of}
use Rattle.base_util.proofs.Parts.{part_long, part_put, part_set_after, first_put_long}

-- without a list of one is without that one
without_one : (x : ℕ) (xs : List ℕ) → without_all (x ∷ []) xs ≡ without x xs
unfolding without without_all mem
without_one x [] = refl
without_one x (q ∷ xs) =
    split (eqb x q)
    (λ t. let u : eqb q x ≡ true = eq-eqb q x (sym (eqb-true x q t)) in rw (t, u) (without_one x xs))
    (λ t. let u : eqb q x ≡ false = ne_eqb q x (λ e. eqb-false x q t (sym e)) in rw (t, u) (ap (λ (l : List ℕ). q ∷ l) (without_one x xs)))

-- ---- a set

-- the section of the places of xs and their count
pub set_of : (n : ℕ) (s xs : List ℕ) → length s ≡ n + 1 → part 0 n s ≡ pad 0 n xs → get_or s n 0 ≡ length xs → length xs ≤ n → HoldsSet n s xs
unfolding items_at
set_of n s xs l p q h =
    let t : take (get_or s n 0) (part 0 n s) ≡ xs = taken_is 0 n xs (part 0 n s) (get_or s n 0) p q (omega arith) in
    record {
      valid = record { long = l; fits = omega arith; counted = ap length t ∙ sym q; filled = filled_of n (part 0 n s) xs (get_or s n 0) p q (omega arith) };
      items = t;
    }

-- the column and the count are put back
pub set_stored : (n : ℕ) (s ys xs : List ℕ) (k : ℕ) → ValidSet n s → ys ≡ pad 0 (length (part 0 n s)) xs → k ≡ length xs → length xs ≤ n → HoldsSet n (set (put_mid 0 n s ys) n k) xs
set_stored n s ys xs k v e q h =
    let l : length (part 0 n s) ≡ n = part_long 0 n s (omega (arith, v.long)) in
    let p : ys ≡ pad 0 n xs = rw l at e in
    let m : length ys ≡ n = ap length p ∙ length_pad 0 n xs in
    let w : length (put_mid 0 n s ys) ≡ n + 1 = first_put_long n s ys (omega (arith, v.long)) m ∙ v.long in
    set_of n (set (put_mid 0 n s ys) n k) xs (length-set (put_mid 0 n s ys) n k ∙ w)
    (part_set_after 0 n n k (put_mid 0 n s ys) (omega arith) ∙ part_put 0 n s ys (omega arith) m ∙ p)
    (get_or-set_same (put_mid 0 n s ys) n k 0 (omega arith) ∙ q) h

-- the items as the code lends them
pub lent : (n : ℕ) (s : List ℕ) → ValidSet n s → take (get_or s n 0) s ≡ items_at n s
unfolding items_at part
lent n s v = sym (take-take (get_or s n 0) n s v.fits)

pub lent_long : (n : ℕ) (s : List ℕ) → ValidSet n s → get_or s n 0 ≡ length (take (get_or s n 0) s)
lent_long n s v = sym (ap length (lent n s v) ∙ v.counted)

pub lent_fits : (n : ℕ) (s : List ℕ) → ValidSet n s → get_or s n 0 ≤ length s
lent_fits n s v = omega (arith, v.long, v.fits)

module _ (n : ℕ) (s : List ℕ) (x i : ℕ) (v : ValidSet n s) (e : i ≡ index_of x (take (get_or s n 0) s)) where
  pub there : i ≡ index_of x (items_at n s)
  there = e ∙ ap (index_of x) (lent n s v)

  pub insert_kept : i < get_or s n 0 → HoldsSet n s (insert x (items_at n s))
  insert_kept h = record { valid = v; items = sym (insert_there x (items_at n s) (index_mem x (items_at n s) (omega (arith, v.counted, there)))) }

  new : get_or s n 0 ≤ i → insert x (items_at n s) ≡ insert_at (rank x (items_at n s)) x (items_at n s)
  new h = insert_new x (items_at n s) (index_not_mem x (items_at n s) (omega (arith, v.counted, there)))

  pub insert_fits : get_or s n 0 ≤ i → length (insert x (items_at n s)) ≤ n → get_or s n 0 < length (part 0 n s)
  insert_fits h f =
      omega (arith, v.counted, ap length (new h), length_insert_at (rank x (items_at n s)) x (items_at n s), part_long 0 n s (omega (arith, v.long)))

  pub inserted : (a : ℕ) (ys : List ℕ) → get_or s n 0 ≤ i → a ≡ rank x (take (get_or s n 0) s) → length (insert x (items_at n s)) ≤ n → ys ≡ pad 0 (length (part 0 n s)) (insert_at a x (take (get_or s n 0) (part 0 n s)))
      → HoldsSet n (set (put_mid 0 n s ys) n (get_or s n 0 + 1)) (insert x (items_at n s))
  unfolding items_at
  inserted a ys h r f o =
      let w = new h in
      let g = length_insert_at (rank x (items_at n s)) x (items_at n s) in
      set_stored n s ys (insert x (items_at n s)) (get_or s n 0 + 1) v
      (o ∙ ap (pad 0 (length (part 0 n s))) (ap (λ (j : ℕ). insert_at j x (items_at n s)) (r ∙ ap (rank x) (lent n s v)) ∙ sym w))
      (omega (arith, v.counted, ap length w, g)) f

-- ---- what the leaves ask

pub set_inside : (n : ℕ) (s : List ℕ) → ValidSet n s → n ≡ length (part 0 n s)
set_inside n s v = sym (part_long 0 n s (omega (arith, v.long)))

pub set_column : (n : ℕ) (s : List ℕ) → ValidSet n s → Filled (part 0 n s) (get_or s n 0)
set_column n s v = v.filled

pub column_few : (n : ℕ) (s : List ℕ) (k : ℕ) → ValidSet n s → n ≤ k → length (part 0 n s) ≤ k
column_few n s k v h = omega (arith, set_inside n s v)

-- ---- what the words are

-- n places of xs, and then c
abbrev pub framed : ℕ → List ℕ → ℕ → List ℕ
framed n xs c = pad 0 n xs ++ (c ∷ [])

module _ (n : ℕ) (xs : List ℕ) (c : ℕ) where
  pub framed_long : length (framed n xs c) ≡ n + 1
  framed_long = length-append (pad 0 n xs) (c ∷ []) ∙ ap (λ (k : ℕ). k + 1) (length_pad 0 n xs)

  pub framed_last : get_or (framed n xs c) n 0 ≡ c
  framed_last = get_or_at (pad 0 n xs) c [] 0 n (length_pad 0 n xs)

  pub framed_set : (d : ℕ) → set (framed n xs c) n d ≡ framed n xs d
  framed_set d = set_at (pad 0 n xs) c [] d n (length_pad 0 n xs)

  framed_part : part 0 n (framed n xs c) ≡ pad 0 n xs
  unfolding part
  framed_part = lib.Seq.take_at (pad 0 n xs) (c ∷ []) n (length_pad 0 n xs)

  pub framed_at : (i : ℕ) → i < n → length xs ≤ n → get_or (framed n xs c) i 0 ≡ get_or xs i 0
  framed_at i h f = get_or-append (pad 0 n xs) (c ∷ []) 0 i (omega (arith, length_pad 0 n xs)) ∙ getD_pad 0 n xs i f

  pub framed_past : (i : ℕ) → n ≤ i → get_or (framed n xs c) i 0 ≡ get_or (c ∷ []) (i - n) 0
  framed_past i h =
      let k : i ≡ length (pad 0 n xs) + (i - n) = omega (arith, length_pad 0 n xs) in
      ap (λ (j : ℕ). get_or (framed n xs c) j 0) k ∙ get_or-append-add (pad 0 n xs) (c ∷ []) (i - n) 0

-- the words of a set are those of its items
pub set_words : (n : ℕ) (s : List ℕ) → ValidSet n s → s ≡ section n (items_at n s)
unfolding section items_at part
set_words n s v =
    let k : suc n ≡ length s = omega (arith, v.long) in
    let l : length (take n s) ≡ n = length-take-le n s (omega (arith, v.long)) in
    let p : take n s ≡ pad 0 n (take (get_or s n 0) (take n s)) = subst (λ (j : ℕ). take n s ≡ pad 0 j (take (get_or s n 0) (take n s))) l v.filled.packed in
    sym (take-length s) ∙ ap (λ (j : ℕ). take j s) (sym k) ∙ take-suc s n 0 (omega arith) ∙ (λ i. p i ++ (sym v.counted i ∷ []))

pub section_holds : (n : ℕ) (xs : List ℕ) → length xs ≤ n → HoldsSet n (section n xs) xs
unfolding section
section_holds n xs h = set_of n (framed n xs (length xs)) xs (framed_long n xs (length xs)) (framed_part n xs (length xs)) (framed_last n xs (length xs)) h

pub holds_by : (n : ℕ) (s xs : List ℕ) → s ≡ section n xs → length xs ≤ n → HoldsSet n s xs
holds_by n s xs e h = subst (λ (t : List ℕ). HoldsSet n t xs) (sym e) (section_holds n xs h)

-- the same list by another name
pub set_as : (n : ℕ) (s xs ys : List ℕ) → HoldsSet n s xs → xs ≡ ys → HoldsSet n s ys
set_as n s xs ys h e = record { valid = h.valid; items = h.items ∙ e }

-- one step after another: r comes by f of t's items, and t holds xs
pub set_then : (n : ℕ) {r t xs : List ℕ} (f : List ℕ → List ℕ) → HoldsSet n r (f (items_at n t)) → HoldsSet n t xs → HoldsSet n r (f xs)
set_then n {r} f h k = set_as n r _ _ h (ap f k.items)

-- v has a place for x, and with it is what is left of s where x is the newest of at most `most`
pub record Roomy (n : ℕ) (s : List ℕ) (most x : ℕ) (v : List ℕ) : Type 0 where
  pub valid : ValidSet n v
  pub room : length (items_at n v) < n
  pub same : items_at n v ++ (x ∷ []) ≡ renew most x (items_at n s)

-- t is s without x, and v is t or t without its first item
module _ (n : ℕ) (s t : List ℕ) (most x : ℕ) (h : HoldsSet n t (without x (items_at n s))) (o : (1 ≤ most) × (most ≤ n)) where
  others : length (without x (items_at n s)) ≡ get_or t n 0
  others = sym (ap length h.items) ∙ h.valid.counted

  pub roomy_new : (v : List ℕ) → v ≡ t → get_or t n 0 < most → Roomy n s most x v
  roomy_new v e f =
      subst (Roomy n s most x) (sym e)
      record {
        valid = h.valid;
        room = omega (arith, o.1, h.valid.counted);
        same = ap (λ (l : List ℕ). l ++ (x ∷ [])) h.items ∙ sym (renew_room most x (items_at n s) (omega (arith, others)));
      }

  pub roomy_old : (v w : List ℕ) → v ≡ w → HoldsSet n w (shift_remove 0 (items_at n t)) → most ≤ get_or t n 0 → Roomy n s most x v
  roomy_old v w e g f =
      subst (Roomy n s most x) (sym e)
      record {
        valid = g.valid;
        room = omega (arith, o.0, ap length (g.items ∙ shift_first (items_at n t)), length-drop 1 (items_at n t), h.valid.counted, h.valid.fits);
        same = ap (λ (l : List ℕ). l ++ (x ∷ [])) (g.items ∙ shift_first (items_at n t) ∙ ap (drop 1) h.items) ∙ sym (renew_full most x (items_at n s) o.0 (omega (arith, others)));
      }

-- what is known of the list is known of the set
pub set_length : (n : ℕ) (s xs : List ℕ) → HoldsSet n s xs → length (items_at n s) ≡ length xs
set_length n s xs h = ap length h.items

pub set_self : (n : ℕ) (s : List ℕ) → ValidSet n s → HoldsSet n s (items_at n s)
set_self n s v = record { valid = v; items = refl }

-- the word at place i
pub word_at_place : (n : ℕ) (s : List ℕ) (i : ℕ) → ValidSet n s → i < n → get_or s i 0 ≡ get_or (items_at n s) i 0
unfolding section
word_at_place n s i v h =
    ap (λ (l : List ℕ). get_or l i 0) (set_words n s v) ∙ framed_at n (items_at n s) (length (items_at n s)) i h (omega (arith, v.counted, v.fits))

pub item_read : (n : ℕ) (s : List ℕ) (i : ℕ) → ValidSet n s → i < length (items_at n s) → get_or s i 0 ≡ get_or (items_at n s) i 0
item_read n s i v h = word_at_place n s i v (omega (arith, v.counted, v.fits))

-- ---- the test

pub too_many : (n : ℕ) (s : List ℕ) → n < get_or s n 0 → false ≡ valid_set n s
unfolding valid_set
too_many n s h = rw (lt-leb _ _ h)

module _ (n : ℕ) (s : List ℕ) (l : length s ≡ n + 1) where
  places_inside : n ≡ length (part 0 n s)
  places_inside = sym (part_long 0 n s (omega arith))

  pub few : (b : Bool) → get_or s n 0 ≤ n → b ≡ every unused (drop (get_or s n 0) (part 0 n s)) → b ≡ valid_set n s
  unfolding valid_set packed
  few b h e = e ∙ sym (rw (le-leb _ _ h, eq-eqb _ _ (part_long 0 n s (omega arith))) refl)

  pub valid_set_true : valid_set n s ≡ true → ValidSet n s
  unfolding valid_set items_at
  valid_set_true t =
      let f : get_or s n 0 ≤ n = leb-true (get_or s n 0) n (and_left (leb (get_or s n 0) n) _ t) in
      let p = packed_true 0 unused (λ x. eqb-true x 0) n (get_or s n 0) (part 0 n s) (and_right (leb (get_or s n 0) n) _ t) in
      let c : length (take (get_or s n 0) (part 0 n s)) ≡ get_or s n 0 = length-take-le (get_or s n 0) (part 0 n s) (omega (arith, places_inside)) in
      (set_of n s (take (get_or s n 0) (part 0 n s)) l p (sym c) (omega arith)).valid

pub true_valid_set : (n : ℕ) (s : List ℕ) → ValidSet n s → valid_set n s ≡ true
unfolding valid_set
true_valid_set n s v =
    both_true (leb (get_or s n 0) n) _ (le-leb (get_or s n 0) n v.fits)
    (true_packed 0 unused refl n (get_or s n 0) (part 0 n s) (subst (λ (j : ℕ). part 0 n s ≡ pad 0 j (take (get_or s n 0) (part 0 n s))) (sym (set_inside n s v)) v.filled.packed))

-- ---- the readers

null_length : (xs : List ℕ) → eqb (length xs) 0 ≡ null xs
unfolding null
null_length [] = refl
null_length (x ∷ xs) = lib.Dec.eqb-suc-zero (length xs)

pub empty_is_null : (n : ℕ) (s : List ℕ) → ValidSet n s → eqb (get_or s n 0) 0 ≡ null (items_at n s)
empty_is_null n s v = ap (λ (k : ℕ). eqb k 0) (sym v.counted) ∙ null_length (items_at n s)

-- what a test of the items says, which the code lends
module _ (n : ℕ) (s : List ℕ) (v : ValidSet n s) where
  pub lent_mem : (x : ℕ) (r : Bool) → r ≡ mem x (take (get_or s n 0) s) → r ≡ mem x (items_at n s)
  lent_mem x r e = e ∙ ap (mem x) (lent n s v)

  pub lent_distinct : (r : Bool) → r ≡ distinct (take (get_or s n 0) s) → r ≡ distinct (items_at n s)
  lent_distinct r e = e ∙ ap distinct (lent n s v)

  pub lent_rising : (r : Bool) → r ≡ rising (take (get_or s n 0) s) → r ≡ rising (items_at n s)
  lent_rising r e = e ∙ ap rising (lent n s v)

-- ---- the changes

zeroes_more : (k : ℕ) → pad {A = ℕ} 0 (suc k) [] ≡ pad 0 k [] ++ (0 ∷ [])
unfolding pad
zeroes_more zero = refl
zeroes_more (suc k) = ap (λ (l : List ℕ). 0 ∷ l) (zeroes_more k)

pub cleared : (n : ℕ) (s t : List ℕ) → length s ≡ n + 1 → t ≡ pad 0 (length s) (take 0 s) → HoldsSet n t []
unfolding section
cleared n s t l e = holds_by n t [] (e ∙ ap (λ (k : ℕ). pad {A = ℕ} 0 k []) (l ∙ add-one n) ∙ zeroes_more n) (omega arith)

module _ (n : ℕ) (s : List ℕ) (v : ValidSet n s) where
  few_items : length (items_at n s) ≤ n
  few_items = omega (arith, v.counted, v.fits)

  pub pushed : (x : ℕ) → length (items_at n s) < n → HoldsSet n (set (set s (get_or s n 0) x) n (get_or s n 0 + 1)) (items_at n s ++ (x ∷ []))
  unfolding section
  pushed x h =
      let xs : List ℕ = items_at n s in
      let l : length (xs ++ (x ∷ [])) ≡ get_or s n 0 + 1 = length-append xs (x ∷ []) ∙ ap (λ (k : ℕ). k + 1) v.counted in
      let a : set (framed n xs (length xs)) (length xs) x ≡ framed n (xs ++ (x ∷ [])) (length xs) =
      set-append_left (pad 0 n xs) (length xs ∷ []) (length xs) x (omega (arith, length_pad 0 n xs)) ∙ ap (λ (t : List ℕ). t ++ (length xs ∷ [])) (push_pad 0 n xs x h) in
      holds_by n _ (xs ++ (x ∷ []))
      ((λ i. set (set (set_words n s v i) (sym v.counted i) x) n (get_or s n 0 + 1)) ∙ ap (λ (t : List ℕ). set t n (get_or s n 0 + 1)) a
      ∙ framed_set n (xs ++ (x ∷ [])) (length xs) (get_or s n 0 + 1) ∙ ap (framed n (xs ++ (x ∷ []))) (sym l)) (omega arith)

  pub last_in_gap : (i : ℕ) → i < length (items_at n s)
      → HoldsSet n (set (set (set s i (get_or s (get_or s n 0 - 1) 0)) (get_or s n 0 - 1) 0) n (get_or s n 0 - 1)) (swap_remove i (items_at n s))
  unfolding section swap_remove
  last_in_gap i h =
      let xs : List ℕ = items_at n s in
      let c : ℕ = get_or s n 0 in
      let m : ℕ = c - 1 in
      let k : length xs ≡ c = v.counted in
      let y : get_or s (c - 1) 0 ≡ get_or xs (length xs - 1) 0 = item_read n s (c - 1) v (omega arith) ∙ ap (λ (j : ℕ). get_or xs (j - 1) 0) (sym k) in
      let ws : List ℕ = set xs i (get_or xs (length xs - 1) 0) in
      let w : length ws ≡ length xs = length-set xs i (get_or xs (length xs - 1) 0) in
      let a : set (framed n xs (length xs)) i (get_or xs (length xs - 1) 0) ≡ framed n ws (length xs) =
      set-append_left (pad 0 n xs) (length xs ∷ []) i (get_or xs (length xs - 1) 0) (omega (arith, length_pad 0 n xs, few_items)) ∙ ap (λ (t : List ℕ). t ++ (length xs ∷ [])) (set_pad 0 n xs i (get_or xs (length xs - 1) 0) h) in
      let b : set (framed n ws (length xs)) (c - 1) 0 ≡ framed n (take (c - 1) ws) (length xs) =
      set-append_left (pad 0 n ws) (length xs ∷ []) (c - 1) 0 (omega (arith, length_pad 0 n ws, few_items)) ∙ ap (λ (t : List ℕ). t ++ (length xs ∷ [])) (pop_pad 0 n (c - 1) ws (omega arith)) in
      let l : length (take (c - 1) ws) ≡ c - 1 = length-take-le (c - 1) ws (omega arith) in
      let q : take (c - 1) ws ≡ take (length xs - 1) ws = ap (λ (j : ℕ). take (j - 1) ws) (sym k) in
      set_as n _ (take (c - 1) ws) (take (length xs - 1) ws)
      (holds_by n _ (take (c - 1) ws)
      ((λ j. set (set (set (set_words n s v j) i (y j)) (c - 1) 0) n (c - 1)) ∙ ap (λ (t : List ℕ). set (set t (c - 1) 0) n (c - 1)) a
      ∙ ap (λ (t : List ℕ). set t n (c - 1)) b ∙ framed_set n (take (c - 1) ws) (length xs) (c - 1) ∙ ap (framed n (take (c - 1) ws)) (sym l))
      (omega (arith, l, few_items))) q

  module _ (x i : ℕ) (e : i ≡ index_of x (take (get_or s n 0) s)) where
    pub remove_within : i < get_or s n 0 → i < length (items_at n s)
    remove_within h = omega (arith, v.counted)

    pub remove_found : (t : List ℕ) → HoldsSet n t (swap_remove i (items_at n s)) → i < get_or s n 0 → HoldsSet n t (remove x (items_at n s))
    unfolding remove
    remove_found t k h =
        let m = index_mem x (items_at n s) (omega (arith, v.counted, there n s x i v e)) in
        set_as n t _ _ k (rw m (ap (λ (j : ℕ). swap_remove j (items_at n s)) (there n s x i v e)))

    pub remove_none : get_or s n 0 ≤ i → HoldsSet n s (remove x (items_at n s))
    unfolding remove
    remove_none h =
        let m = index_not_mem x (items_at n s) (omega (arith, v.counted, there n s x i v e)) in
        set_as n s _ _ (set_self n s v) (rw m)

  pub shifted : (i : ℕ) (ys : List ℕ) → i < length (items_at n s) → ys ≡ pad 0 (length (part 0 n s)) (shift_remove i (take (get_or s n 0) (part 0 n s)))
      → HoldsSet n (set (put_mid 0 n s ys) n (get_or s n 0 - 1)) (shift_remove i (items_at n s))
  unfolding items_at
  shifted i ys h o =
      let l = length_shift_remove i (items_at n s) h in
      set_stored n s ys (shift_remove i (items_at n s)) (get_or s n 0 - 1) v o (omega (arith, v.counted)) (omega (arith, v.counted, v.fits))

  skipped : (m : ℕ) (skip : List ℕ) → ValidSet m skip → without_all (take (get_or skip m 0) skip) (take (get_or s n 0) (part 0 n s)) ≡ without_all (items_at m skip) (items_at n s)
  unfolding items_at
  skipped m skip w = ap (λ (l : List ℕ). without_all l (items_at n s)) (lent m skip w)

  pub left_without_all : (m : ℕ) (skip ys : List ℕ) (k : ℕ) → ValidSet m skip → ys ≡ pad 0 (length (part 0 n s)) (without_all (take (get_or skip m 0) skip) (take (get_or s n 0) (part 0 n s)))
      → k ≡ length (without_all (take (get_or skip m 0) skip) (take (get_or s n 0) (part 0 n s))) → k ≤ get_or s n 0 → HoldsSet n (set (put_mid 0 n s ys) n k) (without_all (items_at m skip) (items_at n s))
  left_without_all m skip ys k w o q h = set_as n _ _ _ (set_stored n s ys _ k v o q (omega (arith, v.fits))) (skipped m skip w)

  pub left_without : (x : ℕ) (ys : List ℕ) (k : ℕ) → ys ≡ pad 0 (length (part 0 n s)) (without_all (x ∷ []) (take (get_or s n 0) (part 0 n s)))
      → k ≡ length (without_all (x ∷ []) (take (get_or s n 0) (part 0 n s))) → k ≤ get_or s n 0 → HoldsSet n (set (put_mid 0 n s ys) n k) (without x (items_at n s))
  unfolding items_at
  left_without x ys k o q h = set_as n _ _ _ (set_stored n s ys _ k v o q (omega (arith, v.fits))) (without_one x _)

  pub cut_short : (k : ℕ) (ys : List ℕ) → k < get_or s n 0 → ys ≡ pad 0 (length (part 0 n s)) (take k (part 0 n s)) → HoldsSet n (set (put_mid 0 n s ys) n k) (take k (items_at n s))
  unfolding items_at
  cut_short k ys h o =
      let e : take k (part 0 n s) ≡ take k (take (get_or s n 0) (part 0 n s)) = sym (take-take k (get_or s n 0) (part 0 n s) (omega arith)) in
      let l : length (take k (items_at n s)) ≡ k = length-take-le k (items_at n s) (omega (arith, v.counted)) in
      set_stored n s ys (take k (items_at n s)) k v (o ∙ ap (pad 0 (length (part 0 n s))) e) (sym l) (omega (arith, v.fits))

  pub short_enough : (k : ℕ) → get_or s n 0 ≤ k → HoldsSet n s (take k (items_at n s))
  short_enough k h = set_as n s _ _ (set_self n s v) (sym (lib.Seq.take_all k (items_at n s) (omega (arith, v.counted))))

  -- a column that is put back with as many items
  pub rearranged : (ys xs : List ℕ) → ys ≡ pad 0 (length (part 0 n s)) xs → length xs ≡ length (items_at n s) → HoldsSet n (put_mid 0 n s ys) xs
  rearranged ys xs o q =
      let l : length (part 0 n s) ≡ n = sym (set_inside n s v) in
      let p : ys ≡ pad 0 n xs = rw l at o in
      let m : length ys ≡ n = ap length p ∙ length_pad 0 n xs in
      let w : length (put_mid 0 n s ys) ≡ n + 1 = first_put_long n s ys (omega (arith, v.long)) m ∙ v.long in
      let c : get_or (put_mid 0 n s ys) n 0 ≡ length xs =
      ap (λ (j : ℕ). get_or (ys ++ drop n s) j 0) (let k : n ≡ length ys + 0 = omega arith in k) ∙ get_or-append-add ys (drop n s) 0 0 ∙ lib.Seq.get_or-drop n s 0 0
      ∙ ap (λ (j : ℕ). get_or s j 0) (let k : n + 0 ≡ n = omega arith in k) ∙ sym v.counted ∙ sym q in
      set_of n (put_mid 0 n s ys) xs w (part_put 0 n s ys (omega arith) m ∙ p) c (omega (arith, few_items))
