-- A map by peer held in two arrays of N places, of the keys and of the entries: `value` is the value of an entry, z an unused one, and P what holds of each.
-- Assumes nothing.
use mathlib.Core.Path.{◌≡◌, refl, sym, ap, ◌∙◌, subst}
use mathlib.Core.Bool.{true, ◌||◌}
use mathlib.Core.List.{List, [], ◌∷◌, map}
use mathlib.Core.Option.{none, some}
use Prim.Native.Nat.{ℕ, zero, suc, ◌+◌, ◌≤◌, ◌<◌}
use native.Mathlib.Nat.{le_of_suc-le-suc, not-suc-le-zero}
use native.Mathlib.Omega.{arith}
use lib.ListN.{length, take, get_or, set, length-map, length-set}
use lib.Seq.{length-take-le, get_or-take}
use lib.Dec.{ltb}
use borrow.Author.Tests.{ltb-true}
use Rattle.base_lists.specs.Array.{pad}
use Rattle.base_lists.specs.Tests.{All}
use Rattle.base_lists.specs.Lists.{index_of, rank, shift_remove, insert_at, Rising}
use Rattle.base_lists.specs.Maps.{keys, values, zip, has, lookup, cut, replace, place_entry, put}
use Rattle.base_lists.proofs.Choice.{choose_yes, choose_no, or_true, clash}
use Rattle.base_lists.proofs.Rising.{rising_without, rising_insert}
use Rattle.base_lists.proofs.Count.{index_at}
use Rattle.base_lists.proofs.Maps.{length_keys, keys_cut, keys_put}
use Rattle.base_lists.proofs.Zip.{keys_zip, values_zip, get_d_zip, zip_set, zip_shift_remove, zip_insert_at}
use Rattle.base_lists.proofs.Array.{length_pad, take_pad, set_pad, length_shift_remove, length_insert_at}
use Rattle.base_lists.proofs.Places.{has_found, has_missing, lookup_found, lookup_missing, cut_missing, cut_found, replace_found, place_is}

-- ---- a change of a place, and what an entry stands for

module _ {A B : Type 0} (f : A → B) where
  pub map_shift_remove : (i : ℕ) (xs : List A) → map f (shift_remove i xs) ≡ shift_remove i (map f xs)
  unfolding shift_remove
  map_shift_remove i [] = refl
  map_shift_remove zero (x ∷ xs) = refl
  map_shift_remove (suc i) (x ∷ xs) = ap (λ (l : List B). f x ∷ l) (map_shift_remove i xs)

  pub map_insert_at : (i : ℕ) (x : A) (xs : List A) → map f (insert_at i x xs) ≡ insert_at i (f x) (map f xs)
  unfolding insert_at
  map_insert_at zero x xs = refl
  map_insert_at (suc i) x [] = refl
  map_insert_at (suc i) x (y ∷ ys) = ap (λ (l : List B). f y ∷ l) (map_insert_at i x ys)

  pub map_set : (xs : List A) (i : ℕ) (x : A) → map f (set xs i x) ≡ set (map f xs) i (f x)
  map_set [] i x = refl
  map_set (y ∷ ys) zero x = refl
  map_set (y ∷ ys) (suc i) x = ap (λ (l : List B). f y ∷ l) (map_set ys i x)

  pub getD_mapped : (xs : List A) (i : ℕ) (a : A) (b : B) → i < length xs → get_or (map f xs) i b ≡ f (get_or xs i a)
  getD_mapped [] i a b h = absurd (not-suc-le-zero h)
  getD_mapped (x ∷ xs) zero a b h = refl
  getD_mapped (x ∷ xs) (suc i) a b h = getD_mapped xs i a b (le_of_suc-le-suc h)

module _ {A : Type 0} (P : A → Type 0) where
  pub all_shift_remove : (i : ℕ) (xs : List A) → All P xs → All P (shift_remove i xs)
  unfolding All shift_remove
  all_shift_remove i [] a = tt
  all_shift_remove zero (x ∷ xs) a = a.1
  all_shift_remove (suc i) (x ∷ xs) a = (a.0, all_shift_remove i xs a.1)

  pub all_insert_at : (i : ℕ) (x : A) (xs : List A) → P x → All P xs → All P (insert_at i x xs)
  unfolding All insert_at
  all_insert_at zero x xs p a = (p, a)
  all_insert_at (suc i) x [] p a = (p, tt)
  all_insert_at (suc i) x (y ∷ ys) p a = (a.0, all_insert_at i x ys p a.1)

  pub all_set : (xs : List A) (i : ℕ) (x : A) → P x → All P xs → All P (set xs i x)
  unfolding All
  all_set [] i x p a = tt
  all_set (y ∷ ys) zero x p a = (p, a.1)
  all_set (y ∷ ys) (suc i) x p a = (a.0, all_set ys i x p a.1)

  pub all_get_d : (xs : List A) (i : ℕ) (d : A) → All P xs → i < length xs → P (get_or xs i d)
  unfolding All
  all_get_d [] i d a h = absurd (not-suc-le-zero h)
  all_get_d (x ∷ xs) zero d a h = a.0
  all_get_d (x ∷ xs) (suc i) d a h = all_get_d xs i d a.1 (le_of_suc-le-suc h)

-- ---- the arrays and the map

-- what stands in an array that holds xs
pub taken_is : {A : Type 0} (z : A) (N : ℕ) (xs l : List A) (n : ℕ) → l ≡ pad z N xs → n ≡ length xs → n ≤ N → take n l ≡ xs
taken_is z N xs l n p q h = ap (λ (k : ℕ). take k l) q ∙ ap (take (length xs)) p ∙ take_pad z N xs (omega arith)

pub length_packed : {A : Type 0} (z : A) (N : ℕ) (l : List A) (n : ℕ) → n ≤ N → l ≡ pad z N (take n l) → length (take n l) ≡ n
length_packed z N l n h p = length-take-le n l (omega (arith, ap length p ∙ length_pad z N (take n l)))

pub record Entries {E B : Type 0} (z : E) (N : ℕ) (value : E → B) (P : E → Type 0) (ks : List ℕ) (es : List E) (n : ℕ) (m : List (ℕ × B)) : Type 0 where
  pub fits : n ≤ N
  pub keyed : ks ≡ pad 0 N (take n ks)
  pub packed : es ≡ pad z N (take n es)
  pub each : All P (take n es)
  pub rises : Rising (keys m)
  pub items : zip (take n ks) (map value (take n es)) ≡ m

module _ {E B : Type 0} (z : E) (N : ℕ) (value : E → B) (P : E → Type 0) where
  -- the arrays that hold the keys xs and the entries ys
  pub entries_of : (xs : List ℕ) (ys : List E) (ks : List ℕ) (es : List E) (n : ℕ) (m : List (ℕ × B)) → ks ≡ pad 0 N xs → es ≡ pad z N ys → n ≡ length xs → n ≡ length ys → n ≤ N → All P ys → Rising (keys m) → zip xs (map value ys) ≡ m → Entries z N value P ks es n m
  entries_of xs ys ks es n m p q a b h c r e =
      let s = taken_is 0 N xs ks n p a h in
      let t = taken_is z N ys es n q b h in
      record {
        fits = h;
        keyed = p ∙ ap (pad 0 N) (sym s);
        packed = q ∙ ap (pad z N) (sym t);
        each = subst (All P) (sym t) c;
        rises = r;
        items = (λ i. zip (s i) (map value (t i))) ∙ e;
      }

  module _ (ks : List ℕ) (es : List E) (n : ℕ) (m : List (ℕ × B)) (v : Entries z N value P ks es n m) where
    pub keys_taken : length (take n ks) ≡ n
    keys_taken = length_packed 0 N ks n v.fits v.keyed

    pub entries_taken : length (take n es) ≡ n
    entries_taken = length_packed z N es n v.fits v.packed

    alike : length (take n ks) ≡ length (map value (take n es))
    alike = keys_taken ∙ sym (length-map (take n es) value ∙ entries_taken)

    pub entries_keys : keys m ≡ take n ks
    entries_keys = ap keys (sym v.items) ∙ keys_zip (take n ks) (map value (take n es)) alike

    pub entries_values : values m ≡ map value (take n es)
    entries_values = ap values (sym v.items) ∙ values_zip (take n ks) (map value (take n es)) alike

    pub entries_length : length m ≡ n
    entries_length = sym (length_keys m) ∙ ap length entries_keys ∙ keys_taken

    -- the value at a place
    pub entries_at : (i : ℕ) (d : E) (b : ℕ × B) → i < n → (get_or m i b).1 ≡ value (get_or es i d)
    entries_at i d b h =
        ap (λ (l : List (ℕ × B)). (get_or l i b).1) (sym v.items)
        ∙ get_d_zip (take n ks) (map value (take n es)) i b (value d) alike (omega (arith, keys_taken))
        ∙ getD_mapped value (take n es) i d (value d) (omega (arith, entries_taken)) ∙ ap value (get_or-take n es i d h)

    pub entries_each : (i : ℕ) (d : E) → i < n → P (get_or es i d)
    entries_each i d h = subst P (get_or-take n es i d h) (all_get_d P (take n es) i d v.each (omega (arith, entries_taken)))

    module _ (k : ℕ) where
      pub entries_found : (i : ℕ) (d : E) → i ≡ index_of k (keys m) → i < n → lookup k m ≡ some (value (get_or es i d))
      entries_found i d q h =
          lookup_found k (0, value d) m (omega (arith, entries_length)) ∙ ap (λ (j : ℕ). some (get_or m j (0, value d)).1) (sym q)
          ∙ ap some (entries_at i d (0, value d) h)

      pub entries_none : (i : ℕ) → i ≡ index_of k (keys m) → n ≤ i → lookup k m ≡ none
      entries_none i q h = lookup_missing k m (omega (arith, entries_length))

      -- a new key has room where the caller says that it is there or that there is room
      pub entries_room : (i : ℕ) → i ≡ index_of k (keys m) → n ≤ i → (has k m || ltb (length m) N) ≡ true → n < N
      entries_room i q h t =
          or_true (has k m) (ltb (length m) N) t (λ f. clash (has k m) f (has_missing k m (omega (arith, entries_length))))
          (λ f. omega (arith, entries_length, ltb-true (length m) N f))

      -- the entry with the key is taken out
      pub entries_cut : (i : ℕ) (ks' : List ℕ) (es' : List E) (n' : ℕ) → i ≡ index_of k (keys m) → i < n → ks' ≡ pad 0 N (shift_remove i (take n ks)) → es' ≡ pad z N (shift_remove i (take n es)) → n' + 1 ≡ n → Entries z N value P ks' es' n' (cut k m)
      entries_cut i ks' es' n' q h p o c =
          entries_of (shift_remove i (take n ks)) (shift_remove i (take n es)) ks' es' n' (cut k m) p o
          (omega (arith, keys_taken, length_shift_remove i (take n ks) (omega (arith, keys_taken))))
          (omega (arith, entries_taken, length_shift_remove i (take n es) (omega (arith, entries_taken)))) (omega (arith, v.fits))
          (all_shift_remove P i (take n es) v.each) (subst Rising (sym (keys_cut k m)) (rising_without k (keys m) v.rises))
          (ap (zip (shift_remove i (take n ks))) (map_shift_remove value i (take n es)) ∙ zip_shift_remove i (take n ks) (map value (take n es)) alike
          ∙ ap (shift_remove i) v.items
          ∙ sym (cut_found k m v.rises (omega (arith, entries_length)) ∙ ap (λ (j : ℕ). shift_remove j m) (sym q)))

      pub entries_cut_none : (i : ℕ) → i ≡ index_of k (keys m) → n ≤ i → Entries z N value P ks es n (cut k m)
      entries_cut_none i q h = subst (Entries z N value P ks es n) (sym (cut_missing k m (omega (arith, entries_length)))) v

      key_at : (i : ℕ) → i ≡ index_of k (keys m) → i < n → get_or (take n ks) i 0 ≡ k
      unfolding has
      key_at i q h =
          (λ j. get_or (sym entries_keys j) (q j) 0) ∙ index_at k (keys m) (has_found k m (omega (arith, entries_length)))

      module _ (w : B) where
        rises_put : Rising (keys (put k w m))
        rises_put = subst Rising (sym (keys_put k w m)) (rising_insert k (keys m) v.rises)

        -- the entry with the key is stored over
        pub entries_replace : (i : ℕ) (e : E) → i ≡ index_of k (keys m) → i < n → P e → value e ≡ w → Entries z N value P ks (set es i e) n (put k w m)
        unfolding put
        entries_replace i e q h a c =
            entries_of (take n ks) (set (take n es) i e) ks (set es i e) n (put k w m) v.keyed
            (ap (λ (l : List E). set l i e) v.packed ∙ set_pad z N (take n es) i e (omega (arith, entries_taken)))
            (sym keys_taken) (sym (length-set (take n es) i e ∙ entries_taken)) v.fits
            (all_set P (take n es) i e a v.each) rises_put
            (ap (zip (take n ks)) (map_set value (take n es) i e) ∙ zip_set (take n ks) (map value (take n es)) i (value e)
            ∙ (λ j. set (v.items j) i (key_at i q h j, c j))
            ∙ sym (choose_yes (has k m) (replace k w m) (place_entry k w m) (has_found k m (omega (arith, entries_length)))
            ∙ replace_found k w m v.rises (omega (arith, entries_length)) ∙ ap (λ (j : ℕ). set m j (k, w)) (sym q)))

        -- a new entry is put in at the rank of its key
        pub entries_insert : (i : ℕ) (e : E) (ks' : List ℕ) (es' : List E) → i ≡ rank k (keys m) → n ≤ index_of k (keys m) → n < N → P e → value e ≡ w → ks' ≡ pad 0 N (insert_at i k (take n ks)) → es' ≡ pad z N (insert_at i e (take n es)) → Entries z N value P ks' es' (n + 1) (put k w m)
        unfolding put
        entries_insert i e ks' es' q h room a c p o =
            entries_of (insert_at i k (take n ks)) (insert_at i e (take n es)) ks' es' (n + 1) (put k w m) p o
            (omega (arith, keys_taken, length_insert_at i k (take n ks))) (omega (arith, entries_taken, length_insert_at i e (take n es))) (omega arith)
            (all_insert_at P i e (take n es) a v.each) rises_put
            (ap (zip (insert_at i k (take n ks))) (map_insert_at value i e (take n es)) ∙ zip_insert_at i k (value e) (take n ks) (map value (take n es)) alike
            ∙ (λ j. insert_at i (k, c j) (v.items j))
            ∙ sym (choose_no (has k m) (replace k w m) (place_entry k w m) (has_missing k m (omega (arith, entries_length)))
            ∙ place_is k w m ∙ ap (λ (j : ℕ). insert_at j (k, w) m) (sym q)))

-- ---- the loops
