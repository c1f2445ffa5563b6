-- A map by peer in rising order of its keys: each operation as one at the place of the key.
-- Assumes nothing.
use mathlib.Core.Path.{◌≡◌, refl, ap}
use mathlib.Core.Bool.{true, false}
use mathlib.Core.List.{List, [], ◌∷◌}
use mathlib.Core.Option.{none, some}
use Prim.Native.Nat.{ℕ, ◌≤◌, ◌<◌}
use native.Mathlib.Nat.{le_of_suc-le-suc, not-suc-le-zero}
use native.Mathlib.Omega.{arith}
use lib.ListN.{length, get_or, set}
use lib.Dec.{eqb, ltb}
use borrow.Author.Tests.{eqb-true, ne_eqb}
use Rattle.base_lists.specs.Lists.{choose, index_of, rank, shift_remove, insert_at, Above, Rising}
use Rattle.base_lists.specs.Maps.{keys, has, lookup, cut, replace, place_entry}
use Rattle.base_lists.proofs.Choice.{split}
use Rattle.base_lists.proofs.Maps.{length_keys}
use Rattle.base_lists.proofs.Search.{index_mem, index_not_mem}

module _ {A : Type 0} (k : ℕ) where
  -- the key is found at a place
  pub has_found : (m : List (ℕ × A)) → index_of k (keys m) < length m → has k m ≡ true
  unfolding has
  has_found m h = index_mem k (keys m) (omega (arith, length_keys m))

  pub has_missing : (m : List (ℕ × A)) → length m ≤ index_of k (keys m) → has k m ≡ false
  unfolding has
  has_missing m h = index_not_mem k (keys m) (omega (arith, length_keys m))

  pub lookup_found : (d : ℕ × A) (m : List (ℕ × A)) → index_of k (keys m) < length m → lookup k m ≡ some (get_or m (index_of k (keys m)) d).1
  unfolding lookup keys index_of choose
  lookup_found d [] h = absurd (not-suc-le-zero h)
  lookup_found d (e ∷ m) h = split (eqb k e.0) (λ t. rw t) (λ t. rw t (lookup_found d m (le_of_suc-le-suc (rw t at h))))

  pub lookup_missing : (m : List (ℕ × A)) → length m ≤ index_of k (keys m) → lookup k m ≡ none
  unfolding lookup keys index_of choose
  lookup_missing [] h = refl
  lookup_missing (e ∷ m) h =
      split (eqb k e.0) (λ t. absurd (not-suc-le-zero (rw t at h))) (λ t. rw t (lookup_missing m (le_of_suc-le-suc (rw t at h))))

  pub cut_missing : (m : List (ℕ × A)) → length m ≤ index_of k (keys m) → cut k m ≡ m
  unfolding cut keys index_of choose
  cut_missing [] h = refl
  cut_missing (e ∷ m) h =
      split (eqb k e.0) (λ t. absurd (not-suc-le-zero (rw t at h)))
      (λ t. rw t (ap (λ (l : List (ℕ × A)). e ∷ l) (cut_missing m (le_of_suc-le-suc (rw t at h)))))

  -- every key is above k
  cut_above : (m : List (ℕ × A)) → Above k (keys m) → cut k m ≡ m
  unfolding cut keys Above choose
  cut_above [] h = refl
  cut_above (e ∷ m) h = rw (ne_eqb k e.0 (λ q. omega (arith, h.0))) (ap (λ (l : List (ℕ × A)). e ∷ l) (cut_above m h.1))

  replace_above : (v : A) (m : List (ℕ × A)) → Above k (keys m) → replace k v m ≡ m
  unfolding replace keys Above choose
  replace_above v [] h = refl
  replace_above v (e ∷ m) h = rw (ne_eqb k e.0 (λ q. omega (arith, h.0))) (ap (λ (l : List (ℕ × A)). e ∷ l) (replace_above v m h.1))

  -- the one entry with the key leaves, and the later ones move down
  pub cut_found : (m : List (ℕ × A)) → Rising (keys m) → index_of k (keys m) < length m → cut k m ≡ shift_remove (index_of k (keys m)) m
  unfolding cut keys index_of Rising shift_remove choose
  cut_found [] r h = refl
  cut_found (e ∷ m) r h =
      split (eqb k e.0) (λ t. rw t (cut_above m (rw (eqb-true k e.0 t) r.0)))
      (λ t. rw t (ap (λ (l : List (ℕ × A)). e ∷ l) (cut_found m r.1 (le_of_suc-le-suc (rw t at h)))))

  -- the one entry with the key is stored over
  pub replace_found : (v : A) (m : List (ℕ × A)) → Rising (keys m) → index_of k (keys m) < length m → replace k v m ≡ set m (index_of k (keys m)) (k, v)
  unfolding replace keys index_of Rising choose
  replace_found v [] r h = refl
  replace_found v (e ∷ m) r h =
      split (eqb k e.0) (λ t. rw t (ap (λ (l : List (ℕ × A)). (k, v) ∷ l) (replace_above v m (rw (eqb-true k e.0 t) r.0))))
      (λ t. rw t (ap (λ (l : List (ℕ × A)). e ∷ l) (replace_found v m r.1 (le_of_suc-le-suc (rw t at h)))))

  -- a new entry stands at the rank of its key
  pub place_is : (v : A) (m : List (ℕ × A)) → place_entry k v m ≡ insert_at (rank k (keys m)) (k, v) m
  unfolding place_entry keys rank insert_at choose
  place_is v [] = refl
  place_is v (e ∷ m) = split (ltb k e.0) (λ t. rw t) (λ t. rw t (ap (λ (l : List (ℕ × A)). e ∷ l) (place_is v m)))
