-- Laws of the pairs of two lists that are as long as each other: what they are made of, and a change of both at one place.
-- Assumes nothing.
use mathlib.Core.Path.{◌≡◌, refl, ap}
use mathlib.Core.List.{List, [], ◌∷◌}
use Prim.Native.Nat.{ℕ, zero, suc, ◌<◌}
use native.Mathlib.Nat.{le_of_suc-le-suc, not-suc-le-zero}
use native.Mathlib.Omega.{arith}
use lib.ListN.{length, get_or, set}
use Rattle.base_lists.specs.Lists.{shift_remove, insert_at}
use Rattle.base_lists.specs.Maps.{keys, values, zip}

module _ {A : Type 0} where
  pub zip_back : (m : List (ℕ × A)) → zip (keys m) (values m) ≡ m
  unfolding zip keys values
  zip_back [] = refl
  zip_back (e ∷ m) = ap (λ (l : List (ℕ × A)). e ∷ l) (zip_back m)

  pub length_values : (m : List (ℕ × A)) → length (values m) ≡ length m
  unfolding values
  length_values [] = refl
  length_values (e ∷ m) = ap suc (length_values m)

  pub keys_zip : (ks : List ℕ) (vs : List A) → length ks ≡ length vs → keys (zip ks vs) ≡ ks
  unfolding zip keys
  keys_zip [] vs e = refl
  keys_zip (k ∷ ks) [] e = absurd (omega arith)
  keys_zip (k ∷ ks) (v ∷ vs) e = ap (λ (l : List ℕ). k ∷ l) (keys_zip ks vs (omega arith))

  pub values_zip : (ks : List ℕ) (vs : List A) → length ks ≡ length vs → values (zip ks vs) ≡ vs
  unfolding zip values
  values_zip [] [] e = refl
  values_zip [] (v ∷ vs) e = absurd (omega arith)
  values_zip (k ∷ ks) [] e = refl
  values_zip (k ∷ ks) (v ∷ vs) e = ap (λ (l : List A). v ∷ l) (values_zip ks vs (omega arith))

  pub get_d_zip : (ks : List ℕ) (vs : List A) (i : ℕ) (d : ℕ × A) (c : A) → length ks ≡ length vs → i < length ks → (get_or (zip ks vs) i d).1 ≡ get_or vs i c
  unfolding zip
  get_d_zip [] vs i d c e h = absurd (not-suc-le-zero h)
  get_d_zip (k ∷ ks) [] i d c e h = absurd (omega (arith, e))
  get_d_zip (k ∷ ks) (v ∷ vs) zero d c e h = refl
  get_d_zip (k ∷ ks) (v ∷ vs) (suc i) d c e h = get_d_zip ks vs i d c (omega (arith, e)) (le_of_suc-le-suc h)

  -- a value is stored over
  pub zip_set : (ks : List ℕ) (vs : List A) (i : ℕ) (v : A) → zip ks (set vs i v) ≡ set (zip ks vs) i (get_or ks i 0, v)
  unfolding zip
  zip_set [] vs i v = refl
  zip_set (k ∷ ks) [] i v = refl
  zip_set (k ∷ ks) (w ∷ vs) zero v = refl
  zip_set (k ∷ ks) (w ∷ vs) (suc i) v = ap (λ (l : List (ℕ × A)). (k, w) ∷ l) (zip_set ks vs i v)

  pub zip_shift_remove : (i : ℕ) (ks : List ℕ) (vs : List A) → length ks ≡ length vs → zip (shift_remove i ks) (shift_remove i vs) ≡ shift_remove i (zip ks vs)
  unfolding zip shift_remove
  zip_shift_remove i [] vs e = refl
  zip_shift_remove i (k ∷ ks) [] e = absurd (omega arith)
  zip_shift_remove zero (k ∷ ks) (v ∷ vs) e = refl
  zip_shift_remove (suc i) (k ∷ ks) (v ∷ vs) e = ap (λ (l : List (ℕ × A)). (k, v) ∷ l) (zip_shift_remove i ks vs (omega arith))

  pub zip_insert_at : (i k : ℕ) (v : A) (ks : List ℕ) (vs : List A) → length ks ≡ length vs → zip (insert_at i k ks) (insert_at i v vs) ≡ insert_at i (k, v) (zip ks vs)
  unfolding zip insert_at
  zip_insert_at zero k v ks vs e = refl
  zip_insert_at (suc i) k v [] [] e = refl
  zip_insert_at (suc i) k v [] (w ∷ vs) e = absurd (omega arith)
  zip_insert_at (suc i) k v (j ∷ ks) [] e = absurd (omega arith)
  zip_insert_at (suc i) k v (j ∷ ks) (w ∷ vs) e = ap (λ (l : List (ℕ × A)). (j, w) ∷ l) (zip_insert_at i k v ks vs (omega arith))
