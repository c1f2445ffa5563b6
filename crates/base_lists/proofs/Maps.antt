-- Laws of maps by peer: what a change does to the keys, and each change as one of a place in the list.
-- Assumes nothing.
use mathlib.Core.Path.{◌≡◌, refl, sym, ap, subst, ◌∙◌}
use mathlib.Core.Bool.{true, false, ◌||◌}
use mathlib.Core.List.{List, [], ◌∷◌}
use Prim.Native.Nat.{ℕ, suc, ◌+◌, ◌≤◌}
use native.Mathlib.Omega.{arith}
use lib.ListN.{length}
use lib.Dec.{eqb, ltb}
use borrow.Author.Tests.{eqb-true, ltb-true}
use Rattle.base_lists.specs.Lists.{choose, count, is, mem, without, place, insert, subset, Above, Rising}
use Rattle.base_lists.specs.Maps.{keys, has, cut, retain, replace, place_entry, put}
use Rattle.base_lists.specs.Tests.{All}
use Rattle.base_lists.proofs.Choice.{split, by_choice, choose_yes, choose_no, or_true, and_left, and_right, clash}

module _ {A : Type 0} where
  pub length_keys : (m : List (ℕ × A)) → length (keys m) ≡ length m
  unfolding keys
  length_keys [] = refl
  length_keys (e ∷ m) = ap suc (length_keys m)

  pub keys_cut : (p : ℕ) (m : List (ℕ × A)) → keys (cut p m) ≡ without p (keys m)
  unfolding keys cut without
  keys_cut p [] = refl
  keys_cut p (e ∷ m) =
      split (eqb p e.0) (λ t. rw (choose_yes (eqb p e.0) (cut p m) (e ∷ cut p m) t, t, keys_cut p m))
      (λ t. rw (choose_no (eqb p e.0) (cut p m) (e ∷ cut p m) t, t) (ap (λ (l : List ℕ). e.0 ∷ l) (keys_cut p m)))

  pub keys_place : (p : ℕ) (v : A) (m : List (ℕ × A)) → keys (place_entry p v m) ≡ place p (keys m)
  unfolding keys place_entry place
  keys_place p v [] = refl
  keys_place p v (e ∷ m) =
      split (ltb p e.0) (λ t. rw (choose_yes (ltb p e.0) ((p, v) ∷ e ∷ m) (e ∷ place_entry p v m) t, t))
      (λ t. rw (choose_no (ltb p e.0) ((p, v) ∷ e ∷ m) (e ∷ place_entry p v m) t, t) (ap (λ (l : List ℕ). e.0 ∷ l) (keys_place p v m)))

  pub keys_replace : (p : ℕ) (v : A) (m : List (ℕ × A)) → keys (replace p v m) ≡ keys m
  unfolding keys replace
  keys_replace p v [] = refl
  keys_replace p v (e ∷ m) =
      split (eqb p e.0) (λ t. rw (choose_yes (eqb p e.0) ((p, v) ∷ replace p v m) (e ∷ replace p v m) t) (cc (eqb-true p e.0 t, keys_replace p v m)))
      (λ t. rw (choose_no (eqb p e.0) ((p, v) ∷ replace p v m) (e ∷ replace p v m) t) (ap (λ (l : List ℕ). e.0 ∷ l) (keys_replace p v m)))

  pub keys_put : (p : ℕ) (v : A) (m : List (ℕ × A)) → keys (put p v m) ≡ insert p (keys m)
  unfolding put has insert
  keys_put p v m =
      split (mem p (keys m)) (λ t. rw (choose_yes (mem p (keys m)) (replace p v m) (place_entry p v m) t, t, keys_replace p v m))
      (λ t. rw (choose_no (mem p (keys m)) (replace p v m) (place_entry p v m) t, t, keys_place p v m))

  pub length_cut : (k : ℕ) (m : List (ℕ × A)) → length (cut k m) ≤ length m
  unfolding cut
  length_cut k [] = omega arith
  length_cut k (e ∷ m) =
      by_choice (λ l. length l ≤ suc (length m)) (eqb k e.0) {x = cut k m} {y = e ∷ cut k m} (λ t. omega (arith, length_cut k m)) (λ t. omega (arith, length_cut k m))

  -- what is retained: of those among ps only, in order, and no more than was there
  pub length_retain : (ps : List ℕ) (m : List (ℕ × A)) → length (retain ps m) ≤ length m
  unfolding retain
  length_retain ps [] = omega arith
  length_retain ps (e ∷ m) =
      by_choice (λ l. length l ≤ suc (length m)) (mem e.0 ps) {x = e ∷ retain ps m} {y = retain ps m} (λ t. omega (arith, length_retain ps m)) (λ t. omega (arith, length_retain ps m))

  pub subset_retain : (ps : List ℕ) (m : List (ℕ × A)) → subset (keys (retain ps m)) ps ≡ true
  unfolding retain keys subset
  subset_retain ps [] = refl
  subset_retain ps (e ∷ m) =
      by_choice (λ l. subset (keys l) ps ≡ true) (mem e.0 ps) {x = e ∷ retain ps m} {y = retain ps m} (λ t. rw t (subset_retain ps m)) (λ t. subset_retain ps m)

  pub count_retain : (x : ℕ) (ps : List ℕ) (m : List (ℕ × A)) → count x (keys (retain ps m)) ≤ count x (keys m)
  unfolding retain keys count
  count_retain x ps [] = omega arith
  count_retain x ps (e ∷ m) =
      by_choice (λ l. count x (keys l) ≤ is x e.0 + count x (keys m)) (mem e.0 ps) {x = e ∷ retain ps m} {y = retain ps m} (λ t. omega (arith, count_retain x ps m)) (λ t. omega (arith, count_retain x ps m))

  pub all_retain : (P : ℕ → Type 0) (ps : List ℕ) (m : List (ℕ × A)) → All P (keys m) → All P (keys (retain ps m))
  unfolding retain keys All
  all_retain P ps [] a = tt
  all_retain P ps (e ∷ m) a = by_choice (λ l. All P (keys l)) (mem e.0 ps) {x = e ∷ retain ps m} {y = retain ps m} (λ t. (a.0, all_retain P ps m a.1)) (λ t. all_retain P ps m a.1)

  above_retain : (x : ℕ) (ps : List ℕ) (m : List (ℕ × A)) → Above x (keys m) → Above x (keys (retain ps m))
  unfolding retain keys Above
  above_retain x ps [] h = tt
  above_retain x ps (e ∷ m) h = by_choice (λ l. Above x (keys l)) (mem e.0 ps) {x = e ∷ retain ps m} {y = retain ps m} (λ t. (h.0, above_retain x ps m h.1)) (λ t. above_retain x ps m h.1)

  pub rising_retain : (ps : List ℕ) (m : List (ℕ × A)) → Rising (keys m) → Rising (keys (retain ps m))
  unfolding retain keys Rising
  rising_retain ps [] h = tt
  rising_retain ps (e ∷ m) h =
      by_choice (λ l. Rising (keys l)) (mem e.0 ps) {x = e ∷ retain ps m} {y = retain ps m} (λ t. (above_retain e.0 ps m h.0, rising_retain ps m h.1)) (λ t. rising_retain ps m h.1)

  -- one that goes may go first, and where none goes nothing changes
  pub retain_cut : (p : ℕ) (ps : List ℕ) (m : List (ℕ × A)) → mem p ps ≡ false → retain ps (cut p m) ≡ retain ps m
  unfolding retain cut
  retain_cut p ps [] n = refl
  retain_cut p ps (e ∷ m) n =
      split (eqb p e.0)
      (λ t. rw (choose_yes (eqb p e.0) (cut p m) (e ∷ cut p m) t)
      (retain_cut p ps m n ∙ sym (choose_no (mem e.0 ps) (e ∷ retain ps m) (retain ps m) (subst (λ (x : ℕ). mem x ps ≡ false) (eqb-true p e.0 t) n))))
      (λ t. rw (choose_no (eqb p e.0) (cut p m) (e ∷ cut p m) t) (ap (λ (l : List (ℕ × A)). choose (mem e.0 ps) (e ∷ l) l) (retain_cut p ps m n)))

  pub retain_all : (ps : List ℕ) (m : List (ℕ × A)) → subset (keys m) ps ≡ true → retain ps m ≡ m
  unfolding retain keys subset
  retain_all ps [] h = refl
  retain_all ps (e ∷ m) h =
      choose_yes (mem e.0 ps) (e ∷ retain ps m) (retain ps m) (and_left (mem e.0 ps) (subset (keys m) ps) h)
      ∙ ap (λ (l : List (ℕ × A)). e ∷ l) (retain_all ps m (and_right (mem e.0 ps) (subset (keys m) ps) h))

  pub length_replace : (k : ℕ) (v : A) (m : List (ℕ × A)) → length (replace k v m) ≡ length m
  unfolding replace
  length_replace k v [] = refl
  length_replace k v (e ∷ m) =
      by_choice (λ l. length l ≡ suc (length m)) (eqb k e.0) {x = (k, v) ∷ replace k v m} {y = e ∷ replace k v m} (λ t. omega (arith, length_replace k v m))
      (λ t. omega (arith, length_replace k v m))

  pub length_place : (k : ℕ) (v : A) (m : List (ℕ × A)) → length (place_entry k v m) ≡ suc (length m)
  unfolding place_entry
  length_place k v [] = refl
  length_place k v (e ∷ m) =
      by_choice (λ l. length l ≡ suc (suc (length m))) (ltb k e.0) {x = (k, v) ∷ e ∷ m} {y = e ∷ place_entry k v m} (λ t. refl) (λ t. omega (arith, length_place k v m))

  -- within n entries: the key is there, or there is room
  pub length_put : (k n : ℕ) (v : A) (m : List (ℕ × A)) → (has k m || ltb (length m) n) ≡ true → length m ≤ n → length (put k v m) ≤ n
  unfolding put
  length_put k n v m t l =
      by_choice (λ w. length w ≤ n) (has k m) {x = replace k v m} {y = place_entry k v m} (λ e. omega (arith, length_replace k v m))
      (λ e. or_true (has k m) (ltb (length m) n) t (λ f. clash (has k m) f e) (λ f. omega (arith, length_place k v m, ltb-true (length m) n f)))
