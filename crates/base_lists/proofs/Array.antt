-- Laws of arrays of fixed length, and of an item taken out or put in.
-- Assumes nothing.
use Prim.Native.Nat.{ℕ, zero, suc, ◌+◌, ◌≤◌, ◌<◌, zero-le}
use mathlib.Core.Path.{◌≡◌, refl, sym, ap, subst, ◌∙◌}
use mathlib.Core.List.{List, [], ◌∷◌, ◌++◌}
use native.Mathlib.Nat.{le_of_suc-le-suc, not-suc-le-zero}
use native.Mathlib.Omega.{arith}
use lib.ListN.{length, take, get_or, set, replicate}
use Rattle.base_lists.specs.Array.{pad}
use Rattle.base_lists.specs.Lists.{shift_remove, insert_at}

module _ {A : Type 0} (z : A) where
  pub length_pad : (n : ℕ) (xs : List A) → length (pad z n xs) ≡ n
  unfolding pad
  length_pad zero xs = refl
  length_pad (suc n) [] = ap suc (length_pad n [])
  length_pad (suc n) (x ∷ xs) = ap suc (length_pad n xs)

  pad_none : (n : ℕ) → pad z n [] ≡ replicate n z
  unfolding pad
  pad_none zero = refl
  pad_none (suc n) = ap (λ (l : List A). z ∷ l) (pad_none n)

  -- the items, and then the k places past them
  pub pad_append : (n k : ℕ) (xs : List A) → n ≡ length xs + k → pad z n xs ≡ xs ++ replicate k z
  unfolding pad
  pad_append n k [] e = let q : n ≡ k = omega (arith, e) in pad_none n ∙ ap (λ (j : ℕ). replicate j z) q
  pad_append zero k (x ∷ xs) e = absurd (omega (arith, e))
  pad_append (suc n) k (x ∷ xs) e = ap (λ (l : List A). x ∷ l) (pad_append n k xs (omega (arith, e)))

  -- more places past a list that is filled up
  pub pad_more : (n k m : ℕ) (xs : List A) → length xs ≤ n → m ≡ n + k → pad z n xs ++ replicate k z ≡ pad z m xs
  unfolding pad
  pad_more zero k m [] h e = let q : k ≡ m = omega (arith, e) in ap (λ (j : ℕ). replicate j z) q ∙ sym (pad_none m)
  pad_more zero k m (x ∷ xs) h e = absurd (not-suc-le-zero h)
  pad_more (suc n) k zero xs h e = absurd (omega (arith, e))
  pad_more (suc n) k (suc m) [] h e = ap (λ (l : List A). z ∷ l) (pad_more n k m [] zero-le (omega (arith, e)))
  pad_more (suc n) k (suc m) (x ∷ xs) h e = ap (λ (l : List A). x ∷ l) (pad_more n k m xs (le_of_suc-le-suc h) (omega (arith, e)))

  pub take_pad : (n : ℕ) (xs : List A) → length xs ≤ n → take (length xs) (pad z n xs) ≡ xs
  unfolding pad
  take_pad n [] h = refl
  take_pad zero (x ∷ xs) h = absurd (not-suc-le-zero h)
  take_pad (suc n) (x ∷ xs) h = ap (λ (l : List A). x ∷ l) (take_pad n xs (le_of_suc-le-suc h))

  pub getD_pad : (n : ℕ) (xs : List A) (i : ℕ) → length xs ≤ n → get_or (pad z n xs) i z ≡ get_or xs i z
  unfolding pad
  getD_pad zero [] i h = refl
  getD_pad zero (x ∷ xs) i h = absurd (not-suc-le-zero h)
  getD_pad (suc n) [] zero h = refl
  getD_pad (suc n) [] (suc i) h = getD_pad n [] i zero-le
  getD_pad (suc n) (x ∷ xs) zero h = refl
  getD_pad (suc n) (x ∷ xs) (suc i) h = getD_pad n xs i (le_of_suc-le-suc h)

  -- a list that is cut or filled up to n places has its own items before them
  pub getD_filled : (n : ℕ) (xs : List A) (i : ℕ) → i < n → get_or (pad z n xs) i z ≡ get_or xs i z
  unfolding pad
  getD_filled zero xs i h = absurd (not-suc-le-zero h)
  getD_filled (suc n) [] zero h = refl
  getD_filled (suc n) [] (suc i) h = getD_filled n [] i (le_of_suc-le-suc h)
  getD_filled (suc n) (x ∷ xs) zero h = refl
  getD_filled (suc n) (x ∷ xs) (suc i) h = getD_filled n xs i (le_of_suc-le-suc h)

  -- a store within the items
  pub set_pad : (n : ℕ) (xs : List A) (i : ℕ) (v : A) → i < length xs → set (pad z n xs) i v ≡ pad z n (set xs i v)
  unfolding pad
  set_pad zero xs i v h = refl
  set_pad (suc n) [] i v h = absurd (not-suc-le-zero h)
  set_pad (suc n) (x ∷ xs) zero v h = refl
  set_pad (suc n) (x ∷ xs) (suc i) v h = ap (λ (l : List A). x ∷ l) (set_pad n xs i v (le_of_suc-le-suc h))

  -- a store at the first unused place
  pub push_pad : (n : ℕ) (xs : List A) (v : A) → length xs < n → set (pad z n xs) (length xs) v ≡ pad z n (xs ++ (v ∷ []))
  unfolding pad
  push_pad zero xs v h = absurd (not-suc-le-zero h)
  push_pad (suc n) [] v h = refl
  push_pad (suc n) (x ∷ xs) v h = ap (λ (l : List A). x ∷ l) (push_pad n xs v (le_of_suc-le-suc h))

  -- the last item's place cleared
  pub pop_pad : (n k : ℕ) (xs : List A) → length xs ≡ suc k → set (pad z n xs) k z ≡ pad z n (take k xs)
  unfolding pad
  pop_pad zero k xs h = refl
  pop_pad (suc n) k [] h = absurd (let q : ◌≡◌ {A = ℕ} 0 1 = omega (arith, h) in omega arith)
  pop_pad (suc n) zero (x ∷ []) h = refl
  pop_pad (suc n) zero (x ∷ y ∷ ys) h = absurd (omega (arith, h))
  pop_pad (suc n) (suc k) (x ∷ xs) h = ap (λ (l : List A). x ∷ l) (pop_pad n k xs (omega (arith, h)))

  -- n items from place i on, each by its place
  unfoldable pub spell : ℕ → ℕ → List A → List A
  spell zero i xs = []
  spell (suc n) i xs = get_or xs i z ∷ spell n (suc i) xs

  spell_after : (n i : ℕ) (x : A) (xs : List A) → spell n (suc i) (x ∷ xs) ≡ spell n i xs
  unfolding spell
  spell_after zero i x xs = refl
  spell_after (suc n) i x xs = ap (λ (l : List A). get_or xs i z ∷ l) (spell_after n (suc i) x xs)

  -- a list of known length, item by item: so that an array computes
  pub spelled : (n : ℕ) (xs : List A) → length xs ≡ n → spell n 0 xs ≡ xs
  unfolding spell
  spelled n xs e = subst (λ (k : ℕ). spell k 0 xs ≡ xs) e (whole xs)
    where
      whole : (l : List A) → spell (length l) 0 l ≡ l
      whole [] = refl
      whole (x ∷ l) = ap (λ (t : List A). x ∷ t) (spell_after (length l) 0 x l ∙ whole l)

  pub getD_shift_remove_below : (i k : ℕ) (xs : List A) → k < i → get_or (shift_remove i xs) k z ≡ get_or xs k z
  unfolding shift_remove
  getD_shift_remove_below i k [] h = refl
  getD_shift_remove_below zero k (x ∷ xs) h = absurd (not-suc-le-zero h)
  getD_shift_remove_below (suc i) zero (x ∷ xs) h = refl
  getD_shift_remove_below (suc i) (suc k) (x ∷ xs) h = getD_shift_remove_below i k xs (le_of_suc-le-suc h)

  pub getD_shift_remove_from : (i k : ℕ) (xs : List A) → i ≤ k → get_or (shift_remove i xs) k z ≡ get_or xs (suc k) z
  unfolding shift_remove
  getD_shift_remove_from i k [] h = refl
  getD_shift_remove_from zero k (x ∷ xs) h = refl
  getD_shift_remove_from (suc i) zero (x ∷ xs) h = absurd (not-suc-le-zero h)
  getD_shift_remove_from (suc i) (suc k) (x ∷ xs) h = getD_shift_remove_from i k xs (le_of_suc-le-suc h)

pub length_shift_remove : {A : Type 0} (i : ℕ) (xs : List A) → i < length xs → suc (length (shift_remove i xs)) ≡ length xs
unfolding shift_remove
length_shift_remove i [] h = absurd (not-suc-le-zero h)
length_shift_remove zero (x ∷ xs) h = refl
length_shift_remove (suc i) (x ∷ xs) h = ap suc (length_shift_remove i xs (le_of_suc-le-suc h))

module _ {A : Type 0} (z : A) where
  pub get_d_insert_below : (i : ℕ) (x : A) (k : ℕ) (xs : List A) → k < i → i ≤ length xs → get_or (insert_at i x xs) k z ≡ get_or xs k z
  unfolding insert_at
  get_d_insert_below zero x k xs h p = absurd (not-suc-le-zero h)
  get_d_insert_below (suc i) x k [] h p = absurd (not-suc-le-zero p)
  get_d_insert_below (suc i) x zero (y ∷ ys) h p = refl
  get_d_insert_below (suc i) x (suc k) (y ∷ ys) h p = get_d_insert_below i x k ys (le_of_suc-le-suc h) (le_of_suc-le-suc p)

  pub getD_insert_same : (i : ℕ) (x : A) (xs : List A) → i ≤ length xs → get_or (insert_at i x xs) i z ≡ x
  unfolding insert_at
  getD_insert_same zero x xs p = refl
  getD_insert_same (suc i) x [] p = absurd (not-suc-le-zero p)
  getD_insert_same (suc i) x (y ∷ ys) p = getD_insert_same i x ys (le_of_suc-le-suc p)

  pub getD_insert_from : (i : ℕ) (x : A) (k : ℕ) (xs : List A) → i ≤ k → i ≤ length xs → get_or (insert_at i x xs) (suc k) z ≡ get_or xs k z
  unfolding insert_at
  getD_insert_from zero x k xs h p = refl
  getD_insert_from (suc i) x k [] h p = absurd (not-suc-le-zero p)
  getD_insert_from (suc i) x zero (y ∷ ys) h p = absurd (not-suc-le-zero h)
  getD_insert_from (suc i) x (suc k) (y ∷ ys) h p = getD_insert_from i x k ys (le_of_suc-le-suc h) (le_of_suc-le-suc p)

pub length_insert_at : {A : Type 0} (i : ℕ) (x : A) (xs : List A) → length (insert_at i x xs) ≡ suc (length xs)
unfolding insert_at
length_insert_at zero x xs = refl
length_insert_at (suc i) x [] = refl
length_insert_at (suc i) x (y ∷ ys) = ap suc (length_insert_at i x ys)
