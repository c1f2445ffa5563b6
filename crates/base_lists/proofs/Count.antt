-- Laws of the lists of peers. Every fact about membership is a fact about `count`, so that `omega` closes it.
-- Assumes nothing.
use mathlib.Core.Path.{◌≡◌, refl, sym, subst}
use mathlib.Core.Bool.{true, false}
use mathlib.Core.List.{List, [], ◌∷◌, ◌++◌}
use Prim.Native.Nat.{ℕ, zero, suc, ◌+◌, ◌-◌, ◌≤◌, ◌<◌}
use native.Mathlib.Omega.{arith}
use native.Mathlib.Nat.{not-suc-le-zero, le_of_suc-le-suc}
use lib.ListN.{length, get_or, take, set, length-set, length-take}
use lib.Dec.{ltb, eqb}
use borrow.Author.Tests.{eqb-true, eq-eqb}
use Rattle.base_lists.specs.Lists.{is, count, mem, index_of, swap_remove, shift_remove, remove, without, without_all, place, insert}
use Rattle.base_lists.proofs.Choice.{by_test, split}

pub is_yes : (x p : ℕ) → eqb x p ≡ true → is x p ≡ 1
unfolding is
is_yes x p e = rw e

pub is_not : (x p : ℕ) → eqb x p ≡ false → is x p ≡ 0
unfolding is
is_not x p e = rw e

pub is_self : (x : ℕ) → is x x ≡ 1
is_self x = is_yes x x (eq-eqb x x refl)

pub is_le : (x p : ℕ) → is x p ≤ 1
is_le x p = split (eqb x p) (λ e. omega (arith, is_yes x p e)) (λ e. omega (arith, is_not x p e))

-- what holds where x is p, and where it is another
pub is_split : (C : ℕ → Type 0) (x p : ℕ) → C p → (is x p ≡ 0 → C x) → C x
is_split C x p f g = split (eqb x p) (λ e. subst C (sym (eqb-true x p e)) f) (λ e. g (is_not x p e))

pub mem_true : (x : ℕ) (xs : List ℕ) → mem x xs ≡ true → 1 ≤ count x xs
unfolding mem count
mem_true x [] e = let z : ◌≡◌ {A = ℕ} 0 1 = cc in omega arith
mem_true x (p ∷ xs) e = split (eqb x p) (λ t. omega (arith, is_yes x p t)) (λ t. let m : mem x xs ≡ true = cc in omega (arith, mem_true x xs m))

pub mem_false : (x : ℕ) (xs : List ℕ) → mem x xs ≡ false → count x xs ≡ 0
unfolding mem count
mem_false x [] e = refl
mem_false x (p ∷ xs) e =
    split (eqb x p) (λ t. let z : ◌≡◌ {A = ℕ} 0 1 = cc in omega arith) (λ t. let m : mem x xs ≡ false = cc in omega (arith, is_not x p t, mem_false x xs m))

pub count_append : (x : ℕ) (xs ys : List ℕ) → count x (xs ++ ys) ≡ count x xs + count x ys
unfolding count
count_append x [] ys = omega arith
count_append x (p ∷ xs) ys = omega (arith, count_append x xs ys)

pub count_one : (x p : ℕ) → count x (p ∷ []) ≡ is x p
unfolding count
count_one x p = omega arith

pub count_snoc : (x : ℕ) (xs : List ℕ) (p : ℕ) → count x (xs ++ (p ∷ [])) ≡ count x xs + is x p
count_snoc x xs p = omega (arith, count_append x xs (p ∷ []), count_one x p)

pub count_set : (x : ℕ) (xs : List ℕ) (i v : ℕ) → i < length xs → count x (set xs i v) + is x (get_or xs i 0) ≡ count x xs + is x v
unfolding count
count_set x [] i v h = absurd (not-suc-le-zero h)
count_set x (p ∷ xs) zero v h = omega arith
count_set x (p ∷ xs) (suc i) v h = omega (arith, count_set x xs i v (le_of_suc-le-suc h))

count_take_last : (x : ℕ) (l : List ℕ) (n : ℕ) → length l ≡ suc n → count x (take n l) + is x (get_or l n 0) ≡ count x l
unfolding count
count_take_last x [] n h = omega arith
count_take_last x (p ∷ []) zero h = omega arith
count_take_last x (p ∷ q ∷ xs) zero h = omega arith
count_take_last x (p ∷ xs) (suc n) h = let t : length xs ≡ suc n = omega arith in omega (arith, count_take_last x xs n t)

getD_set_last : (xs : List ℕ) (i n : ℕ) → get_or (set xs i (get_or xs n 0)) n 0 ≡ get_or xs n 0
getD_set_last [] i n = refl
getD_set_last (p ∷ xs) zero zero = refl
getD_set_last (p ∷ xs) zero (suc n) = refl
getD_set_last (p ∷ xs) (suc i) zero = refl
getD_set_last (p ∷ xs) (suc i) (suc n) = getD_set_last xs i n

pub count_swap : (x : ℕ) (xs : List ℕ) (i : ℕ) → i < length xs → count x (swap_remove i xs) + is x (get_or xs i 0) ≡ count x xs
unfolding swap_remove
count_swap x xs i h =
    let n = length xs - 1 in
    let v = get_or xs n 0 in
    let l : length (set xs i v) ≡ suc n = omega (arith, length-set xs i v) in
    let t = count_take_last x (set xs i v) n l in
    omega (arith, rw (getD_set_last xs i n) at t, count_set x xs i v h)

pub length_swap : (xs : List ℕ) (i : ℕ) → length (swap_remove i xs) ≡ length xs - 1
unfolding swap_remove
length_swap xs i = simp (length-take, length-set) (omega arith)

pub count_shift : (x : ℕ) (xs : List ℕ) (i : ℕ) → i < length xs → count x (shift_remove i xs) + is x (get_or xs i 0) ≡ count x xs
unfolding shift_remove count
count_shift x [] i h = absurd (not-suc-le-zero h)
count_shift x (p ∷ xs) zero h = omega arith
count_shift x (p ∷ xs) (suc i) h = omega (arith, count_shift x xs i (le_of_suc-le-suc h))

pub length_shift : (xs : List ℕ) (i : ℕ) → i < length xs → length (shift_remove i xs) ≡ length xs - 1
unfolding shift_remove
length_shift [] i h = absurd (not-suc-le-zero h)
length_shift (p ∷ xs) zero h = omega arith
length_shift (p ∷ xs) (suc i) h = let t = le_of_suc-le-suc h in omega (arith, length_shift xs i t)

pub index_lt : (p : ℕ) (xs : List ℕ) → mem p xs ≡ true → index_of p xs < length xs
unfolding index_of mem
index_lt p [] e = let z : ◌≡◌ {A = ℕ} 0 1 = cc in omega arith
index_lt p (q ∷ xs) e =
    split (eqb p q) (λ t. rw t (omega arith)) (λ t. let m : mem p xs ≡ true = cc in rw t (omega (arith, index_lt p xs m)))

pub index_at : (p : ℕ) (xs : List ℕ) → mem p xs ≡ true → get_or xs (index_of p xs) 0 ≡ p
unfolding index_of mem
index_at p [] e = let z : ◌≡◌ {A = ℕ} 0 1 = cc in omega arith
index_at p (q ∷ xs) e =
    split (eqb p q) (λ t. rw t (sym (eqb-true p q t))) (λ t. let m : mem p xs ≡ true = cc in rw t (index_at p xs m))

pub count_remove : (x p : ℕ) (xs : List ℕ) → count x (remove p xs) ≡ count x xs - is x p
unfolding remove
count_remove x p xs =
    by_test (λ l. count x l ≡ count x xs - is x p) (mem p xs)
    (λ e. let h = count_swap x xs (index_of p xs) (index_lt p xs e) in omega (arith, rw (index_at p xs e) at h))
    (λ e. is_split (λ y. count y xs ≡ count y xs - is y p) x p (omega (arith, mem_false p xs e)) (λ n. omega arith))

pub length_remove : (p : ℕ) (xs : List ℕ) → length (remove p xs) ≤ length xs
unfolding remove
length_remove p xs = by_test (λ l. length l ≤ length xs) (mem p xs) {x = swap_remove (index_of p xs) xs} {y = xs} (λ e. omega (arith, length_swap xs (index_of p xs))) (λ e. omega arith)

count_without_self : (p : ℕ) (xs : List ℕ) → count p (without p xs) ≡ 0
unfolding without count
count_without_self p [] = refl
count_without_self p (q ∷ xs) =
    by_test (λ l. count p l ≡ 0) (eqb p q) (λ e. count_without_self p xs) (λ e. omega (arith, is_not p q e, count_without_self p xs))

count_without_other : (x p : ℕ) (xs : List ℕ) → is x p ≡ 0 → count x (without p xs) ≡ count x xs
unfolding without count
count_without_other x p [] h = refl
count_without_other x p (q ∷ xs) h =
    by_test (λ l. count x l ≡ is x q + count x xs) (eqb p q)
    (λ e. let z : is x q ≡ 0 = rw (eqb-true p q e) at h in omega (arith, count_without_other x p xs h))
    (λ e. omega (arith, count_without_other x p xs h))

pub count_without : (x p : ℕ) (xs : List ℕ) → count x xs ≤ 1 → count x (without p xs) ≡ count x xs - is x p
count_without x p xs =
    is_split (λ y. count y xs ≤ 1 → count y (without p xs) ≡ count y xs - is y p) x p
    (λ h. omega (arith, count_without_self p xs, is_self p))
    (λ n h. omega (arith, count_without_other x p xs n))

pub length_without : (p : ℕ) (xs : List ℕ) → length (without p xs) + count p xs ≡ length xs
unfolding without count
length_without p [] = omega arith
length_without p (q ∷ xs) =
    by_test (λ l. length l + count p (q ∷ xs) ≡ suc (length xs)) (eqb p q) {x = without p xs} {y = q ∷ without p xs}
    (λ e. omega (arith, is_yes p q e, length_without p xs))
    (λ e. omega (arith, is_not p q e, length_without p xs))

-- no repeats, and p absent: still none with p
pub length_without_all : (ps xs : List ℕ) → length (without_all ps xs) ≤ length xs
unfolding without_all
length_without_all ps [] = omega arith
length_without_all ps (x ∷ xs) =
    by_test (λ (l : List ℕ). length l ≤ suc (length xs)) (mem x ps) (λ e. omega (arith, length_without_all ps xs)) (λ e. omega (arith, length_without_all ps xs))

pub absent : (x p : ℕ) (xs : List ℕ) → count p xs ≡ 0 → count x xs ≤ 1 → is x p + count x xs ≤ 1
absent x p xs e = is_split (λ y. count y xs ≤ 1 → is y p + count y xs ≤ 1) x p (λ h. omega (arith, is_le p p)) (λ n h. omega arith)

pub count_place : (x p : ℕ) (xs : List ℕ) → count x (place p xs) ≡ count x xs + is x p
unfolding place count
count_place x p [] = omega arith
count_place x p (q ∷ xs) =
    by_test (λ l. count x l ≡ count x (q ∷ xs) + is x p) (ltb p q) (λ e. omega arith) (λ e. omega (arith, count_place x p xs))

pub count_at : (xs : List ℕ) (i : ℕ) → i < length xs → 1 ≤ count (get_or xs i 0) xs
unfolding count
count_at [] i h = absurd (not-suc-le-zero h)
count_at (p ∷ xs) zero h = omega (arith, is_self p)
count_at (p ∷ xs) (suc i) h = omega (arith, count_at xs i (le_of_suc-le-suc h))

-- one more in a set: within any bound that has a place for it
pub count_insert : (x p : ℕ) (xs : List ℕ) (n : ℕ → ℕ) → 1 ≤ n p → count x xs ≤ n x → count x (insert p xs) ≤ n x
unfolding insert
count_insert x p xs n h k =
    by_test (λ l. count x l ≤ n x) (mem p xs) (λ e. k)
    (λ e. is_split (λ y. count y xs ≤ n y → count y (place p xs) ≤ n y) x p
    (λ m. omega (arith, count_place p p xs, is_self p, mem_false p xs e))
    (λ o m. omega (arith, count_place x p xs)) k)
