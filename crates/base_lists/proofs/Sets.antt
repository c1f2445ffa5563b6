-- Laws of the lists that stand for sets: what an insertion, a removal and a renewal are in the code's own steps, and lengths.
-- Assumes nothing.
use Prim.Native.Nat.{ℕ, suc, ◌+◌, ◌≤◌, ◌<◌}
use mathlib.Core.Path.{◌≡◌, refl, sym, ap, ◌∙◌}
use mathlib.Core.Bool.{Bool, true, false}
use mathlib.Core.List.{List, [], ◌∷◌, ◌++◌}
use native.Mathlib.Nat.{not-suc-le-zero}
use native.Mathlib.Omega.{arith}
use lib.ListN.{length, drop}
use lib.Dec.{eqb, ltb}
use borrow.Author.Tests.{lt-ltb, le-ltb, eqb-true, eq-eqb}
use Rattle.base_lists.specs.Lists.{mem, rank, place, insert, insert_at, renew, without, shift_remove, same}
use Rattle.base_lists.proofs.Choice.{by_test, split, choose_yes, choose_no, and_left, and_right}

pub place_at_rank : (p : ℕ) (xs : List ℕ) → insert_at (rank p xs) p xs ≡ place p xs
unfolding rank place insert_at
place_at_rank p [] = refl
place_at_rank p (q ∷ xs) =
    split (ltb p q) (λ e. rw e) (λ e. rw e (ap (λ (l : List ℕ). q ∷ l) (place_at_rank p xs)))

pub length_place : (p : ℕ) (xs : List ℕ) → length (place p xs) ≡ suc (length xs)
unfolding place
length_place p [] = refl
length_place p (q ∷ xs) =
    by_test (λ l. length l ≡ suc (suc (length xs))) (ltb p q) {x = p ∷ q ∷ xs} {y = q ∷ place p xs} (λ e. refl) (λ e. ap suc (length_place p xs))

pub insert_there : (p : ℕ) (xs : List ℕ) → mem p xs ≡ true → insert p xs ≡ xs
unfolding insert
insert_there p xs e = rw e

pub insert_new : (p : ℕ) (xs : List ℕ) → mem p xs ≡ false → insert p xs ≡ insert_at (rank p xs) p xs
unfolding insert
insert_new p xs e = rw e (sym (place_at_rank p xs))

pub shift_first : (xs : List ℕ) → shift_remove 0 xs ≡ drop 1 xs
unfolding shift_remove
shift_first [] = refl
shift_first (x ∷ xs) = refl

pub drop_snoc : (xs : List ℕ) (p : ℕ) → 0 < length xs → drop 1 (xs ++ (p ∷ [])) ≡ drop 1 xs ++ (p ∷ [])
drop_snoc [] p h = absurd (not-suc-le-zero h)
drop_snoc (x ∷ xs) p h = refl

pub renew_room : (n p : ℕ) (xs : List ℕ) → length (without p xs) < n → renew n p xs ≡ without p xs ++ (p ∷ [])
unfolding renew
renew_room n p xs h = choose_no _ _ _ (le-ltb n (length (without p xs) + 1) (omega arith))

-- the oldest leaves first, which is the same where at least one may stay
pub renew_full : (n p : ℕ) (xs : List ℕ) → 0 < n → n ≤ length (without p xs) → renew n p xs ≡ drop 1 (without p xs) ++ (p ∷ [])
unfolding renew
renew_full n p xs o h = choose_yes _ _ _ (lt-ltb n (length (without p xs) + 1) (omega arith)) ∙ drop_snoc (without p xs) p (omega arith)

-- `same` is the test of equality
pub same_true : (xs ys : List ℕ) → same xs ys ≡ true → xs ≡ ys
unfolding same
same_true [] [] e = refl
same_true [] (y ∷ ys) e = absurd (let z : ◌≡◌ {A = ℕ} 0 1 = cc in omega arith)
same_true (x ∷ xs) [] e = absurd (let z : ◌≡◌ {A = ℕ} 0 1 = cc in omega arith)
same_true (x ∷ xs) (y ∷ ys) e =
    λ i. eqb-true x y (and_left (eqb x y) (same xs ys) e) i ∷ same_true xs ys (and_right (eqb x y) (same xs ys) e) i

pub same_refl : (xs : List ℕ) → same xs xs ≡ true
unfolding same
same_refl [] = refl
same_refl (x ∷ xs) = rw (eq-eqb x x refl) (same_refl xs)

-- two tests of equal lists agree where each equation gives the other
pub same_alike : (xs ys us vs : List ℕ) → (xs ≡ ys → us ≡ vs) → (us ≡ vs → xs ≡ ys) → same xs ys ≡ same us vs
same_alike xs ys us vs f g = go (same xs ys) (same us vs) refl refl
  where
    go : (s t : Bool) → same xs ys ≡ s → same us vs ≡ t → s ≡ t
    go true true p q = refl
    go false false p q = refl
    go true false p q = sym (rw (f (same_true xs ys p)) (same_refl vs)) ∙ q
    go false true p q = sym p ∙ rw (g (same_true us vs q)) (same_refl ys)

pub same_no : (xs ys : List ℕ) → (xs ≡ ys → ⊥) → same xs ys ≡ false
same_no xs ys h = split (same xs ys) (λ e. absurd (h (same_true xs ys e))) (λ e. e)
