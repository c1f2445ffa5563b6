-- What is left of a list without two others is what one leaves of what the other leaves.
-- Assumes nothing.
use Prim.Native.Nat.{ℕ, ◌+◌, ◌≤◌}
use mathlib.Core.Path.{◌≡◌, refl, sym, ap, ◌∙◌}
use mathlib.Core.Bool.{◌||◌}
use mathlib.Core.List.{List, [], ◌∷◌, ◌++◌}
use native.Mathlib.Omega.{arith}
use lib.ListN.{length}
use lib.Dec.{eqb}
use borrow.Author.Tests.{eqb-true, eqb-false, eq-eqb}
use Rattle.base_lists.specs.Lists.{is, count, mem, without, without_all}
use Rattle.base_lists.proofs.Choice.{split, by_test}
use Rattle.base_lists.proofs.Count.{is_split, mem_false, count_without, length_without}

pub mem_append : (x : ℕ) (xs ys : List ℕ) → mem x (xs ++ ys) ≡ (mem x xs || mem x ys)
unfolding mem
mem_append x [] ys = refl
mem_append x (p ∷ xs) ys = split (eqb x p) (λ e. rw e) (λ e. rw e (mem_append x xs ys))

pub without_none : (xs : List ℕ) → without_all [] xs ≡ xs
unfolding without_all mem
without_none [] = refl
without_none (x ∷ xs) = ap (λ (l : List ℕ). x ∷ l) (without_none xs)

pub without_append : (ps qs xs : List ℕ) → without_all (ps ++ qs) xs ≡ without_all qs (without_all ps xs)
unfolding without_all
without_append ps qs [] = refl
without_append ps qs (x ∷ xs) =
    rw (mem_append x ps qs)
    (split (mem x ps) (λ e. rw e (without_append ps qs xs)) (λ e. rw (e, without_append ps qs xs)))

-- one test for two
either_way : (p x : ℕ) → eqb p x ≡ eqb x p
either_way p x =
    split (eqb x p) (λ e. rw e (eq-eqb p x (sym (eqb-true x p e))))
    (λ e. split (eqb p x) (λ f. absurd (eqb-false x p e (sym (eqb-true p x f)))) (λ f. f ∙ sym e))

-- without the first of them, then without the others
without_first : (p : ℕ) (ps xs : List ℕ) → without_all (p ∷ ps) xs ≡ without_all ps (without p xs)
unfolding without_all without mem
without_first p ps [] = refl
without_first p ps (x ∷ xs) =
    split (eqb x p) (λ e. rw (e, either_way p x, e) (without_first p ps xs))
    (λ e. rw (e, either_way p x, e) (split (mem x ps) (λ f. rw f (without_first p ps xs)) (λ f. rw f (ap (λ (l : List ℕ). x ∷ l) (without_first p ps xs)))))

-- each of them takes away at most one item of a list without repeats
pub few_taken : (ps xs : List ℕ) → ((x : ℕ) → count x xs ≤ 1) → length xs ≤ length ps + length (without_all ps xs)
few_taken [] xs h = rw (without_none xs) (omega arith)
few_taken (p ∷ ps) xs h =
    rw (without_first p ps xs)
    (omega (arith, h p, length_without p xs, few_taken ps (without p xs) (λ x. omega (arith, h x, count_without x p xs (h x)))))

-- an item that is left stands in the list, and is none of them
pub count_left : (x : ℕ) (ps xs : List ℕ) → count x (without_all ps xs) ≤ count x xs
unfolding without_all count
count_left x ps [] = omega arith
count_left x ps (q ∷ xs) =
    by_test (λ (l : List ℕ). count x l ≤ is x q + count x xs) (mem q ps) (λ e. omega (arith, count_left x ps xs)) (λ e. omega (arith, count_left x ps xs))

pub count_skipped : (x : ℕ) (ps xs : List ℕ) → 1 ≤ count x ps → count x (without_all ps xs) ≡ 0
unfolding without_all count
count_skipped x ps [] h = refl
count_skipped x ps (q ∷ xs) h =
    by_test (λ (l : List ℕ). count x l ≡ 0) (mem q ps) (λ e. count_skipped x ps xs h)
    (λ e. is_split (λ y. 1 ≤ count y ps → count y (without_all ps xs) ≡ 0 → is y q + count y (without_all ps xs) ≡ 0) x q
    (λ i z. absurd (omega (arith, mem_false q ps e))) (λ n i z. omega arith) h (count_skipped x ps xs h))
