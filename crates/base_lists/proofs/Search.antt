-- A search for the first element of a list at which the test t holds. f is a definition that says its place, or the length where there is none.
-- Assumes nothing.
use Prim.Native.Nat.{ℕ, suc, ◌+◌, ◌≤◌, ◌<◌}
use mathlib.Core.Path.{◌≡◌, refl, sym, ap, ◌∙◌}
use mathlib.Core.Bool.{Bool, true, false, cond}
use mathlib.Core.List.{List, [], ◌∷◌}
use native.Mathlib.Omega.{arith}
use lib.ListN.{length}
use lib.Dec.{eqb, ltb}
use borrow.Author.Tests.{lt-ltb, le-ltb, ltb-false}
use Rattle.std.specs.Prelude.{Option, Some, None}
use Rattle.std.specs.List.{position, position_or_len}
use Rattle.std.specs.Option.{unwrap_or}
use Rattle.std.proofs.lemmas.List.Recursion.{is_position_or_len}
use Rattle.base_lists.specs.Lists.{mem, index_of, rank}
use Rattle.base_lists.proofs.Choice.{split}
use Rattle.base_lists.proofs.Count.{index_lt}

-- f answers the place of the first element at which t holds
pub record First {A : Type 0} (t : A → Bool) (f : List A → ℕ) : Type 0 where
  pub none : f [] ≡ 0
  pub more : (x : A) (l : List A) → f (x ∷ l) ≡ cond (t x) 0 (suc (f l))

pub first_index : (x : ℕ) → First (eqb x) (index_of x)
unfolding index_of
first_index x = record { none = refl; more = λ y l. refl }

pub first_rank : (x : ℕ) → First (ltb x) (rank x)
unfolding rank
first_rank x = record { none = refl; more = λ y l. refl }

module _ {A : Type 0} {t : A → Bool} {f : List A → ℕ} (g : First t f) where
  first_at_most : (l : List A) → f l ≤ length l
  first_at_most [] = omega (arith, g.none)
  first_at_most (x ∷ l) =
      split (t x) (λ e. let q : f (x ∷ l) ≡ 0 = g.more x l ∙ rw e in omega (arith, q))
      (λ e. let q : f (x ∷ l) ≡ suc (f l) = g.more x l ∙ rw e in omega (arith, q, first_at_most l))

  first_is : (l : List A) → f l ≡ position_or_len t l
  first_is l = is_position_or_len f t g.none (λ x r. let q : suc (f r) ≡ 1 + f r = omega arith in g.more x r ∙ ap (cond (t x) 0) q) l

  position_is : (l : List A) (n : ℕ) (r : Option ℕ) → r ≡ position t l → n ≡ length l → unwrap_or r n ≡ f l
  position_is l n r e q =
      let w = first_is l in
      let m = first_at_most l in
      let k = position_or_len t l in
      ap (λ (o : Option ℕ). unwrap_or o n) e
      ∙ split (ltb k (length l)) (λ h. let a : unwrap_or (cond (ltb k (length l)) (Some k) None) n ≡ k = rw h refl in a ∙ sym w)
      (λ h. let a : unwrap_or (cond (ltb k (length l)) (Some k) None) n ≡ n = rw h refl in
      let b : length l ≤ k = ltb-false k (length l) h in
      a ∙ omega (arith, q, w, m, b))

  -- the place that `position` answers, or the number of items where it answers none
  pub first_position : (l : List A) (n : ℕ) (r : Option ℕ) (u : ℕ) → r ≡ position t l → u ≡ unwrap_or r n → length l ≡ n → (u ≡ f l) × (u ≤ n)
  first_position l n r u e p q =
      let w : u ≡ f l = p ∙ position_is l n r e (sym q) in
      (w, omega (arith, first_at_most l))

pub index_absent : (x : ℕ) (xs : List ℕ) → mem x xs ≡ false → index_of x xs ≡ length xs
unfolding index_of mem
index_absent x [] e = refl
index_absent x (q ∷ xs) e =
    split (eqb x q)
    (λ t. let z : ◌≡◌ {A = ℕ} 0 1 = cc in absurd (omega arith))
    (λ t. let m : mem x xs ≡ false = cc in rw t (omega (arith, index_absent x xs m)))

-- x is there where its place is within the list
pub mem_index : (x : ℕ) (xs : List ℕ) → ltb (index_of x xs) (length xs) ≡ mem x xs
mem_index x xs =
    split (mem x xs) (λ e. lt-ltb _ _ (index_lt x xs e) ∙ sym e)
    (λ e. le-ltb (index_of x xs) (length xs) (omega (arith, index_absent x xs e)) ∙ sym e)

pub index_mem : (x : ℕ) (xs : List ℕ) → index_of x xs < length xs → mem x xs ≡ true
index_mem x xs h = sym (mem_index x xs) ∙ lt-ltb _ _ h

pub index_not_mem : (x : ℕ) (xs : List ℕ) → length xs ≤ index_of x xs → mem x xs ≡ false
index_not_mem x xs h = sym (mem_index x xs) ∙ le-ltb _ _ h
