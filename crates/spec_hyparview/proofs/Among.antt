-- What holds of every item of a list holds of every item of a list made from it.
-- Assumes nothing.
use mathlib.Core.List.{List, [], ◌∷◌, ◌++◌}
use Prim.Native.Nat.{ℕ, zero, suc, ◌+◌, ◌-◌}
use lib.ListN.{length, get_or, take, drop}
use lib.Dec.{ltb, eqb}
use Rattle.base_lists.specs.Lists.{mem, index_of, swap_remove, remove, without, without_all, place, insert, renew, swap}
use Rattle.base_lists.specs.Maps.{keys, cut, put}
use Rattle.base_lists.specs.Tests.{All}
use Rattle.base_lists.proofs.Choice.{by_choice, by_test}
use Rattle.base_lists.proofs.Entries.{all_set}
use Rattle.base_lists.proofs.Maps.{keys_cut, keys_put}
use Rattle.base_util.specs.Chances.{pick_draws, pick, shuffle_down, shuffle}
use Rattle.spec_hyparview.specs.Timers.{renew_all}

module _ {A : Type 0} (P : A → Type 0) where
  pub all_append : (xs ys : List A) → All P xs → All P ys → All P (xs ++ ys)
  unfolding All
  all_append [] ys a b = b
  all_append (x ∷ xs) ys a b = (a.0, all_append xs ys a.1 b)

  pub all_take : (n : ℕ) (xs : List A) → All P xs → All P (take n xs)
  unfolding All
  all_take zero xs a = tt
  all_take (suc n) [] a = tt
  all_take (suc n) (x ∷ xs) a = (a.0, all_take n xs a.1)

  all_drop : (n : ℕ) (xs : List A) → All P xs → All P (drop n xs)
  unfolding All
  all_drop zero xs a = a
  all_drop (suc n) [] a = tt
  all_drop (suc n) (x ∷ xs) a = all_drop n xs a.1

  -- an item, or what stands for none
  pub all_get : (xs : List A) (i : ℕ) (d : A) → P d → All P xs → P (get_or xs i d)
  unfolding All
  all_get [] i d p a = p
  all_get (x ∷ xs) zero d p a = a.0
  all_get (x ∷ xs) (suc i) d p a = all_get xs i d p a.1

-- peers
module _ (P : ℕ → Type 0) where
  pub all_without : (p : ℕ) (xs : List ℕ) → All P xs → All P (without p xs)
  unfolding All without
  all_without p [] a = tt
  all_without p (q ∷ xs) a = by_test (All P) (eqb p q) (λ e. all_without p xs a.1) (λ e. (a.0, all_without p xs a.1))

  pub all_without_all : (ps xs : List ℕ) → All P xs → All P (without_all ps xs)
  unfolding All without_all
  all_without_all ps [] a = tt
  all_without_all ps (q ∷ xs) a = by_test (All P) (mem q ps) (λ e. all_without_all ps xs a.1) (λ e. (a.0, all_without_all ps xs a.1))

  all_place : (p : ℕ) (xs : List ℕ) → P p → All P xs → All P (place p xs)
  unfolding All place
  all_place p [] h a = (h, tt)
  all_place p (q ∷ xs) h a = by_test (All P) (ltb p q) (λ e. (h, a)) (λ e. (a.0, all_place p xs h a.1))

  pub all_insert : (p : ℕ) (xs : List ℕ) → P p → All P xs → All P (insert p xs)
  unfolding insert
  all_insert p xs h a = by_test (All P) (mem p xs) (λ e. a) (λ e. all_place p xs h a)

  pub all_more : (xs : List ℕ) (p : ℕ) → P p → All P xs → All P (xs ++ (p ∷ []))
  unfolding All
  all_more xs p h a = all_append P xs (p ∷ []) a (h, tt)

  pub all_renew : (n p : ℕ) (xs : List ℕ) → P p → All P xs → All P (renew n p xs)
  unfolding renew
  all_renew n p xs h a =
      let w = all_more (without p xs) p h (all_without p xs a) in
      by_choice (All P) (ltb n (length (without p xs) + 1)) (λ e. all_drop P 1 _ w) (λ e. w)

  pub all_renew_all : (ps xs : List ℕ) → All P ps → All P xs → All P (renew_all ps xs)
  unfolding All renew_all
  all_renew_all [] xs h a = a
  all_renew_all (p ∷ ps) xs h a = all_renew_all ps _ h.1 (all_renew 8 p xs h.0 a)

  pub all_keys_cut : {B : Type 0} (p : ℕ) (m : List (ℕ × B)) → All P (keys m) → All P (keys (cut p m))
  all_keys_cut p m a = rw (keys_cut p m) (all_without p (keys m) a)

  pub all_keys_put : {B : Type 0} (p : ℕ) (v : B) (m : List (ℕ × B)) → P p → All P (keys m) → All P (keys (put p v m))
  all_keys_put p v m h a = rw (keys_put p v m) (all_insert p (keys m) h a)

  -- where 0 stands for no item
  module _ (z : P 0) where
    pub all_swap_remove : (i : ℕ) (xs : List ℕ) → All P xs → All P (swap_remove i xs)
    unfolding swap_remove
    all_swap_remove i xs a = all_take P (length xs - 1) _ (all_set P xs i _ (all_get P xs (length xs - 1) 0 z a) a)

    pub all_remove : (p : ℕ) (xs : List ℕ) → All P xs → All P (remove p xs)
    unfolding remove
    all_remove p xs a = by_test (All P) (mem p xs) (λ e. all_swap_remove (index_of p xs) xs a) (λ e. a)

    all_swap : (i j : ℕ) (xs : List ℕ) → All P xs → All P (swap i j xs)
    unfolding swap
    all_swap i j xs a = all_set P _ j _ (all_get P xs i 0 z a) (all_set P xs i _ (all_get P xs j 0 z a) a)

    all_shuffle_down : (n : ℕ) (ds xs : List ℕ) → All P xs → All P (shuffle_down n ds xs)
    unfolding shuffle_down
    all_shuffle_down zero ds xs a = a
    all_shuffle_down (suc n) ds xs a = all_shuffle_down n (drop (pick_draws (n + 2) ds) ds) _ (all_swap (suc n) (pick (n + 2) ds) xs a)

    pub all_shuffle : (ds xs : List ℕ) → All P xs → All P (shuffle ds xs)
    unfolding shuffle
    all_shuffle ds xs a = all_shuffle_down (length xs - 1) ds xs a
