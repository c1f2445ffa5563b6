-- The tests `subset` and `disjoint` as tests of each item, which is how the code computes them.
-- Assumes nothing.
use Prim.Native.Nat.{ℕ}
use mathlib.Core.Path.{◌≡◌, refl, ap}
use mathlib.Core.Bool.{Bool, not, ◌&&◌}
use mathlib.Core.List.{List, [], ◌∷◌}
use Rattle.base_lists.specs.Lists.{mem, subset, disjoint}
use Rattle.base_lists.specs.Tests.{every}

abbrev pub is_in : List ℕ → ℕ → Bool
is_in ys x = mem x ys

abbrev pub not_in : List ℕ → ℕ → Bool
not_in ys x = not (mem x ys)

pub subset_every : (xs ys : List ℕ) → subset xs ys ≡ every (is_in ys) xs
unfolding subset every
subset_every [] ys = refl
subset_every (x ∷ xs) ys = ap (λ (b : Bool). mem x ys && b) (subset_every xs ys)

pub disjoint_every : (xs ys : List ℕ) → disjoint xs ys ≡ every (not_in ys) xs
unfolding disjoint every
disjoint_every [] ys = refl
disjoint_every (x ∷ xs) ys = ap (λ (b : Bool). not (mem x ys) && b) (disjoint_every xs ys)
