-- The loop that reads on to the first draw kept for n places.
-- Assumes nothing.
use Prim.Native.Nat.{ℕ, ◌+◌, ◌-◌, ◌%◌, ◌≤◌, ◌<◌}
use mathlib.Core.Path.{◌≡◌, refl}
use mathlib.Core.List.{List}
use native.Mathlib.Nat.{mod-lt}
use native.Mathlib.Omega.{arith}
use lib.ListN.{length, drop, get_or}
use Rattle.base_util.specs.Section.{working_places}
use Rattle.base_util.specs.Chances.{all_draws, pick_draws, pick}
use Rattle.base_util.proofs.Chances.{Passing, passing_start, passing_next, kept_index, kept_next, none_index, none_next}

-- the draws from `at` to k are passed over, since they are not below `end`
pub record Reading (n at : ℕ) (ds : List ℕ) (end k : ℕ) : Type 0 where
  pub upto : end ≡ all_draws - all_draws % n
  pub some : 0 < n
  pub near : k ≤ length ds + working_places
  pub passing : Passing n at ds k

pub reading_start : (n at : ℕ) (ds : List ℕ) → 0 < n → at ≤ length ds + working_places → Reading n at ds (all_draws - all_draws % n) at
reading_start n at ds h l = record { upto = refl; some = h; near = l; passing = passing_start n at ds }

module _ (n at : ℕ) (ds : List ℕ) (end k : ℕ) (v : Reading n at ds end k) where
  pub reading_next : k < length ds → end ≤ get_or ds k 0 → Reading n at ds end (k + 1)
  reading_next h l = record { upto = v.upto; some = v.some; near = omega arith; passing = passing_next n at ds k v.passing h (omega (arith, v.upto)) }

  module _ (h : k < length ds) (l : get_or ds k 0 < end) where
    pub read_index : get_or ds k 0 % n ≡ pick n (drop at ds)
    read_index = kept_index n at ds k v.passing h (omega (arith, v.upto))

    pub read_below : get_or ds k 0 % n < n
    read_below = mod-lt (get_or ds k 0) {m = n} v.some

    pub read_next : k + 1 ≡ at + pick_draws n (drop at ds)
    read_next = kept_next n at ds k v.passing h (omega (arith, v.upto)) v.some

  module _ (h : length ds ≤ k) where
    pub missed_index : 0 ≡ pick n (drop at ds)
    missed_index = none_index n at ds k v.passing h

    pub missed_next : k + 1 ≡ at + pick_draws n (drop at ds)
    missed_next = none_next n at ds k v.passing h v.some
