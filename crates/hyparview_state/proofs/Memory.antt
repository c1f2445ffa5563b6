-- Own data, a bool and a limit come back from their words as they went there.
-- Assumes nothing.
use Prim.Native.Nat.{ℕ, ◌≤◌}
use mathlib.Core.Path.{◌≡◌, refl}
use mathlib.Core.Bool.{Bool, true, false, cond}
use mathlib.Core.List.{List}
use native.Mathlib.Omega.{arith}
use lib.Dec.{eqb}
use borrow.Author.Tests.{eq-eqb, ne_eqb}
use mir.Val.{bool_byte}
use Rattle.base_lists.specs.Lists.{choose}
use Rattle.hyparview_state.specs.declared.RefillLimit.{RefillLimit}
use Rattle.hyparview_state.specs.declared.RefillLimit.TheVariants.{Automatic, Requests, Recovery}
use Rattle.hyparview_state.specs.Layout.{refill_kind, refill_requests}
use Rattle.hyparview_state.specs.Unpack.{limit_at}

-- ---- a bool

pub bit_fits : (t : Bool) → cond t 1 0 ≤ 1
bit_fits true = omega arith
bit_fits false = omega arith

pub bool_back : (t : Bool) → eqb (cond t 1 0) 1 ≡ t
bool_back true = refl
bool_back false = refl

pub byte_fits : (t : Bool) → bool_byte t ≤ 1
byte_fits true = omega arith
byte_fits false = omega arith

pub byte_back : (t : Bool) → eqb (bool_byte t) 1 ≡ t
byte_back true = refl
byte_back false = refl

-- ---- the limit that two words say

abbrev pub two_limit : ℕ → ℕ → RefillLimit
two_limit k n = choose (eqb k 0) Automatic (choose (eqb k 1) (Requests n) Recovery)

module _ (xs : List ℕ) where
  pub limit_automatic : refill_kind xs ≡ 0 → Automatic ≡ limit_at xs
  unfolding limit_at choose
  limit_automatic z = rw (eq-eqb (refill_kind xs) 0 z)

  pub limit_requests : refill_kind xs ≡ 1 → Requests (refill_requests xs) ≡ limit_at xs
  unfolding limit_at choose
  limit_requests o = rw o

  pub limit_recovery : (refill_kind xs ≡ 0 → ⊥) → (refill_kind xs ≡ 1 → ⊥) → Recovery ≡ limit_at xs
  unfolding limit_at choose
  limit_recovery z o = rw (ne_eqb (refill_kind xs) 0 z, ne_eqb (refill_kind xs) 1 o)
