-- The element at i is taken out of an array of N places, the later ones moving down. z is what unused places hold.
-- Assumes nothing.
use Prim.Native.Nat.{ℕ, suc, ◌+◌, ◌-◌, ◌≤◌, ◌<◌}
use mathlib.Core.Path.{◌≡◌, sym, ap, ◌∙◌}
use mathlib.Core.List.{List}
use native.Mathlib.Omega.{arith}
use native.Mathlib.Decide.{dec_lt}
use lib.ListN.{length, take, get_or, set, get_or-eq_default}
use lib.Seq.{get_or-take}
use Rattle.std.specs.List.{CopiedTo, SameBelow, SameFrom}
use Rattle.base_lists.specs.Array.{pad}
use Rattle.base_lists.specs.Lists.{shift_remove}
use Rattle.base_lists.proofs.Array.{length_pad, getD_pad, getD_shift_remove_below, getD_shift_remove_from, length_shift_remove}
use Rattle.base_lists.proofs.Front.{Front, front_step, front_end}

pub record Removing {A : Type 0} (z : A) (N : ℕ) (xs : List A) (i : ℕ) (cur : List A) (k : ℕ) : Type 0 where
  pub within : i < length xs
  pub fits : length xs ≤ N
  pub low : i ≤ k
  pub high : k < length xs
  pub front : Front z N (pad z N (shift_remove i xs)) (pad z N xs) cur k

module _ {A : Type 0} (z : A) (N : ℕ) (xs : List A) (i : ℕ) (h : i < length xs) (fits : length xs ≤ N) where
  getD_wanted : (j : ℕ) → get_or (pad z N (shift_remove i xs)) j z ≡ get_or (shift_remove i xs) j z
  getD_wanted j = getD_pad z N (shift_remove i xs) j (omega (arith, length_shift_remove i xs h))

  past : (j : ℕ) → length xs ≤ j + 1 → z ≡ get_or (pad z N (shift_remove i xs)) j z
  past j p = sym (getD_wanted j ∙ get_or-eq_default (shift_remove i xs) z (omega (arith, length_shift_remove i xs h)))

module _ {A : Type 0} (z : A) {N : ℕ} {xs : List A} {i : ℕ} {cur : List A} {k : ℕ} (v : Removing z N xs i cur k) where
  -- the place of the last is cleared
  pub removing_end : k + 1 ≡ length xs → set cur k z ≡ pad z N (shift_remove i xs)
  removing_end e =
      front_end (front_step v.front z (omega (arith, v.fits)) (past z N xs i v.within v.fits k (omega arith))) (length_pad z N (shift_remove i xs))
      (λ j p. getD_pad z N xs j v.fits ∙ get_or-eq_default xs z (omega arith) ∙ past z N xs i v.within v.fits j (omega arith))

-- The elements past the one at i stand one place down already, and the others as they did.
pub removing_moved : {A : Type 0} (z : A) (N n i : ℕ) (l t : List A) → length (take n l) ≡ n → n ≤ N → l ≡ pad z N (take n l) → i < n
    → CopiedTo l t (i + 1) i (n - (i + 1)) → SameBelow l t i → SameFrom l t (i + (n - (i + 1))) → length t ≡ N → set t (n - 1) z ≡ pad z N (shift_remove i (take n l))
removing_moved {A} z N n i l t e fits p h down below from long =
    let xs = take n l in
    let w : (j : ℕ) → get_or (pad z N (shift_remove i xs)) j z ≡ get_or (shift_remove i xs) j z = getD_wanted z N xs i (omega arith) (omega arith) in
    let done : (j : ℕ) → j < n - 1 → Dec (j < i) → get_or t j z ≡ get_or (pad z N (shift_remove i xs)) j z = λ j q d. elim d [
      | yes c ↦ below j z c ∙ sym (get_or-take n l j z (omega arith)) ∙ sym (w j ∙ getD_shift_remove_below z i j xs c)
      | no c ↦ let k : i + 1 + (j - i) ≡ suc j = omega arith in
          down j z (omega arith) (omega arith) ∙ ap (λ (m : ℕ). get_or l m z) k ∙ sym (get_or-take n l (suc j) z (omega arith)) ∙ sym (w j ∙ getD_shift_remove_from z i j xs (omega arith))
    ] in
    removing_end z
    (record {
      within = omega arith;
      fits = omega arith;
      low = omega arith;
      high = omega arith;
      front = record {
        long = long;
        done = λ j q. done j q (dec_lt j i);
        left = λ j q. from j z (omega arith) ∙ ap (λ (o : List A). get_or o j z) p;
      };
    })
    (omega arith)
