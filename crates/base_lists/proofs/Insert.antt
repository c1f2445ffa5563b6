-- x is put at place i of an array of N places, the later items moving up. z is what unused places hold.
-- Assumes nothing.
use Prim.Native.Nat.{ℕ, suc, ◌+◌, ◌-◌, ◌≤◌, ◌<◌}
use mathlib.Core.Path.{◌≡◌, sym, ap, ◌∙◌, subst}
use mathlib.Core.List.{List}
use native.Mathlib.Omega.{arith}
use native.Mathlib.Decide.{dec_lt}
use lib.ListN.{length, take, get_or, set, length-set, get_or-eq_default}
use lib.Seq.{get_or-take, get_or-set_same, get_or-set_other}
use Rattle.std.specs.List.{CopiedTo, SameBelow, SameFrom}
use Rattle.base_lists.specs.Array.{pad}
use Rattle.base_lists.specs.Lists.{insert_at}
use Rattle.base_lists.proofs.Array.{length_pad, getD_pad, get_d_insert_below, getD_insert_same, getD_insert_from, length_insert_at}
use Rattle.base_lists.proofs.Front.{Front, front_end}

pub record Inserting {A : Type 0} (z : A) (N : ℕ) (xs : List A) (i : ℕ) (x : A) (cur : List A) (k : ℕ) : Type 0 where
  pub within : i ≤ length xs
  pub fits : length xs < N
  pub low : i ≤ k
  pub high : k ≤ length xs + 1
  pub front : Front z N (pad z N (insert_at i x xs)) (pad z N xs) cur k

module _ {A : Type 0} (z : A) (N : ℕ) (xs : List A) (i : ℕ) (x : A) (h : i ≤ length xs) (fits : length xs < N) where
  getD_wanted : (j : ℕ) → get_or (pad z N (insert_at i x xs)) j z ≡ get_or (insert_at i x xs) j z
  getD_wanted j = getD_pad z N (insert_at i x xs) j (omega (arith, length_insert_at i x xs))

module _ {A : Type 0} (z : A) {N : ℕ} {xs : List A} {i : ℕ} {x : A} {cur : List A} {k : ℕ} (v : Inserting z N xs i x cur k) where
  pub inserting_end : length xs < k → cur ≡ pad z N (insert_at i x xs)
  inserting_end h =
      front_end v.front (length_pad z N (insert_at i x xs))
      (λ j p. getD_pad z N xs j (omega (arith, v.fits)) ∙ get_or-eq_default xs z (omega arith)
      ∙ sym (getD_wanted z N xs i x v.within v.fits j
      ∙ get_or-eq_default (insert_at i x xs) z (omega (arith, length_insert_at i x xs))))

-- The items from place i on stand one place up already, and the others as they did.
pub inserting_moved : {A : Type 0} (z : A) (N n i : ℕ) (x : A) (l t : List A) → length (take n l) ≡ n → n < N → l ≡ pad z N (take n l) → i ≤ n
    → CopiedTo l t i (i + 1) (n - i) → SameBelow l t (i + 1) → SameFrom l t (i + 1 + (n - i)) → length t ≡ N → set t i x ≡ pad z N (insert_at i x (take n l))
inserting_moved {A} z N n i x l t e fits p h up below from long =
    let xs = take n l in
    let w : (j : ℕ) → get_or (pad z N (insert_at i x xs)) j z ≡ get_or (insert_at i x xs) j z = getD_wanted z N xs i x (omega arith) (omega arith) in
    let past : (j : ℕ) → i < j → j < n + 1 → get_or (set t i x) j z ≡ get_or (pad z N (insert_at i x xs)) j z = λ j a b.
    let k : suc (j - 1) ≡ j = omega arith in
    let m : i + (j - (i + 1)) ≡ j - 1 = omega arith in
    get_or-set_other t i j x z (λ q. omega arith) ∙ up j z (omega arith) (omega arith) ∙ ap (λ (o : ℕ). get_or l o z) m
    ∙ sym (get_or-take n l (j - 1) z (omega arith)) ∙ sym (getD_insert_from z i x (j - 1) xs (omega arith) (omega arith)) ∙ ap (λ (o : ℕ). get_or (insert_at i x xs) o z) k ∙ sym (w j) in
    let same : get_or (set t i x) i z ≡ get_or (pad z N (insert_at i x xs)) i z = get_or-set_same t i x z (omega arith) ∙ sym (w i ∙ getD_insert_same z i x xs (omega arith)) in
    let before : (j : ℕ) → j < i → get_or (set t i x) j z ≡ get_or (pad z N (insert_at i x xs)) j z = λ j a.
    get_or-set_other t i j x z (λ q. omega arith) ∙ below j z (omega arith) ∙ sym (get_or-take n l j z (omega arith)) ∙ sym (w j ∙ get_d_insert_below z i x j xs a (omega arith)) in
    let done : (j : ℕ) → j < n + 1 → Dec (j < i) → Dec (i < j) → get_or (set t i x) j z ≡ get_or (pad z N (insert_at i x xs)) j z = λ j q c d.
    elim c [ yes a ↦ before j a | no a ↦ elim d [ yes b ↦ past j b q | no b ↦ let k : i ≡ j = omega arith in subst (λ (o : ℕ). get_or (set t i x) o z ≡ get_or (pad z N (insert_at i x xs)) o z) k same ] ] in
    inserting_end z
    (record {
      within = omega arith;
      fits = omega arith;
      low = omega arith;
      high = omega arith;
      front = record {
        long = length-set t i x ∙ long;
        done = λ j q. done j q (dec_lt j i) (dec_lt i j);
        left = λ j q. get_or-set_other t i j x z (λ k. omega arith) ∙ from j z (omega arith) ∙ ap (λ (o : List A). get_or o j z) p;
      };
    })
    (omega arith)
