-- Loops over a whole list that look at every word: x is carried, and `F x l` is the answer where the words l are still to come.
-- Assumes nothing.
use Prim.Native.Nat.{ℕ, suc, ◌+◌, ◌-◌, ◌≤◌, ◌<◌}
use mathlib.Core.Path.{◌≡◌, refl, sym, ap, ◌∙◌, subst}
use mathlib.Core.Bool.{Bool, true, false, cond, ◌&&◌, ◌||◌, and-true, and_assoc, or-false}
use mathlib.Core.List.{List, [], ◌∷◌}
use native.Mathlib.Numerals.{add-one}
use native.Mathlib.Omega.{arith}
use lib.ListN.{length, drop, get_or, length-drop, drop_of_length-le}
use lib.Seq.{drop-cons}
use lib.Dec.{eqb, ltb}
use Rattle.base_lists.specs.Lists.{mem, rising, subset, disjoint}
use Rattle.base_lists.specs.Tests.{every}
use Rattle.base_scan.proofs.Tests.{is_in, not_in, subset_every, disjoint_every}

pub record Left {X Y : Type 0} (F : X → List ℕ → Y) (s : List ℕ) (whole : Y) (x : X) (i : ℕ) : Type 0 where
  pub low : i ≤ length s
  pub same : whole ≡ F x (drop i s)

pub left_start : {X Y : Type 0} (F : X → List ℕ → Y) (s : List ℕ) (x : X) → Left F s (F x s) x 0
left_start F s x = record { low = omega arith; same = refl }

module _ {X Y : Type 0} (F : X → List ℕ → Y) {s : List ℕ} {whole : Y} {x : X} {i : ℕ} (v : Left F s whole x i) where
  pub left_next : (x' : X) → i < length s → F x (get_or s i 0 ∷ drop (i + 1) s) ≡ F x' (drop (i + 1) s) → Left F s whole x' (i + 1)
  left_next x' h e = record { low = omega arith; same = v.same ∙ ap (F x) (drop-cons s i 0 h ∙ rw (add-one i) refl) ∙ e }

  pub left_end : length s ≤ i → whole ≡ F x []
  left_end h = v.same ∙ ap (F x) (drop_of_length-le s {i = i} h)

-- ---- every word passes a test

abbrev pub Every : (ℕ → Bool) → Bool → List ℕ → Bool
Every t ok l = ok && every t l

module _ (t : ℕ → Bool) where
  pub every_start : (s : List ℕ) → Left (Every t) s (every t s) true 0
  every_start s = left_start (Every t) s true

  module _ (s : List ℕ) (whole ok : Bool) (i : ℕ) (v : Left (Every t) s whole ok i) where
    pub every_next : i < length s → Left (Every t) s whole (ok && t (get_or s i 0)) (i + 1)
    unfolding every
    every_next h = left_next (Every t) v (ok && t (get_or s i 0)) h (sym (and_assoc ok (t (get_or s i 0)) (every t (drop (i + 1) s))))

    -- the same, where the test is a call's answer
    pub every_asked : (b : Bool) → b ≡ t (get_or s i 0) → i < length s → Left (Every t) s whole (ok && b) (i + 1)
    every_asked b e h = rw e (every_next h)

    -- and where it was seen to pass
    pub every_seen : true ≡ t (get_or s i 0) → i < length s → Left (Every t) s whole ok (i + 1)
    every_seen e h = subst (λ (b : Bool). Left (Every t) s whole b (i + 1)) (and-true ok) (every_asked true e h)

    pub every_end : length s ≤ i → ok ≡ whole
    unfolding every
    every_end h = sym (left_end (Every t) v h ∙ and-true ok)

-- ---- a word is among them

abbrev pub Hit : ℕ → Bool → List ℕ → Bool
Hit x hit l = hit || mem x l

grouped : (h b m : Bool) → (h || cond b true m) ≡ ((h || b) || m)
grouped true b m = refl
grouped false true m = refl
grouped false false m = refl

pub hit_start : (s : List ℕ) (x : ℕ) → Left (Hit x) s (mem x s) false 0
hit_start s x = left_start (Hit x) s false

module _ (s : List ℕ) (x : ℕ) (whole hit : Bool) (i : ℕ) (v : Left (Hit x) s whole hit i) where
  pub hit_next : i < length s → Left (Hit x) s whole (hit || eqb x (get_or s i 0)) (i + 1)
  unfolding mem
  hit_next h = left_next (Hit x) v (hit || eqb x (get_or s i 0)) h (grouped hit (eqb x (get_or s i 0)) (mem x (drop (i + 1) s)))

  pub hit_end : length s ≤ i → hit ≡ whole
  unfolding mem
  hit_end h = sym (left_end (Hit x) v h ∙ or-false hit)

-- ---- each word is below the next: i is 1 more than what is passed, so that a list of no words is as one of one

pub record Climb (s : List ℕ) (ok : Bool) (i : ℕ) : Type 0 where
  pub low : 1 ≤ i
  pub same : rising s ≡ (ok && rising (drop (i - 1) s))

pub climb_start : (s : List ℕ) → Climb s true 1
climb_start s = record { low = omega arith; same = refl }

rising_short : (l : List ℕ) → length l ≤ 1 → rising l ≡ true
unfolding rising
rising_short [] h = refl
rising_short (x ∷ []) h = refl
rising_short (x ∷ y ∷ l) h = absurd (omega arith)

module _ (s : List ℕ) (ok : Bool) (i : ℕ) (v : Climb s ok i) where
  pub climb_next : i < length s → Climb s (ok && ltb (get_or s (i - 1) 0) (get_or s i 0)) (i + 1)
  unfolding rising
  climb_next h =
      let k : suc (i - 1) ≡ i = omega (arith, v.low) in
      let j : i + 1 - 1 ≡ i = omega arith in
      let d : drop (i - 1) s ≡ get_or s (i - 1) 0 ∷ (get_or s i 0 ∷ drop (suc i) s) =
      drop-cons s (i - 1) 0 (omega arith) ∙ ap (λ (n : ℕ). get_or s (i - 1) 0 ∷ drop n s) k ∙ ap (λ (l : List ℕ). get_or s (i - 1) 0 ∷ l) (drop-cons s i 0 h) in
      let e : drop (i + 1 - 1) s ≡ get_or s i 0 ∷ drop (suc i) s = ap (λ (n : ℕ). drop n s) j ∙ drop-cons s i 0 h in
      record {
        low = omega arith;
        same = v.same ∙ rw (d, e) (sym (and_assoc ok (ltb (get_or s (i - 1) 0) (get_or s i 0)) (rising (get_or s i 0 ∷ drop (suc i) s))));
      }

  pub climb_end : length s ≤ i → ok ≡ rising s
  climb_end h = sym (v.same ∙ rw (rising_short (drop (i - 1) s) (omega (arith, length-drop (i - 1) s))) (and-true ok))

-- ---- subset and disjoint as tests of each word

pub subset_start : (xs ys : List ℕ) → Left (Every (is_in ys)) xs (subset xs ys) true 0
subset_start xs ys = rw (subset_every xs ys) (every_start (is_in ys) xs)

pub disjoint_start : (xs ys : List ℕ) → Left (Every (not_in ys)) xs (disjoint xs ys) true 0
disjoint_start xs ys = rw (disjoint_every xs ys) (every_start (not_in ys) xs)
