-- What the tests of lists and arrays say, both ways.
-- Assumes nothing.
use mathlib.Core.Path.{◌≡◌, refl, sym, ap, ◌∙◌}
use mathlib.Core.Bool.{Bool, true, false, ◌&&◌, and-true, and_assoc}
use mathlib.Core.List.{List, [], ◌∷◌, ◌++◌, map}
use Prim.Native.Nat.{ℕ, zero, suc, ◌+◌, ◌≤◌, ◌<◌}
use native.Mathlib.Omega.{arith}
use lib.ListN.{length, take, drop, get_or}
use lib.Seq.{take-nil, take_all}
use lib.Dec.{eqb, ltb}
use borrow.Author.Tests.{eqb-true, eq-eqb, ltb-true, lt-ltb}
use Rattle.base_lists.specs.Lists.{rising, same, Above, Rising}
use Rattle.base_lists.specs.Array.{pad}
use Rattle.base_lists.specs.Tests.{every, packed, All}
use Rattle.base_lists.proofs.Choice.{and_left, and_right}
use Rattle.base_lists.proofs.Rising.{above_less}
use Rattle.base_lists.proofs.Array.{length_pad}
use Rattle.base_lists.proofs.Rest.{Rest, rest_next, rest_end}

pub both_true : (a b : Bool) → a ≡ true → b ≡ true → (a && b) ≡ true
both_true true b p q = q
both_true false b p q = p

pub and_no : (a : Bool) → (a && false) ≡ false
and_no true = refl
and_no false = refl

above_head : (x y : ℕ) (ys : List ℕ) → x < y → Above y ys → Above x (y ∷ ys)
unfolding Above
above_head x y ys h a = (h, above_less x y ys h a)

above_none : (x : ℕ) → Above x []
unfolding Above
above_none x = tt

pub rising_true : (xs : List ℕ) → rising xs ≡ true → Rising xs
unfolding rising Rising
rising_true [] e = tt
rising_true (x ∷ []) e = (above_none x, tt)
rising_true (x ∷ y ∷ ys) e =
    let r : Rising (y ∷ ys) = rising_true (y ∷ ys) (and_right (ltb x y) _ e) in
    (above_head x y ys (ltb-true x y (and_left (ltb x y) _ e)) r.0, r)

pub true_rising : (xs : List ℕ) → Rising xs → rising xs ≡ true
unfolding rising Rising Above
true_rising [] r = refl
true_rising (x ∷ []) r = refl
true_rising (x ∷ y ∷ ys) r = both_true (ltb x y) _ (lt-ltb x y r.0.0) (true_rising (y ∷ ys) r.1)

-- lists of other lengths are not the same
pub same_length : (xs ys : List ℕ) → (length xs ≡ length ys → ⊥) → same xs ys ≡ false
unfolding same
same_length [] [] h = absurd (h refl)
same_length [] (y ∷ ys) h = refl
same_length (x ∷ xs) [] h = refl
same_length (x ∷ xs) (y ∷ ys) h = rw (same_length xs ys (λ e. h (ap suc e))) (and_no (eqb x y))

-- a test of two lists in a row
pub every_append : {A : Type 0} (t : A → Bool) (xs ys : List A) → every t (xs ++ ys) ≡ (every t xs && every t ys)
unfolding every
every_append t [] ys = refl
every_append t (x ∷ xs) ys = ap (λ (b : Bool). t x && b) (every_append t xs ys) ∙ sym (and_assoc (t x) (every t xs) (every t ys))

module _ {A : Type 0} (t : A → Bool) (P : A → Type 0) where
  pub every_true : ((x : A) → t x ≡ true → P x) → (xs : List A) → every t xs ≡ true → All P xs
  unfolding every All
  every_true f [] e = tt
  every_true f (x ∷ xs) e = (f x (and_left (t x) _ e), every_true f xs (and_right (t x) _ e))

  pub true_every : ((x : A) → P x → t x ≡ true) → (xs : List A) → All P xs → every t xs ≡ true
  unfolding every All
  true_every f [] a = refl
  true_every f (x ∷ xs) a = both_true (t x) _ (f x a.0) (true_every f xs a.1)

pub all_map : {A B : Type 0} (P : A → Type 0) (Q : B → Type 0) (f : A → B) → ((x : A) → P x → Q (f x)) → (xs : List A) → All P xs → All Q (map f xs)
unfolding All
all_map P Q f g [] a = tt
all_map P Q f g (x ∷ xs) a = (g x a.0, all_map P Q f g xs a.1)

module _ {A : Type 0} (z : A) (t : A → Bool) where
  blank_past : ((x : A) → t x ≡ true → x ≡ z) → (l : List A) (k : ℕ) → every t (drop k l) ≡ true → l ≡ pad z (length l) (take k l)
  unfolding every pad
  blank_past f [] k e = refl
  blank_past f (x ∷ xs) zero e = λ i. f x (and_left (t x) _ e) i ∷ blank_past f xs zero (and_right (t x) _ e) i
  blank_past f (x ∷ xs) (suc k) e = ap (λ (l : List A). x ∷ l) (blank_past f xs k e)

  past_blank : t z ≡ true → (n k : ℕ) (l : List A) → every t (drop k (pad z n (take k l))) ≡ true
  unfolding every pad
  past_blank e zero zero l = refl
  past_blank e zero (suc k) l = refl
  past_blank e (suc n) zero l = both_true (t z) _ e (past_blank e n zero l)
  past_blank e (suc n) (suc k) [] = ap (λ (m : List A). every t (drop k (pad z n m))) (sym (take-nil k)) ∙ past_blank e n k []
  past_blank e (suc n) (suc k) (x ∷ l) = past_blank e n k l

  -- the test holds of an array whose unused places are z, and of no other
  pub packed_true : ((x : A) → t x ≡ true → x ≡ z) → (n k : ℕ) (l : List A) → packed t n k l ≡ true → l ≡ pad z n (take k l)
  unfolding packed
  packed_true f n k l e =
      blank_past f l k (and_right (eqb (length l) n) _ e)
      ∙ ap (λ (m : ℕ). pad z m (take k l)) (eqb-true (length l) n (and_left (eqb (length l) n) _ e))

  pub true_packed : t z ≡ true → (n k : ℕ) (l : List A) → l ≡ pad z n (take k l) → packed t n k l ≡ true
  unfolding packed
  true_packed e n k l p =
      both_true (eqb (length l) n) _ (eq-eqb (length l) n (ap length p ∙ length_pad z n (take k l)))
      (ap (λ (m : List A). every t (drop k m)) p ∙ past_blank e n k l)

-- ---- the loops

-- each item from i on is tested, and ok says what came of those before: a loop that does not stop early
abbrev pub SoFar : {A : Type 0} → (A → Bool) → Bool → List A → Bool
SoFar t ok l = ok && every t l

module _ {A : Type 0} (t : A → Bool) (d : A) (N : ℕ) where
  pub so_far_from : (l : List A) (k : ℕ) → k ≤ N → length l ≡ N → Rest (SoFar t) N l N (every t (drop k l)) true k
  so_far_from l k h e = record { low = h; top = omega arith; long = e; same = ap (λ (m : List A). every t (drop k m)) (sym (take_all N l (omega arith))) }

  module _ (l : List A) (n : ℕ) (whole ok : Bool) (i : ℕ) (v : Rest (SoFar t) N l n whole ok i) where
    pub so_far_next : i < n → Rest (SoFar t) N l n whole (ok && t (get_or l i d)) (i + 1)
    unfolding every
    so_far_next h = rest_next d (SoFar t) v (ok && t (get_or l i d)) h (λ r. sym (and_assoc ok (t (get_or l i d)) (every t r)))

    pub so_far_end : n ≤ i → ok ≡ whole
    unfolding every
    so_far_end h = sym (rest_end d (SoFar t) v h ∙ and-true ok)
