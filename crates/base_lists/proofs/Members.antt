-- Laws of members, counts and lengths, under the changes of lists, sets and maps.
-- Assumes nothing.
use mathlib.Core.Path.{◌≡◌, refl, sym, ◌∙◌}
use mathlib.Core.Bool.{Bool, true, false, not, ◌&&◌, ◌||◌}
use mathlib.Core.List.{List, [], ◌∷◌, ◌++◌}
use Prim.Native.Nat.{ℕ, suc, ◌+◌, ◌-◌, ◌≤◌, ◌<◌}
use native.Mathlib.Omega.{arith}
use lib.ListN.{length, get_or, drop, take, length-append, length-take}
use lib.Dec.{ltb, eqb}
use borrow.Author.Tests.{ltb-true, ltb-false, eqb-true, eqb-false, ne_eqb}
use Rattle.base_lists.specs.Lists.{choose, null, is, count, mem, index_of, shift_remove, remove, without, place, insert, push_new, renew, Above, Rising}
use Rattle.base_lists.specs.Maps.{keys, has, cut, retain, replace, place_entry, put, Each}
use Rattle.base_lists.proofs.Choice.{by_choice, by_test, split, or_true, clash}
use Rattle.base_lists.proofs.Count.{is_self, is_le, is_not, mem_true, mem_false, count_snoc, count_without, length_without, count_place, count_insert, length_swap, count_shift, length_shift, index_lt, index_at, absent}
use Rattle.base_lists.proofs.Maps.{keys_cut, keys_put}

pub both : (a b : Bool) → a ≡ true → b ≡ true → (a && b) ≡ true
both a b e f = rw e f

pub negate : (b : Bool) → b ≡ false → not b ≡ true
negate b e = rw e

pub null_yes : {A : Type 0} (xs : List A) → null xs ≡ true → length xs ≡ 0
unfolding null
null_yes [] e = refl
null_yes (x ∷ xs) e = let z : ◌≡◌ {A = ℕ} 0 1 = cc in absurd (omega arith)

pub null_no : {A : Type 0} (xs : List A) → null xs ≡ false → 1 ≤ length xs
unfolding null
null_no [] e = let z : ◌≡◌ {A = ℕ} 0 1 = cc in absurd (omega arith)
null_no (x ∷ xs) e = omega arith

pub mem_yes : (x : ℕ) (xs : List ℕ) → 1 ≤ count x xs → mem x xs ≡ true
mem_yes x xs h = split (mem x xs) (λ e. e) (λ e. absurd (omega (arith, mem_false x xs e)))

pub mem_no : (x : ℕ) (xs : List ℕ) → count x xs ≡ 0 → mem x xs ≡ false
mem_no x xs h = split (mem x xs) (λ e. absurd (omega (arith, mem_true x xs e))) (λ e. e)

pub count_less : (x p : ℕ) (xs : List ℕ) → count x xs ≤ 1 → count x (without p xs) ≤ count x xs
count_less x p xs h = omega (arith, count_without x p xs h)

pub count_length : (p : ℕ) (xs : List ℕ) → count p xs ≤ length xs
unfolding count
count_length p [] = omega arith
count_length p (x ∷ xs) = omega (arith, is_le p x, count_length p xs)

pub length_remove_in : (p : ℕ) (xs : List ℕ) → 1 ≤ count p xs → length (remove p xs) ≡ length xs - 1
unfolding remove
length_remove_in p xs h = rw (mem_yes p xs h) (length_swap xs (index_of p xs))

-- the same peers as often: the same length
pub same_length : (xs ys : List ℕ) → ((x : ℕ) → count x xs ≡ count x ys) → length xs ≡ length ys
unfolding count
same_length [] [] h = refl
same_length [] (y ∷ ys) h = absurd (omega (arith, h y, is_self y))
same_length (p ∷ xs) ys h =
    let m : mem p ys ≡ true = mem_yes p ys (omega (arith, h p, is_self p)) in
    let i = index_of p ys in
    let l : i < length ys = index_lt p ys m in
    let k : length xs ≡ length (shift_remove i ys) =
    same_length xs (shift_remove i ys) (λ x. let g = count_shift x ys i l in omega (arith, h x, rw (index_at p ys m) at g)) in
    omega (arith, k, length_shift ys i l)

-- no more of each: no longer
pub shorter : (xs ys : List ℕ) → ((x : ℕ) → count x xs ≤ count x ys) → length xs ≤ length ys
unfolding count
shorter [] ys h = omega arith
shorter (p ∷ xs) ys h =
    let m : mem p ys ≡ true = mem_yes p ys (omega (arith, h p, is_self p)) in
    let i = index_of p ys in
    let l : i < length ys = index_lt p ys m in
    let k : length xs ≤ length (shift_remove i ys) =
    shorter xs (shift_remove i ys) (λ x. let g = count_shift x ys i l in omega (arith, h x, rw (index_at p ys m) at g)) in
    omega (arith, k, length_shift ys i l)

pub count_push_new : (x p : ℕ) (xs : List ℕ) → count p xs ≡ 0 → count x (push_new p xs) ≡ count x xs + is x p
unfolding push_new
count_push_new x p xs h =
    by_choice (λ l. count x l ≡ count x xs + is x p) (mem p xs)
    (λ e. absurd (omega (arith, mem_true p xs e))) (λ e. count_snoc x xs p)

-- the newest at the end, and the oldest out
count_renewed : (x p : ℕ) (xs : List ℕ) → count x xs ≤ 1 → count x (without p xs ++ (p ∷ [])) ≡ count x xs - is x p + is x p
count_renewed x p xs h = omega (arith, count_snoc x (without p xs) p, count_without x p xs h)

count_tail : (x : ℕ) (xs : List ℕ) → 1 ≤ length xs → count x (drop 1 xs) + is x (get_or xs 0 0) ≡ count x xs
unfolding count
count_tail x [] h = absurd (omega arith)
count_tail x (p ∷ xs) h = omega arith

length_tail : (xs : List ℕ) → length (drop 1 xs) ≡ length xs - 1
length_tail [] = omega arith
length_tail (p ∷ xs) = omega arith

last_stays : (x : ℕ) (xs : List ℕ) (p : ℕ) → 1 ≤ length xs → is x p ≤ count x (drop 1 (xs ++ (p ∷ [])))
last_stays x [] p h = absurd (omega arith)
last_stays x (y ∷ xs) p h = omega (arith, count_snoc x xs p)

first_is : (xs : List ℕ) (p : ℕ) → 1 ≤ length xs → get_or (xs ++ (p ∷ [])) 0 0 ≡ get_or xs 0 0
first_is [] p h = absurd (omega arith)
first_is (x ∷ xs) p h = refl

-- of `renew`: once each, p in it, at most n; and every other item stays but the oldest, where there are too many
pub record Renewed (n p : ℕ) (xs : List ℕ) (late : Bool) (ys : List ℕ) : Type 0 where
  pub once : (x : ℕ) → count x ys ≤ 1
  pub has_new : (x : ℕ) → is x p ≤ count x ys
  pub few : length ys ≤ n
  pub stays : (x : ℕ) → count x xs ≤ count x ys + choose late (is x (get_or (without p xs) 0 0)) 0

module _ (n p : ℕ) (xs : List ℕ) (o : 1 ≤ n) (f : length xs ≤ n) (h : (x : ℕ) → count x xs ≤ 1) where
  renewed_by : (late : Bool) → ltb n (length (without p xs) + 1) ≡ late
      → Renewed n p xs late (choose late (drop 1 (without p xs ++ (p ∷ []))) (without p xs ++ (p ∷ [])))
  unfolding choose
  renewed_by true e =
      let w = without p xs in
      let B = w ++ (p ∷ []) in
      let l : n < length w + 1 = ltb-true n (length w + 1) e in
      let g : 1 ≤ length w = omega arith in
      let b : 1 ≤ length B = omega (arith, length-append w (p ∷ [])) in
      record {
        once = λ x. omega (arith, is_le x p, h x, count_renewed x p xs (h x), count_tail x B b);
        has_new = λ x. last_stays x w p g;
        few = omega (arith, length_tail B, length-append w (p ∷ []), length_without p xs);
        stays = λ x. let t = count_tail x B b in omega (arith, count_renewed x p xs (h x), rw (first_is w p g) at t);
      }
  renewed_by false e = record {
    once = λ x. omega (arith, is_le x p, h x, count_renewed x p xs (h x));
    has_new = λ x. omega (arith, count_renewed x p xs (h x));
    few = omega (arith, ltb-false n (length (without p xs) + 1) e, length-append (without p xs) (p ∷ []));
    stays = λ x. omega (arith, count_renewed x p xs (h x));
  }

  pub renewed : Renewed n p xs (ltb n (length (without p xs) + 1)) (renew n p xs)
  unfolding renew
  renewed = renewed_by (ltb n (length (without p xs) + 1)) refl

-- maps
pub count_cut : {A : Type 0} (x p : ℕ) (m : List (ℕ × A)) → count x (keys m) ≤ 1 → count x (keys (cut p m)) ≡ count x (keys m) - is x p
count_cut x p m h = rw (keys_cut p m) (count_without x p (keys m) h)

pub count_put : {A : Type 0} (x p : ℕ) (v : A) (m : List (ℕ × A)) (n : ℕ → ℕ) → 1 ≤ n p → count x (keys m) ≤ n x → count x (keys (put p v m)) ≤ n x
count_put x p v m n h k = rw (keys_put p v m) (count_insert x p (keys m) n h k)

-- of every value of a map
module _ {A : Type 0} (P : A → Type 0) where
  pub each_cut : (k : ℕ) (m : List (ℕ × A)) → Each P m → Each P (cut k m)
  unfolding Each cut
  each_cut k [] h = tt
  each_cut k (e ∷ m) h = by_choice (Each P) (eqb k e.0) (λ t. each_cut k m h.1) (λ t. (h.0, each_cut k m h.1))

  pub each_retain : (ps : List ℕ) (m : List (ℕ × A)) → Each P m → Each P (retain ps m)
  unfolding Each retain
  each_retain ps [] h = tt
  each_retain ps (e ∷ m) h = by_choice (Each P) (mem e.0 ps) (λ t. (h.0, each_retain ps m h.1)) (λ t. each_retain ps m h.1)

  each_replace : (k : ℕ) (v : A) (m : List (ℕ × A)) → P v → Each P m → Each P (replace k v m)
  unfolding Each replace
  each_replace k v [] p h = tt
  each_replace k v (e ∷ m) p h =
      by_choice (Each P) (eqb k e.0) (λ t. (p, each_replace k v m p h.1)) (λ t. (h.0, each_replace k v m p h.1))

  each_place : (k : ℕ) (v : A) (m : List (ℕ × A)) → P v → Each P m → Each P (place_entry k v m)
  unfolding Each place_entry
  each_place k v [] p h = (p, tt)
  each_place k v (e ∷ m) p h = by_choice (Each P) (ltb k e.0) (λ t. (p, h)) (λ t. (h.0, each_place k v m p h.1))

  pub each_put : (k : ℕ) (v : A) (m : List (ℕ × A)) → P v → Each P m → Each P (put k v m)
  unfolding put
  each_put k v m p h = by_choice (Each P) (has k m) (λ t. each_replace k v m p h) (λ t. each_place k v m p h)

pub each_more : (n k : ℕ) (m : List (ℕ × ℕ)) → n ≤ k → Each (λ v. v < n) m → Each (λ v. v < k) m
unfolding Each
each_more n k [] l h = tt
each_more n k (e ∷ m) l h = (omega (arith, h.0), each_more n k m l h.1)

-- sets in rising order
length_place_set : (p : ℕ) (xs : List ℕ) → length (place p xs) ≡ suc (length xs)
unfolding place
length_place_set p [] = refl
length_place_set p (q ∷ xs) =
    by_test (λ l. length l ≡ suc (suc (length xs))) (ltb p q) {x = p ∷ q ∷ xs} {y = q ∷ place p xs} (λ e. refl) (λ e. omega (arith, length_place_set p xs))

pub length_insert : (p n : ℕ) (xs : List ℕ) → (mem p xs || ltb (length xs) n) ≡ true → length xs ≤ n → length (insert p xs) ≤ n
unfolding insert
length_insert p n xs t l =
    by_test (λ w. length w ≤ n) (mem p xs) {x = xs} {y = place p xs} (λ e. l)
    (λ e. or_true (mem p xs) (ltb (length xs) n) t (λ f. clash (mem p xs) f e) (λ f. omega (arith, length_place_set p xs, ltb-true (length xs) n f)))

pub count_absent : (x p : ℕ) (xs : List ℕ) → eqb p x ≡ false → count x xs ≡ 0 → count x (insert p xs) ≡ 0
unfolding insert
count_absent x p xs e h =
    let n : is x p ≡ 0 = is_not x p (ne_eqb x p (λ z. eqb-false p x e (sym z))) in
    by_test (λ l. count x l ≡ 0) (mem p xs) (λ m. h) (λ m. omega (arith, count_place x p xs))

above_none : (x : ℕ) (xs : List ℕ) → Above x xs → (y : ℕ) → y ≤ x → count y xs ≡ 0
unfolding Above count
above_none x [] h y l = refl
above_none x (z ∷ zs) h y l = omega (arith, is_not y z (ne_eqb y z (λ e. omega (arith, h.0))), above_none x zs h.1 y l)

pub rising_once : (xs : List ℕ) → Rising xs → (x : ℕ) → count x xs ≤ 1
unfolding Rising count
rising_once [] h x = omega arith
rising_once (p ∷ xs) h x = absent x p xs (above_none p xs h.0 p (omega arith)) (rising_once xs h.1 x)

-- what is cut to a length
pub length_cut_to : {A : Type 0} (n : ℕ) (xs : List A) → length (take n xs) ≤ n
length_cut_to n xs = omega (arith, length-take n xs)

-- another item is left, and one that is there stays
pub mem_without_other : (y x : ℕ) (ys : List ℕ) → (y ≡ x → ⊥) → mem y (without x ys) ≡ mem y ys
unfolding mem without
mem_without_other y x [] n = refl
mem_without_other y x (q ∷ ys) n =
    split (eqb x q) (λ e. rw (e, ne_eqb y q (λ p. n (p ∙ sym (eqb-true x q e)))) (mem_without_other y x ys n)) (λ e. rw (e, mem_without_other y x ys n))

mem_place : (y p : ℕ) (xs : List ℕ) → mem y xs ≡ true → mem y (place p xs) ≡ true
unfolding mem place
mem_place y p [] m = clash false m refl
mem_place y p (q ∷ xs) m =
    by_test (λ (l : List ℕ). mem y l ≡ true) (ltb p q) (λ e. split (eqb y p) (λ f. rw f refl) (λ f. rw f m))
    (λ e. split (eqb y q) (λ f. rw f refl) (λ f. rw f (mem_place y p xs (sym (rw f refl) ∙ m))))

pub mem_insert : (y p : ℕ) (xs : List ℕ) → mem y xs ≡ true → mem y (insert p xs) ≡ true
unfolding insert
mem_insert y p xs m = by_test (λ (l : List ℕ). mem y l ≡ true) (mem p xs) (λ e. m) (λ e. mem_place y p xs m)
