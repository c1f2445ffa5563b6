-- A choice and a shuffle look at no draw after those that they take.
-- Assumes nothing.
use Prim.Native.Nat.{ℕ, zero, suc, ◌+◌, ◌-◌, ◌%◌, ◌≤◌, ◌<◌}
use mathlib.Core.Path.{◌≡◌, refl, sym, ap, subst, ◌∙◌}
use mathlib.Core.List.{List, [], ◌∷◌}
use native.Mathlib.Omega.{arith}
use lib.ListN.{length, take, drop, get_or, length-take, length-drop}
use lib.Seq.{take-take, drop_at, take-add, length-take-le}
use lib.Dec.{eqb}
use borrow.Author.Tests.{eqb-true, eqb-false}
use Rattle.base_lists.specs.Lists.{swap}
use Rattle.base_lists.proofs.Choice.{choose_yes, choose_no, split}
use Rattle.base_util.specs.Chances.{is_kept, passed_over, pick_draws, pick, shuffle_down, draws_down, shuffle, shuffle_draws}
use Rattle.base_util.proofs.Chances.{pick_none, pick_some}

-- es begins with the first n of ds
abbrev pub Begins : ℕ → List ℕ → List ℕ → Type 0
Begins n ds es = take n es ≡ take n ds

pub begins_less : (m n : ℕ) (ds es : List ℕ) → m ≤ n → Begins n ds es → Begins m ds es
begins_less m n ds es l e = sym (take-take m n es l) ∙ (ap (take m) e ∙ take-take m n ds l)

-- with as many draws
pub begins_length : (n : ℕ) (ds es : List ℕ) → n ≤ length ds → Begins n ds es → n ≤ length es
begins_length n ds es l e = omega (arith, length-take n es, length-take n ds, ap length e)

-- the draws after the first k
pub begins_after : (k m : ℕ) (ds es : List ℕ) → k + m ≤ length ds → Begins (k + m) ds es → Begins m (drop k ds) (drop k es)
begins_after k m ds es l e =
    let a : length (take k es) ≡ k = length-take-le k es (omega (arith, begins_length (k + m) ds es l e)) in
    let b : length (take k ds) ≡ k = length-take-le k ds (omega (arith, l)) in
    sym (drop_at (take k es) (take m (drop k es)) k a)
    ∙ (ap (drop k) (sym (take-add k m es) ∙ (e ∙ take-add k m ds)) ∙ drop_at (take k ds) (take m (drop k ds)) k b)

-- what is read off a list, m draws and v, is read off every list that begins with these m
pub record Ahead {A : Type 0} (m : List ℕ → ℕ) (v : List ℕ → A) : Type 0 where
  pub as_many : (ds es : List ℕ) → m ds ≤ length ds → Begins (m ds) ds es → m es ≡ m ds
  pub as_read : (ds es : List ℕ) → m ds ≤ length ds → Begins (m ds) ds es → v es ≡ v ds

head_of : (d e : ℕ) (ds es : List ℕ) → ◌≡◌ {A = List ℕ} (e ∷ es) (d ∷ ds) → e ≡ d
head_of d e ds es q = ap (λ (l : List ℕ). get_or l 0 0) q

tail_of : (d e : ℕ) (ds es : List ℕ) → ◌≡◌ {A = List ℕ} (e ∷ es) (d ∷ ds) → es ≡ ds
tail_of d e ds es q = ap (drop 1) q

passed_ahead : (n : ℕ) (ds es : List ℕ) → passed_over n ds + 1 ≤ length ds → Begins (passed_over n ds + 1) ds es
    → (passed_over n es ≡ passed_over n ds) × (get_or es (passed_over n es) 0 ≡ get_or ds (passed_over n ds) 0)
unfolding passed_over
passed_ahead n [] es l b = absurd (omega (arith, l))
passed_ahead n (d ∷ ds) [] l b = absurd (omega (arith, begins_length (passed_over n (d ∷ ds) + 1) (d ∷ ds) [] l b))
passed_ahead n (d ∷ ds) (e ∷ es) l b =
    let q = head_of d e [] [] (begins_less 1 (passed_over n (d ∷ ds) + 1) (d ∷ ds) (e ∷ es) (omega arith) b) in
    split (is_kept n d)
    (λ k. let z : passed_over n (d ∷ ds) ≡ 0 = choose_yes (is_kept n d) 0 (suc (passed_over n ds)) k in
    let y : passed_over n (e ∷ es) ≡ 0 = choose_yes (is_kept n e) 0 (suc (passed_over n es)) (ap (is_kept n) q ∙ k) in
    (y ∙ sym z, ap (λ (i : ℕ). get_or (e ∷ es) i 0) y ∙ (q ∙ sym (ap (λ (i : ℕ). get_or (d ∷ ds) i 0) z))))
    (λ k. let m = passed_over n ds + 1 in
    let z : passed_over n (d ∷ ds) ≡ suc (passed_over n ds) = choose_no (is_kept n d) 0 (suc (passed_over n ds)) k in
    let y : passed_over n (e ∷ es) ≡ suc (passed_over n es) = choose_no (is_kept n e) 0 (suc (passed_over n es)) (ap (is_kept n) q ∙ k) in
    let i = passed_ahead n ds es (omega (arith, l, z)) (tail_of d e (take m ds) (take m es) (begins_less (suc m) (passed_over n (d ∷ ds) + 1) (d ∷ ds) (e ∷ es) (omega (arith, z)) b)) in
    (y ∙ (ap suc i.0 ∙ sym z), ap (λ (j : ℕ). get_or (e ∷ es) j 0) y ∙ (i.1 ∙ sym (ap (λ (j : ℕ). get_or (d ∷ ds) j 0) z))))

-- the choice of one of n items, where there are any
module _ (n : ℕ) (h : 0 < n) where
  pick_as : (ds es : List ℕ) → pick_draws n ds ≤ length ds → Begins (pick_draws n ds) ds es → (pick_draws n es ≡ pick_draws n ds) × (pick n es ≡ pick n ds)
  unfolding pick
  pick_as ds es l b =
      let p = passed_ahead n ds es (omega (arith, l, pick_some n ds h)) (subst (λ (k : ℕ). Begins k ds es) (pick_some n ds h) b) in
      (pick_some n es h ∙ (ap (λ (k : ℕ). k + 1) p.0 ∙ sym (pick_some n ds h)), ap (λ (x : ℕ). x % n) p.1)

  pub pick_ahead : Ahead (pick_draws n) (pick n)
  pick_ahead = record { as_many = λ ds es l b. (pick_as ds es l b).0; as_read = λ ds es l b. (pick_as ds es l b).1 }

-- what is made of the place, where nothing is made of it if there are no items
pub any_ahead : {A : Type 0} (n : ℕ) (v : List ℕ → A) → ((l k : List ℕ) → n ≡ 0 → v l ≡ v k) → (0 < n → Ahead (pick_draws n) v) → Ahead (pick_draws n) v
any_ahead n v none some =
    split (eqb n 0)
    (λ e. let z = eqb-true n 0 e in record {
      as_many = λ ds es l b. ap (λ (j : ℕ). pick_draws j es) z ∙ (pick_none es ∙ sym (ap (λ (j : ℕ). pick_draws j ds) z ∙ pick_none ds));
      as_read = λ ds es l b. none es ds z;
    })
    (λ e. let o = eqb-false n 0 e in some (omega (arith, o)))

pub made_ahead : {A B : Type 0} {m : List ℕ → ℕ} {v : List ℕ → A} (f : A → B) → Ahead m v → Ahead m (λ (l : List ℕ). f (v l))
made_ahead f k = record { as_many = k.as_many; as_read = λ ds es l b. ap f (k.as_read ds es l b) }

down_ahead : (i : ℕ) (xs ds es : List ℕ) → draws_down i ds ≤ length ds → Begins (draws_down i ds) ds es → (draws_down i es ≡ draws_down i ds) × (shuffle_down i es xs ≡ shuffle_down i ds xs)
unfolding draws_down shuffle_down
down_ahead zero xs ds es l b = (refl, refl)
down_ahead (suc i) xs ds es l b =
    let k = pick_draws (i + 2) ds in
    let a = pick_as (i + 2) (omega arith) ds es (omega (arith, l)) (begins_less k (k + draws_down i (drop k ds)) ds es (omega arith) b) in
    let r = down_ahead i (swap (suc i) (pick (i + 2) ds) xs) (drop k ds) (drop k es) (omega (arith, l, length-drop k ds)) (begins_after k (draws_down i (drop k ds)) ds es l b) in (
      ap (λ (j : ℕ). j + draws_down i (drop j es)) a.0 ∙ ap (λ (j : ℕ). k + j) r.0,
      ap (λ (j : ℕ). shuffle_down i (drop j es) (swap (suc i) (pick (i + 2) es) xs)) a.0 ∙ (ap (λ (j : ℕ). shuffle_down i (drop k es) (swap (suc i) j xs)) a.1 ∙ r.1),
    )

pub shuffle_ahead : (xs : List ℕ) → Ahead (λ (l : List ℕ). shuffle_draws l xs) (λ (l : List ℕ). shuffle l xs)
unfolding shuffle_draws shuffle
shuffle_ahead xs = record {
  as_many = λ ds es l b. (down_ahead (length xs - 1) xs ds es l b).0;
  as_read = λ ds es l b. (down_ahead (length xs - 1) xs ds es l b).1;
}

-- a delay: the next draw
pub first_ahead : Ahead (λ (l : List ℕ). 1) (λ (l : List ℕ). get_or l 0 0)
first_ahead = record { as_many = λ ds es l b. refl; as_read = first }
  where
    first : (ds es : List ℕ) → 1 ≤ length ds → Begins 1 ds es → get_or es 0 0 ≡ get_or ds 0 0
    first [] es l b = absurd (omega (arith, l))
    first (d ∷ ds) [] l b = absurd (omega (arith, ap length b))
    first (d ∷ ds) (e ∷ es) l b = head_of d e [] [] b
