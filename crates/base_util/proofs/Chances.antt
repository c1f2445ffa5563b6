-- Laws of the random choices: where they end, and how many draws they take.
-- Assumes nothing.
use Prim.Native.Nat.{ℕ, zero, suc, ◌+◌, ◌-◌, ◌%◌, ◌≤◌, ◌<◌}
use mathlib.Core.Path.{◌≡◌, refl, sym, ap, ◌∙◌}
use mathlib.Core.Bool.{false}
use mathlib.Core.List.{List, [], ◌∷◌, ◌++◌}
use native.Mathlib.Nat.{mod-lt, zero-mod, not-suc-le-zero}
use native.Mathlib.Numerals.{add-one, sub-one}
use native.Mathlib.Omega.{arith}
use lib.ListN.{length, take, drop, get_or, length-set, length-drop, take-append-drop, drop_of_length-le, get_or-eq_default}
use lib.Seq.{take-add, drop-cons, drop-drop, get_or-drop}
use lib.Dec.{eqb, ltb}
use borrow.Author.Tests.{eqb-false, ltb-true, ltb-false, lt-ltb, le-ltb, ne_eqb}
use Rattle.base_lists.specs.Lists.{choose, swap}
use Rattle.base_lists.proofs.Choice.{by_choice, choose_yes, choose_no, split}
use Rattle.base_util.specs.Chances.{all_draws, kept_end, is_kept, passed_over, pick_draws, pick, shuffle_down, draws_down, shuffle, shuffle_draws, sure_end, sure, most_items}

-- a choice among n is below n
pub pick_below : (n : ℕ) (ds : List ℕ) → 0 < n → pick n ds < n
unfolding pick
pick_below n ds h = mod-lt (get_or ds (passed_over n ds) 0) {m = n} h

pub length_swapped : (i j : ℕ) (xs : List ℕ) → length (swap i j xs) ≡ length xs
unfolding swap
length_swapped i j xs = simp length-set

-- a shuffle has as many items
shuffled_down : (i : ℕ) (ds xs : List ℕ) → length (shuffle_down i ds xs) ≡ length xs
unfolding shuffle_down
shuffled_down zero ds xs = refl
shuffled_down (suc i) ds xs = shuffled_down i (drop (pick_draws (i + 2) ds) ds) _ ∙ length_swapped (suc i) _ xs

pub length_shuffled : (ds xs : List ℕ) → length (shuffle ds xs) ≡ length xs
unfolding shuffle
length_shuffled ds xs = shuffled_down (length xs - 1) ds xs

-- one turn of the shuffle's loop: place i, by the draws from place k on
pub shuffle_step : (i : ℕ) (ds : List ℕ) (k : ℕ) (xs : List ℕ) → 0 < i
    → shuffle_down i (drop k ds) xs ≡ shuffle_down (i - 1) (drop (k + pick_draws (i + 1) (drop k ds)) ds) (swap i (pick (i + 1) (drop k ds)) xs)
unfolding shuffle_down
shuffle_step zero ds k xs h = absurd (not-suc-le-zero h)
shuffle_step (suc i) ds k xs h =
    let e : i + 2 ≡ suc i + 1 = omega arith in
    rw (sub-one (suc i), drop-drop (pick_draws (i + 2) (drop k ds)) k ds, e)

pub draws_step : (i : ℕ) (ds : List ℕ) (k : ℕ) → 0 < i → draws_down i (drop k ds) ≡ pick_draws (i + 1) (drop k ds) + draws_down (i - 1) (drop (k + pick_draws (i + 1) (drop k ds)) ds)
unfolding draws_down
draws_step zero ds k h = absurd (not-suc-le-zero h)
draws_step (suc i) ds k h =
    let e : i + 2 ≡ suc i + 1 = omega arith in
    rw (sub-one (suc i), drop-drop (pick_draws (i + 2) (drop k ds)) k ds, e)

-- the draws of a choice: none, or those passed over and one more
pub pick_none : (ds : List ℕ) → pick_draws 0 ds ≡ 0
unfolding pick_draws choose
pick_none ds = refl

pub pick_some : (n : ℕ) (ds : List ℕ) → 0 < n → pick_draws n ds ≡ passed_over n ds + 1
unfolding pick_draws
pick_some n ds h = choose_no (eqb n 0) 0 (passed_over n ds + 1) (ne_eqb n 0 (λ q. omega arith))

few_passed : (n : ℕ) (ds : List ℕ) → passed_over n ds ≤ length ds
unfolding passed_over
few_passed n [] = omega arith
few_passed n (d ∷ ds) = by_choice (λ (k : ℕ). k ≤ suc (length ds)) (is_kept n d) (λ e. omega arith) (λ e. omega (arith, few_passed n ds))

-- at most one more than there are
pub picks_next : (n k : ℕ) (ds : List ℕ) → 0 < n → pick_draws n (drop k ds) ≤ (length ds - k) + 1
picks_next n k ds h = omega (arith, pick_some n (drop k ds) h, few_passed n (drop k ds), length-drop k ds)

-- the loop that reads on: the draws from `at` to k are passed over
pub record Passing (n at : ℕ) (ds : List ℕ) (k : ℕ) : Type 0 where
  pub from : at ≤ k
  pub passed : at + passed_over n (drop at ds) ≡ k + passed_over n (drop k ds)

pub passing_start : (n at : ℕ) (ds : List ℕ) → Passing n at ds at
passing_start n at ds = record { from = omega arith; passed = refl }

module _ (n at : ℕ) (ds : List ℕ) (k : ℕ) (v : Passing n at ds k) where
  first : k < length ds → passed_over n (drop k ds) ≡ choose (is_kept n (get_or ds k 0)) 0 (suc (passed_over n (drop (suc k) ds)))
  unfolding passed_over
  first h = ap (passed_over n) (drop-cons ds k 0 h)

  pub passing_next : k < length ds → all_draws - all_draws % n ≤ get_or ds k 0 → Passing n at ds (k + 1)
  unfolding is_kept kept_end
  passing_next h l =
      let e = choose_no {A = ℕ} (is_kept n (get_or ds k 0)) 0 (suc (passed_over n (drop (suc k) ds))) (le-ltb (get_or ds k 0) (all_draws - all_draws % n) l) in
      record { from = omega (arith, v.from); passed = rw (add-one k) (omega (arith, v.passed, first h, e)) }

  module _ (h : k < length ds) (l : get_or ds k 0 < all_draws - all_draws % n) where
    stops : at + passed_over n (drop at ds) ≡ k
    unfolding is_kept kept_end
    stops =
        let e = choose_yes {A = ℕ} (is_kept n (get_or ds k 0)) 0 (suc (passed_over n (drop (suc k) ds))) (lt-ltb (get_or ds k 0) (all_draws - all_draws % n) l) in
        omega (arith, v.passed, first h, e)

    pub kept_index : get_or ds k 0 % n ≡ pick n (drop at ds)
    unfolding pick
    kept_index = ap (λ (j : ℕ). get_or ds j 0 % n) (sym stops) ∙ ap (λ (d : ℕ). d % n) (sym (get_or-drop at ds (passed_over n (drop at ds)) 0))

    pub kept_next : 0 < n → k + 1 ≡ at + pick_draws n (drop at ds)
    kept_next z = omega (arith, stops, pick_some n (drop at ds) z)

  module _ (h : length ds ≤ k) where
    ends : at + passed_over n (drop at ds) ≡ k
    unfolding passed_over
    ends = omega (arith, v.passed, ap (passed_over n) (drop_of_length-le ds h))

    pub none_index : 0 ≡ pick n (drop at ds)
    unfolding pick
    none_index =
        sym (ap (λ (d : ℕ). d % n) (get_or-drop at ds (passed_over n (drop at ds)) 0 ∙ ap (λ (j : ℕ). get_or ds j 0) ends ∙ get_or-eq_default ds 0 h) ∙ zero-mod n)

    pub none_next : 0 < n → k + 1 ≡ at + pick_draws n (drop at ds)
    none_next z = omega (arith, ends, pick_some n (drop at ds) z)

-- ---- the draws that every choice keeps

pub sure_append : (xs ys : List ℕ) → sure (xs ++ ys) ≡ sure xs + sure ys
unfolding sure
sure_append [] ys = omega arith
sure_append (d ∷ xs) ys = omega (arith, sure_append xs ys)

pub sure_at : (k : ℕ) (ds : List ℕ) → sure (take k ds) + sure (drop k ds) ≡ sure ds
sure_at k ds = sym (sure_append (take k ds) (drop k ds)) ∙ ap sure (take-append-drop k ds)

pub sure_length : (ds : List ℕ) → sure ds ≤ length ds
unfolding sure
sure_length [] = omega arith
sure_length (d ∷ ds) = by_choice (λ (c : ℕ). c + sure ds ≤ suc (length ds)) (ltb d sure_end) (λ e. omega (arith, sure_length ds)) (λ e. omega (arith, sure_length ds))

-- a choice of at most 32 items passes over no draw that is below 2^32 - 32
passed_unsure : (n d : ℕ) → 0 < n → n ≤ most_items → is_kept n d ≡ false → ltb d sure_end ≡ false
unfolding is_kept kept_end
passed_unsure n d h l e =
    split (ltb d sure_end) (λ t. absurd (omega (arith, ltb-true d sure_end t, ltb-false d (all_draws - all_draws % n) e, mod-lt all_draws {m = n} h))) (λ t. t)

-- m draws of ds are at most k that every choice keeps; and where there are not m, ds has fewer than k of them
pub record Costs (k m : ℕ) (ds : List ℕ) : Type 0 where
  pub taken : sure (take m ds) ≤ k
  pub short : length ds < m → sure ds < k

-- a delay's draw
pub one_costs : (ds : List ℕ) → Costs 1 1 ds
unfolding sure
one_costs [] = record { taken = omega arith; short = λ h. omega arith }
one_costs (d ∷ ds) = record { taken = by_choice (λ (c : ℕ). c + 0 ≤ 1) (ltb d sure_end) (λ e. omega arith) (λ e. omega arith); short = λ h. absurd (omega arith) }

module _ (n : ℕ) (h : 0 < n) (few : n ≤ most_items) where
  some_costs : (ds : List ℕ) → Costs 1 (suc (passed_over n ds)) ds
  unfolding passed_over sure
  some_costs [] = record { taken = omega arith; short = λ l. omega arith }
  some_costs (d ∷ ds) =
      by_choice (λ (c : ℕ). Costs 1 (suc c) (d ∷ ds)) (is_kept n d)
      (λ e. record { taken = by_choice (λ (c : ℕ). c + 0 ≤ 1) (ltb d sure_end) (λ e. omega arith) (λ e. omega arith); short = λ l. absurd (omega arith) })
      (λ e. let t = choose_no {A = ℕ} (ltb d sure_end) 1 0 (passed_unsure n d h few e) in
      let c = some_costs ds in
      record { taken = omega (arith, t, c.taken); short = λ l. omega (arith, t, c.short (omega arith)) })

pub pick_costs : (n : ℕ) (ds : List ℕ) → n ≤ most_items → Costs 1 (pick_draws n ds) ds
unfolding pick_draws sure
pick_costs n ds few =
    by_choice (λ (m : ℕ). Costs 1 m ds) (eqb n 0)
    (λ e. record { taken = omega arith; short = λ l. absurd (omega arith) })
    (λ e. let o = eqb-false n 0 e in rw (add-one (passed_over n ds)) (some_costs n (omega arith) few ds))

down_costs : (i : ℕ) (ds : List ℕ) → i < most_items → Costs i (draws_down i ds) ds
unfolding draws_down sure
down_costs zero ds h = record { taken = omega arith; short = λ l. absurd (omega arith) }
down_costs (suc i) ds h =
    let m = pick_draws (i + 2) ds in
    let c = pick_costs (i + 2) ds (omega arith) in
    let r = down_costs i (drop m ds) (omega arith) in
    record {
      taken = omega (arith, ap sure (take-add m (draws_down i (drop m ds)) ds), sure_append (take m ds) (take (draws_down i (drop m ds)) (drop m ds)), c.taken, r.taken);
      short = λ l. split (ltb (length ds) m)
          (λ e. omega (arith, c.short (ltb-true (length ds) m e)))
          (λ e. omega (arith, ltb-false (length ds) m e, sure_at m ds, c.taken, r.short (omega (arith, length-drop m ds, ltb-false (length ds) m e))));
    }

pub shuffle_costs : (k : ℕ) (ds xs : List ℕ) → length xs - 1 ≤ k → k < most_items → Costs k (shuffle_draws ds xs) ds
unfolding shuffle_draws
shuffle_costs k ds xs h few =
    let c = down_costs (length xs - 1) ds (omega arith) in
    record { taken = omega (arith, c.taken); short = λ l. omega (arith, c.short l) }
