-- Shuffles: different places give different orders, and every order comes from equally many lists of kept draws.
-- Assumes nothing.
use Prim.Native.Nat.{ℕ, zero, suc, ◌+◌, ◌-◌, ◌*◌, ◌/◌, ◌%◌, ◌≤◌, ◌<◌}
use mathlib.Core.Path.{◌≡◌, refl, sym, ap, ◌∙◌}
use mathlib.Core.Bool.{Bool, true, false, ◌&&◌}
use mathlib.Core.List.{List, [], ◌∷◌}
use native.Mathlib.Nat.{not-suc-le-zero, le_of_suc-le-suc, mod-lt}
use native.Mathlib.Omega.{arith}
use lib.ListN.{length, drop, get_or, set, length-set}
use lib.Seq.{get_or-set_same, get_or-set_other, ext_get_or}
use lib.Dec.{eqb, ltb}
use borrow.Author.Tests.{eqb-true, eqb-false, eq-eqb, ne_eqb, ltb-true, ltb-false}
use Rattle.base_lists.specs.Lists.{choose, is, count, mem, index_of, swap, same}
use Rattle.base_lists.specs.Tests.{every}
use Rattle.base_lists.proofs.Choice.{split}
use Rattle.base_lists.proofs.Count.{is_self, is_not, mem_false, count_set, count_at, index_lt, index_at}
use Rattle.base_lists.proofs.Sets.{same_true, same_refl}
use Rattle.base_lists.proofs.Tests.{and_no}
use Rattle.base_util.specs.Chances.{all_draws, is_kept, passed_over, pick_draws, pick, shuffle_down, shuffle}
use Rattle.base_util.specs.Equal.{none_kept, decides, Places, exchanged, places_by, ByPlaces, DifferentOrders, keeps, count_lists, ways, EqualOrders}
use Rattle.base_util.proofs.Chances.{pick_below, length_swapped}
use Rattle.base_util.proofs.Equal.{sum_same, sum_nothing, sum_chosen, kept_first, equal_chances}

-- ---- an exchange

module _ (i j : ℕ) (xs : List ℕ) (hi : i < length xs) (hj : j < length xs) where
  -- the item at j stands at i
  swapped_at : get_or (swap i j xs) i 0 ≡ get_or xs j 0
  unfolding swap
  swapped_at =
      split (eqb i j)
      (λ e. let q : i ≡ j = eqb-true i j e in rw q (get_or-set_same (set xs j (get_or xs j 0)) j (get_or xs j 0) 0 (omega (arith, length-set xs j (get_or xs j 0)))))
      (λ e. get_or-set_other (set xs i (get_or xs j 0)) j i (get_or xs i 0) 0 (eqb-false i j e) ∙ get_or-set_same xs i (get_or xs j 0) 0 hi)

  -- every item stays
  count_swapped : (x : ℕ) → count x (swap i j xs) ≡ count x xs
  unfolding swap
  count_swapped x =
      let a = count_set x xs i (get_or xs j 0) hi in
      let b = count_set x (set xs i (get_or xs j 0)) j (get_or xs i 0) (omega (arith, length-set xs i (get_or xs j 0))) in
      split (eqb i j)
      (λ e. let q : i ≡ j = eqb-true i j e in
      let w : get_or (set xs i (get_or xs j 0)) j 0 ≡ get_or xs j 0 = rw q (get_or-set_same xs j (get_or xs j 0) 0 hj) in
      let v : get_or xs i 0 ≡ get_or xs j 0 = rw q in
      omega (arith, a, b, ap (is x) w, ap (is x) v))
      (λ e. omega (arith, a, b, ap (is x) (get_or-set_other xs i j (get_or xs j 0) 0 (λ q. eqb-false i j e (sym q)))))

-- the places that are not exchanged stay
swapped_past : (i j k : ℕ) (xs : List ℕ) → i < k → j < k → get_or (swap i j xs) k 0 ≡ get_or xs k 0
unfolding swap
swapped_past i j k xs hi hj = get_or-set_other (set xs i (get_or xs j 0)) j k (get_or xs i 0) 0 (λ q. omega arith) ∙ get_or-set_other xs i k (get_or xs j 0) 0 (λ q. omega arith)

-- ---- distinct items

abbrev Distinct : List ℕ → Type 0
Distinct xs = (x : ℕ) → count x xs ≤ 1

-- a distinct item stands in one place
one_place : (xs : List ℕ) → Distinct xs → (j k : ℕ) → j < length xs → k < length xs → get_or xs j 0 ≡ get_or xs k 0 → j ≡ k
unfolding count
one_place [] u j k hj hk e = absurd (not-suc-le-zero hj)
one_place (x ∷ xs) u zero zero hj hk e = refl
one_place (x ∷ xs) u zero (suc k) hj hk e = absurd (omega (arith, u (get_or xs k 0), is_self x, ap (λ (y : ℕ). is y x) e, count_at xs k (le_of_suc-le-suc hk)))
one_place (x ∷ xs) u (suc j) zero hj hk e = absurd (omega (arith, u (get_or xs j 0), is_self x, ap (λ (y : ℕ). is y x) e, count_at xs j (le_of_suc-le-suc hj)))
one_place (x ∷ xs) u (suc j) (suc k) hj hk e = ap suc (one_place xs (λ y. omega (arith, u y)) j k (le_of_suc-le-suc hj) (le_of_suc-le-suc hk) e)

-- ---- different places, different orders

exchanged_past : (i : ℕ) (js xs : List ℕ) (k : ℕ) → Places i js → i < k → get_or (exchanged i js xs) k 0 ≡ get_or xs k 0
unfolding exchanged Places
exchanged_past zero js xs k p h = refl
exchanged_past (suc i) [] xs k p h = refl
exchanged_past (suc i) (j ∷ js) xs k p h = exchanged_past i js (swap (suc i) j xs) k p.1 (omega arith) ∙ swapped_past (suc i) j k xs h (omega (arith, p.0))

different : (i : ℕ) (xs js ks : List ℕ) → i ≤ length xs - 1 → Distinct xs → Places i js → Places i ks → exchanged i js xs ≡ exchanged i ks xs → js ≡ ks
unfolding exchanged Places
different zero xs [] [] h u p q e = refl
different zero xs [] (k ∷ ks) h u p q e = absurd q
different zero xs (j ∷ js) ks h u p q e = absurd p
different (suc i) xs [] ks h u p q e = absurd p
different (suc i) xs (j ∷ js) [] h u p q e = absurd q
different (suc i) xs (j ∷ js) (k ∷ ks) h u p q e =
    let at_j = exchanged_past i js (swap (suc i) j xs) (suc i) p.1 (omega arith) ∙ swapped_at (suc i) j xs (omega arith) (omega (arith, p.0)) in
    let at-k = exchanged_past i ks (swap (suc i) k xs) (suc i) q.1 (omega arith) ∙ swapped_at (suc i) k xs (omega arith) (omega (arith, q.0)) in
    let z : j ≡ k = one_place xs u j k (omega (arith, p.0)) (omega (arith, q.0)) (sym at_j ∙ ap (λ (l : List ℕ). get_or l (suc i) 0) e ∙ at-k) in
    let f : exchanged i js (swap (suc i) j xs) ≡ exchanged i ks (swap (suc i) j xs) = e ∙ ap (λ (n : ℕ). exchanged i ks (swap (suc i) n xs)) (sym z) in
    let w : js ≡ ks = different i (swap (suc i) j xs) js ks (omega (arith, length_swapped (suc i) j xs)) (λ x. omega (arith, u x, count_swapped (suc i) j xs (omega arith) (omega (arith, p.0)) x)) p.1 q.1 f in
    λ a. z a ∷ w a

pub different_orders : DifferentOrders
different_orders xs u js ks p q e = different (length xs - 1) xs js ks (omega arith) u p q e

-- ---- the places that draws choose

chosen_down : (i : ℕ) (ds : List ℕ) → Places i (places_by i ds)
unfolding Places places_by
chosen_down zero ds = tt
chosen_down (suc i) ds = (omega (arith, pick_below (i + 2) ds (omega arith)), chosen_down i (drop (pick_draws (i + 2) ds) ds))

order_down : (i : ℕ) (ds xs : List ℕ) → shuffle_down i ds xs ≡ exchanged i (places_by i ds) xs
unfolding shuffle_down exchanged places_by
order_down zero ds xs = refl
order_down (suc i) ds xs = order_down i (drop (pick_draws (i + 2) ds) ds) (swap (suc i) (pick (i + 2) ds) xs)

pub by_places : (ds xs : List ℕ) → ByPlaces ds xs
unfolding shuffle
by_places ds xs = record { chosen = chosen_down (length xs - 1) ds; order = order_down (length xs - 1) ds xs }

-- ---- equally many lists of kept draws for every order

count_none : (k : ℕ) → count_lists k (λ ds. false) ≡ 0
unfolding count_lists choose
count_none zero = refl
count_none (suc k) = sum_nothing (λ d. count_lists k (λ ds. false)) all_draws (λ d h. count_none k)

shuffled_past : (i : ℕ) (ds xs : List ℕ) (k : ℕ) → i < k → get_or (shuffle_down i ds xs) k 0 ≡ get_or xs k 0
unfolding shuffle_down
shuffled_past zero ds xs k h = refl
shuffled_past (suc i) ds xs k h =
    shuffled_past i (drop (pick_draws (i + 2) ds) ds) (swap (suc i) (pick (i + 2) ds) xs) k (omega arith)
    ∙ swapped_past (suc i) (pick (i + 2) ds) k xs h (omega (arith, pick_below (i + 2) ds (omega arith)))

-- a kept draw decides alone
kept_step : (i d : ℕ) (ds xs : List ℕ) → is_kept (i + 2) d ≡ true → shuffle_down (suc i) (d ∷ ds) xs ≡ shuffle_down i ds (swap (suc i) (d % (i + 2)) xs)
unfolding shuffle_down pick_draws pick passed_over choose
kept_step i d ds xs e = rw (e, ne_eqb (i + 2) 0 (λ q. omega arith))

-- two orders of the same items that agree but for the first place are one
last_agrees : (xs ys : List ℕ) → length ys ≡ length xs → ((x : ℕ) → count x ys ≡ count x xs) → ((k : ℕ) → 0 < k → k < length xs → get_or xs k 0 ≡ get_or ys k 0) → xs ≡ ys
unfolding count
last_agrees [] [] l c a = refl
last_agrees [] (y ∷ ys) l c a = absurd (omega arith)
last_agrees (x ∷ xs) [] l c a = absurd (omega arith)
last_agrees (x ∷ xs) (y ∷ ys) l c a =
    let t : xs ≡ ys = ext_get_or 0 xs ys (omega arith) (λ i h. a (suc i) (omega arith) (omega arith)) in
    let z : x ≡ y = split (eqb x y) (eqb-true x y) (λ e. absurd (omega (arith, c x, is_self x, is_not x y e, ap (count x) t))) in
    λ i. z i ∷ t i

-- the draws ds after a draw that decides place p of the exchange at suc i
module _ (i : ℕ) (xs ys : List ℕ) where
  after : ℕ → List ℕ → Bool
  after p ds = keeps i ds && same (shuffle_down i ds (swap (suc i) p xs)) ys

  -- a list of draws by its first
  by_first : (d : ℕ) (ds : List ℕ) → (keeps (suc i) (d ∷ ds) && same (shuffle_down (suc i) (d ∷ ds) xs) ys) ≡ choose (is_kept (i + 2) d) (after (d % (i + 2)) ds) false
  unfolding keeps after choose
  by_first d ds = split (is_kept (i + 2) d) (λ e. rw (kept_step i d ds xs e, e)) (λ e. rw e)

  -- where place j has the item wanted at suc i, and the draws after it have w ways: the lists that begin with the draw d
  module _ (long : suc i < length xs) (u : Distinct xs) (j w : ℕ) (low : j < i + 2) (item : get_or xs j 0 ≡ get_or ys (suc i) 0) (rest : count_lists i (after j) ≡ w) where
    other : (p : ℕ) → p < i + 2 → eqb p j ≡ false → (ds : List ℕ) → after p ds ≡ false
    unfolding after
    other p l e ds =
        split (same (shuffle_down i ds (swap (suc i) p xs)) ys)
        (λ t. let z : get_or xs p 0 ≡ get_or xs j 0 =
        sym (shuffled_past i ds (swap (suc i) p xs) (suc i) (omega arith) ∙ swapped_at (suc i) p xs long (omega arith))
        ∙ ap (λ (q : List ℕ). get_or q (suc i) 0) (same_true _ ys t) ∙ sym item in
        absurd (eqb-false p j e (one_place xs u p j (omega arith) (omega arith) z)))
        (λ t. rw t (and_no (keeps i ds)))

    by_place : (p : ℕ) → p < i + 2 → count_lists i (after p) ≡ choose (eqb p j) w 0
    unfolding choose
    by_place p l =
        split (eqb p j)
        (λ e. let q : p ≡ j = eqb-true p j e in rw (q, eq-eqb j j refl) rest)
        (λ e. rw e (ap (count_lists i) (λ a ds. other p l e ds a) ∙ count_none i))

    each : (d : ℕ) → count_lists i (λ ds. keeps (suc i) (d ∷ ds) && same (shuffle_down (suc i) (d ∷ ds) xs) ys) ≡ choose (decides (i + 2) j [] [] d) w 0
    unfolding decides choose
    each d =
        ap (count_lists i) (λ a ds. by_first d ds a)
        ∙ split (is_kept (i + 2) d) (λ e. rw (kept_first (i + 2) d [] e, e) (by_place (d % (i + 2)) (mod-lt d {m = i + 2} (omega arith)))) (λ e. rw e (count_none i))

    all_first : count_lists (suc i) (λ ds. keeps (suc i) ds && same (shuffle_down (suc i) ds xs) ys) ≡ all_draws / (i + 2) * w
    unfolding count_lists none_kept every
    all_first =
        sum_same _ (λ d. choose (decides (i + 2) j [] [] d) w 0) all_draws (λ d q. each d) ∙ sum_chosen (decides (i + 2) j [] []) w all_draws
        ∙ ap (λ (n : ℕ). n * w) (equal_chances (i + 2) j low [] [] refl)

orders : (i : ℕ) (xs ys : List ℕ) → i ≤ length xs - 1 → Distinct xs → length ys ≡ length xs → ((x : ℕ) → count x ys ≡ count x xs)
    → ((k : ℕ) → i < k → k < length xs → get_or xs k 0 ≡ get_or ys k 0) → count_lists i (λ ds. keeps i ds && same (shuffle_down i ds xs) ys) ≡ ways i
unfolding count_lists ways keeps shuffle_down choose after
orders zero xs ys h u l c a = let e : xs ≡ ys = last_agrees xs ys l c a in rw (e, same_refl ys)
orders (suc i) xs ys h u l c a =
    let y = get_or ys (suc i) 0 in
    let there : mem y xs ≡ true = split (mem y xs) (λ e. e) (λ e. absurd (omega (arith, c y, mem_false y xs e, count_at ys (suc i) (omega arith)))) in
    let j = index_of y xs in
    let within : j < length xs = index_lt y xs there in
    let item : get_or xs j 0 ≡ y = index_at y xs there in
    let low : j < i + 2 = split (ltb j (i + 2)) (ltb-true j (i + 2))
    (λ e. let far : i + 2 ≤ j = ltb-false j (i + 2) e in
    absurd (omega (arith, one_place ys (λ x. omega (arith, u x, c x)) j (suc i) (omega arith) (omega arith) (sym (a j (omega arith) within) ∙ item)))) in
    all_first i xs ys (omega arith) u j (ways i) low item
    (orders i (swap (suc i) j xs) ys (omega (arith, length_swapped (suc i) j xs))
    (λ x. omega (arith, u x, count_swapped (suc i) j xs (omega arith) within x)) (omega (arith, length_swapped (suc i) j xs))
    (λ x. omega (arith, c x, count_swapped (suc i) j xs (omega arith) within x))
    (λ k p q. split (eqb k (suc i))
    (λ e. let z : k ≡ suc i = eqb-true k (suc i) e in rw z (swapped_at (suc i) j xs (omega arith) within ∙ item))
    (λ e. let n = eqb-false k (suc i) e in swapped_past (suc i) j k xs (omega arith) (omega arith) ∙ a k (omega arith) (omega (arith, length_swapped (suc i) j xs)))))

pub equal_orders : EqualOrders
unfolding shuffle
equal_orders xs ys u l c = orders (length xs - 1) xs ys (omega arith) u l c (λ k p q. absurd (omega arith))
