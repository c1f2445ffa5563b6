-- 02, S-6, "equal chances": what is claimed of picks and of shuffles, as equations about counts over all draws and over all lists of draws.
-- Assumes nothing.
use Rattle.std.specs.Prelude.{ℕ, zero, suc, ◌+◌, ◌-◌, ◌*◌, ◌/◌, ◌≤◌, ◌<◌, ◌≡◌, Bool, true, false, not, ◌&&◌, List, [], ◌∷◌, ◌++◌, length, drop, eqb}
use Rattle.base_lists.specs.Lists.{choose, count, swap, same}
use Rattle.base_lists.specs.Tests.{every}
use Rattle.base_util.specs.Chances.{all_draws, is_kept, pick_draws, pick, shuffle}

-- f 0 and so on to f (k - 1) together
unfoldable pub sum_below : (ℕ → ℕ) → ℕ → ℕ
sum_below f zero = 0
sum_below f (suc k) = f k + sum_below f k

-- how many of the numbers below k pass the test
unfoldable pub count_below : (ℕ → Bool) → ℕ → ℕ
count_below t k = sum_below (λ d. choose (t d) 1 0) k

-- none of the draws is kept for n items
unfoldable pub none_kept : ℕ → List ℕ → Bool
none_kept n ds = every (λ d. not (is_kept n d)) ds

-- the draw d is kept for n items, and where it stands after the draws `over` and before the draws `more` the pick is place i
unfoldable pub decides : ℕ → ℕ → List ℕ → List ℕ → ℕ → Bool
decides n i over more d = is_kept n d && eqb (pick n (over ++ (d ∷ more))) i

-- of the draws kept for n items, a pick of place i comes from floor(2^32 / n), whatever is passed over before and lent after; for every n, and past 2^32 that is none
abbrev pub EqualChances : Type 0
EqualChances = (n i : ℕ) → i < n → (over more : List ℕ) → none_kept n over ≡ true → count_below (decides n i over more) all_draws ≡ all_draws / n

-- draws passed over before others change nothing of a pick but how many draws it uses: they count as used
pub record PassedOver (n : ℕ) (over ds : List ℕ) : Type 0 where
  pub same_place : pick n (over ++ ds) ≡ pick n ds
  pub counted : pick_draws n (over ++ ds) ≡ length over + pick_draws n ds

abbrev pub PassedCount : Type 0
PassedCount = (n : ℕ) → 0 < n → (over ds : List ℕ) → none_kept n over ≡ true → PassedOver n over ds

-- the places chosen in a shuffle: one of i + 1, then one of i, to one of 2
unfoldable pub Places : ℕ → List ℕ → Type 0
Places zero [] = Unit {0}
Places zero (j ∷ js) = ⊥
Places (suc i) [] = ⊥
Places (suc i) (j ∷ js) = (j ≤ suc i) × Places i js

-- the items after the exchanges with these places
unfoldable pub exchanged : ℕ → List ℕ → List ℕ → List ℕ
exchanged zero js xs = xs
exchanged (suc i) [] xs = xs
exchanged (suc i) (j ∷ js) xs = exchanged i js (swap (suc i) j xs)

-- the places that the draws ds choose
unfoldable pub places_by : ℕ → List ℕ → List ℕ
places_by zero ds = []
places_by (suc i) ds = pick (i + 2) ds ∷ places_by i (drop (pick_draws (i + 2) ds) ds)

-- a shuffle is made of the exchanges with the places that its draws choose
pub record ByPlaces (ds xs : List ℕ) : Type 0 where
  pub chosen : Places (length xs - 1) (places_by (length xs - 1) ds)
  pub order : shuffle ds xs ≡ exchanged (length xs - 1) (places_by (length xs - 1) ds) xs

-- two different lists of places never give the same order of distinct items
abbrev pub DifferentOrders : Type 0
DifferentOrders =
    (xs : List ℕ) → ((x : ℕ) → count x xs ≤ 1) → (js ks : List ℕ) → Places (length xs - 1) js → Places (length xs - 1) ks
    → exchanged (length xs - 1) js xs ≡ exchanged (length xs - 1) ks xs → js ≡ ks

-- ds has a draw for each exchange and no more, each kept for its number of items
unfoldable pub keeps : ℕ → List ℕ → Bool
keeps zero [] = true
keeps zero (d ∷ ds) = false
keeps (suc i) [] = false
keeps (suc i) (d ∷ ds) = is_kept (i + 2) d && keeps i ds

-- how many of the lists of k draws pass the test
unfoldable pub count_lists : ℕ → (List ℕ → Bool) → ℕ
count_lists zero t = choose (t []) 1 0
count_lists (suc k) t = sum_below (λ d. count_lists k (λ ds. t (d ∷ ds))) all_draws

-- floor(2^32 / (i + 1)) · .. · floor(2^32 / 2)
unfoldable pub ways : ℕ → ℕ
ways zero = 1
ways (suc i) = all_draws / (i + 2) * ways i

-- every order ys of the distinct items xs comes from equally many lists of kept draws
abbrev pub EqualOrders : Type 0
EqualOrders =
    (xs ys : List ℕ) → ((x : ℕ) → count x xs ≤ 1) → length ys ≡ length xs → ((x : ℕ) → count x ys ≡ count x xs)
    → count_lists (length xs - 1) (λ ds. keeps (length xs - 1) ds && same (shuffle ds xs) ys) ≡ ways (length xs - 1)
