-- Each place is picked from equally many of the draws kept, whatever is passed over before: by arithmetic over blocks of n draws.
-- Assumes nothing.
use Prim.Native.Nat.{ℕ, zero, suc, ◌+◌, ◌-◌, ◌*◌, ◌/◌, ◌%◌, ◌≤◌, ◌<◌}
use mathlib.Core.Path.{◌≡◌, refl, sym, ap, subst}
use mathlib.Core.Bool.{Bool, true, false, not}
use mathlib.Core.List.{List, [], ◌∷◌, ◌++◌}
use native.Mathlib.Nat.{not-suc-le-zero, add-zero, add-suc, suc-mul, zero-mul, add-mul, div-add-mod'}
use native.Mathlib.Omega.{arith}
use lib.Arith.{digits_mod}
use lib.Dec.{eqb}
use lib.ListN.{length}
use lib.Seq.{get_or-append-add}
use borrow.Author.Tests.{eqb-true, eqb-false, ne_eqb, lt-ltb, le-ltb}
use Rattle.base_lists.specs.Lists.{choose}
use Rattle.base_lists.specs.Tests.{every}
use Rattle.base_lists.proofs.Choice.{by_choice, choose_no, and_left, and_right, clash}
use Rattle.base_util.specs.Chances.{all_draws, kept_end, is_kept, passed_over, pick}
use Rattle.base_util.specs.Equal.{sum_below, count_below, none_kept, decides, EqualChances, PassedCount}
use Rattle.base_util.proofs.Chances.{pick_some}

pub sum_same : (f g : ℕ → ℕ) (k : ℕ) → ((d : ℕ) → d < k → f d ≡ g d) → sum_below f k ≡ sum_below g k
unfolding sum_below
sum_same f g zero e = refl
sum_same f g (suc k) e = omega (arith, e k (omega arith), sum_same f g k (λ d h. e d (omega arith)))

pub sum_nothing : (f : ℕ → ℕ) (k : ℕ) → ((d : ℕ) → d < k → f d ≡ 0) → sum_below f k ≡ 0
unfolding sum_below
sum_nothing f zero e = refl
sum_nothing f (suc k) e = omega (arith, e k (omega arith), sum_nothing f k (λ d h. e d (omega arith)))

sum_split : (f : ℕ → ℕ) (k m : ℕ) → sum_below f (k + m) ≡ sum_below f k + sum_below (λ d. f (k + d)) m
unfolding sum_below
sum_split f k zero = rw (add-zero k) (omega arith)
sum_split f k (suc m) = rw (add-suc k m) (omega (arith, sum_split f k m))

times : (b : Bool) (w : ℕ) → choose b w 0 ≡ choose b 1 0 * w
unfolding choose
times true w = omega arith
times false w = omega arith

-- one summand for each draw that passes the test
pub sum_chosen : (t : ℕ → Bool) (w k : ℕ) → sum_below (λ d. choose (t d) w 0) k ≡ count_below t k * w
unfolding count_below sum_below
sum_chosen t w zero = sym (zero-mul w)
sum_chosen t w (suc k) =
    rw (add-mul (choose (t k) 1 0) (sum_below (λ d. choose (t d) 1 0) k) w)
    (omega (arith, sum_chosen t w k, times (t k) w))

-- of the numbers below k one is i
one_is : (i k : ℕ) → i < k → sum_below (λ d. choose (eqb d i) 1 0) k ≡ 1
unfolding sum_below
one_is i zero h = absurd (not-suc-le-zero h)
one_is i (suc k) h =
    by_choice (λ (c : ℕ). c + sum_below (λ d. choose (eqb d i) 1 0) k ≡ 1) (eqb k i)
    (λ e. omega (arith, sum_nothing (λ d. choose (eqb d i) 1 0) k (λ d l. choose_no _ 1 0 (ne_eqb d i (λ q. omega (arith, eqb-true k i e))))))
    (λ e. omega (arith, one_is i k (let n = eqb-false k i e in omega arith)))

-- q blocks of n numbers have q numbers with the remainder i
blocks : (n i q : ℕ) → i < n → sum_below (λ d. choose (eqb (d % n) i) 1 0) (q * n) ≡ q
unfolding sum_below
blocks n i zero h = rw (zero-mul n)
blocks n i (suc q) h =
    rw (suc-mul q n)
    (omega (
      arith,
      sum_split (λ d. choose (eqb (d % n) i) 1 0) (q * n) n,
      blocks n i q h,
      sum_same (λ d. choose (eqb ((q * n + d) % n) i) 1 0) (λ d. choose (eqb d i) 1 0) n (λ d l. rw (digits_mod q {m = n} {r = d} l)),
      one_is i n h,
    ))

-- the same of N numbers of which those past the last whole block do not count
even : (N n i : ℕ) (t : ℕ → Bool) → i < n → ((d : ℕ) → d < N - N % n → t d ≡ eqb (d % n) i) → ((d : ℕ) → N - N % n ≤ d → t d ≡ false) → count_below t N ≡ N / n
unfolding count_below
even N n i t h low high =
    let e : N / n * n + N % n ≡ N = div-add-mod' N n in
    let s : sum_below (λ d. choose (t d) 1 0) (N / n * n + N % n) ≡ N / n =
    omega (
      arith,
      sum_split (λ d. choose (t d) 1 0) (N / n * n) (N % n),
      sum_same (λ d. choose (t d) 1 0) (λ d. choose (eqb (d % n) i) 1 0) (N / n * n) (λ d l. ap (λ (b : Bool). choose b 1 0) (low d (omega arith))),
      blocks n i (N / n) h,
      sum_nothing (λ d. choose (t (N / n * n + d)) 1 0) (N % n) (λ d l. choose_no _ 1 0 (high (N / n * n + d) (omega arith))),
    ) in
    subst (λ (k : ℕ). sum_below (λ d. choose (t d) 1 0) k ≡ N / n) e s

-- ---- picks

-- draws that are not kept are passed over
over_length : (n : ℕ) (over ds : List ℕ) → none_kept n over ≡ true → passed_over n (over ++ ds) ≡ length over + passed_over n ds
unfolding none_kept every passed_over
over_length n [] ds e = omega arith
over_length n (d ∷ over) ds e =
    by_choice (λ (k : ℕ). k ≡ suc (length over) + passed_over n ds) (is_kept n d)
    (λ t. absurd (clash (not (is_kept n d)) (and_left (not (is_kept n d)) _ e) (rw t)))
    (λ t. omega (arith, over_length n over ds (and_right (not (is_kept n d)) _ e)))

pub passed_count : PassedCount
unfolding pick
passed_count n h over ds e =
    let k = over_length n over ds e in
    record {
      same_place = rw (k, get_or-append-add over ds (passed_over n ds) 0);
      counted = omega (arith, k, pick_some n (over ++ ds) h, pick_some n ds h);
    }

-- a kept draw decides by its remainder
pub kept_first : (n d : ℕ) (more : List ℕ) → is_kept n d ≡ true → pick n (d ∷ more) ≡ d % n
unfolding pick passed_over choose
kept_first n d more e = rw e

pub equal_chances : EqualChances
unfolding decides is_kept kept_end
equal_chances n i h over more e =
    even all_draws n i (decides n i over more) h
    (λ d l. let k : is_kept n d ≡ true = lt-ltb d (all_draws - all_draws % n) l in
    rw (k, (passed_count n (omega arith) over (d ∷ more) e).same_place, kept_first n d more k))
    (λ d l. rw (le-ltb d (all_draws - all_draws % n) l))
