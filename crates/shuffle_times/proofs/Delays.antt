-- The delay at its ends and between them, and the due times that sums of delays can have.
-- Assumes nothing.
use mathlib.Core.Path.{◌≡◌, refl, ap, ◌∙◌}
use mathlib.Core.Bool.{true}
use mathlib.Core.List.{List, [], ◌∷◌}
use Prim.Native.Nat.{ℕ, zero, suc, ◌+◌, ◌-◌, ◌*◌, ◌/◌, ◌^◌, ◌≤◌, ◌<◌}
use native.Mathlib.Nat.{mul-le-mul}
use native.Mathlib.Omega.{arith}
use lib.ListN.{length, get_or, take, replicate}
use lib.Dec.{leb, ltb}
use borrow.Author.Tests.{leb-true, leb-false, ltb-true, lt-ltb}
use Rattle.base_lists.proofs.Choice.{split, and_left, and_right}
use Rattle.base_timing.specs.Timing.{delay}
use Rattle.base_timing.proofs.Ranges.{Within}
use Rattle.spec_hyparview.specs.Station.{draws_end}
use Rattle.spec_hyparview.specs.Rules.{all_under}
use Rattle.base_lists.proofs.Members.{both}
use Rattle.shuffle_times.specs.Times.{lowest_draw, highest_draw, first_interval, next_interval, dues, due}

-- an interval that a station can have, or its setting
abbrev pub Interval : ℕ → Type 0
Interval i = Within 1 3600000 i

pub least_delay : (i : ℕ) → delay i lowest_draw ≡ 3 * i / 4
unfolding delay
least_delay i = omega arith

pub most_delay : (i : ℕ) → Interval i → delay i highest_draw ≡ (5 * i + 3) / 4 - 1
unfolding delay
most_delay i h = omega (arith, h.least, h.most)

pub delay_some : (i : ℕ) → Interval i → 1 ≤ delay i highest_draw
delay_some i h = omega (arith, h.least, most_delay i h)

pub delay_few : (i : ℕ) → Interval i → delay i highest_draw ≤ 4500000
delay_few i h = omega (arith, h.least, h.most, most_delay i h)

-- a higher draw has no shorter delay
pub delay_rises : (i d e : ℕ) → d ≤ e → delay i d ≤ delay i e
unfolding delay
delay_rises i d e h =
    let more : 3 * 2 ^ 31 + d ≤ 3 * 2 ^ 31 + e = omega arith in
    let p : i * (3 * 2 ^ 31 + d) ≤ i * (3 * 2 ^ 31 + e) = mul-le-mul (omega arith) more in
    omega (arith, p)

-- one step of the draw moves the delay by at most one
delay_step : (i d : ℕ) → Interval i → delay i (suc d) ≤ delay i d + 1
unfolding delay
delay_step i d h = let p : i * (6442450944 + suc d) ≡ i * (6442450944 + d) + i = omega arith in omega (arith, p, h.most)

-- a draw with the delay t
pub record Hit (i n t : ℕ) : Type 0 where
  pub draw : ℕ
  pub low : draw ≤ n
  pub is : delay i draw ≡ t

-- each delay between those of two draws is that of a draw between them
pub hit : (i n t : ℕ) → Interval i → delay i 0 ≤ t → t ≤ delay i n → Hit i n t
hit i zero t h a b = record { draw = 0; low = omega arith; is = omega arith }
hit i (suc n) t h a b =
    split (leb t (delay i n))
    (λ e. let k = hit i n t h a (leb-true t (delay i n) e) in record { draw = k.draw; low = omega (arith, k.low); is = k.is })
    (λ e. record { draw = suc n; low = omega arith; is = omega (arith, leb-false t (delay i n) e, delay_step i n h) })

-- intervals stay in range
pub first_ok : (top : ℕ) → Interval top → Interval (first_interval top)
unfolding first_interval
first_ok top h = record { least = omega (arith, h.least); most = omega (arith, h.most) }

pub next_ok : (top i : ℕ) → Interval top → Interval i → Interval (next_interval top i)
unfolding next_interval
next_ok top i h k = record { least = omega (arith, h.least, k.least); most = omega (arith, h.most) }

-- lists of draws
pub length_dues : (top i t : ℕ) (ds : List ℕ) → length (dues top i t ds) ≡ length ds
unfolding dues
length_dues top i t [] = refl
length_dues top i t (d ∷ ds) = ap suc (length_dues top (next_interval top i) (t + delay i d) ds)

-- the j-th due time is the last one for so many draws
pub dues_at : (top i t : ℕ) (ds : List ℕ) (j : ℕ) → j < length ds → get_or (dues top i t ds) j 0 ≡ due top i t (take (suc j) ds)
unfolding dues due
dues_at top i t [] j h = absurd (omega arith)
dues_at top i t (d ∷ ds) zero h = refl
dues_at top i t (d ∷ ds) (suc j) h = dues_at top (next_interval top i) (t + delay i d) ds j (omega arith)

pub under_take : (n : ℕ) (ds : List ℕ) → all_under draws_end ds ≡ true → all_under draws_end (take n ds) ≡ true
unfolding all_under
under_take zero ds e = refl
under_take (suc n) [] e = refl
under_take (suc n) (d ∷ ds) e =
    both (ltb d draws_end) _ (and_left (ltb d draws_end) (all_under draws_end ds) e) (under_take n ds (and_right (ltb d draws_end) (all_under draws_end ds) e))

-- nothing outside
pub record Between (a x b : ℕ) : Type 0 where
  pub not_before : a ≤ x
  pub not_after : x ≤ b

pub due_between : (top i a t b : ℕ) (ds : List ℕ) → Interval top → Interval i → all_under draws_end ds ≡ true → a ≤ t → t ≤ b
    → Between (due top i a (replicate (length ds) lowest_draw)) (due top i t ds) (due top i b (replicate (length ds) highest_draw))
unfolding due all_under
due_between top i a t b [] h k u l m = record { not_before = l; not_after = m }
due_between top i a t b (d ∷ ds) h k u l m =
    let w : d < draws_end = ltb-true d draws_end (and_left (ltb d draws_end) (all_under draws_end ds) u) in
    due_between top (next_interval top i) _ _ _ ds h (next_ok top i h k) (and_right (ltb d draws_end) (all_under draws_end ds) u)
    (omega (arith, delay_rises i 0 d (omega arith))) (omega (arith, delay_rises i d highest_draw (omega arith)))

-- every one between
pub record Found (top i a b k t : ℕ) : Type 0 where
  pub start : ℕ
  pub from : a ≤ start
  pub to : start ≤ b
  pub draws : List ℕ
  pub are_draws : all_under draws_end draws ≡ true
  pub many : length draws ≡ k
  pub is : due top i start draws ≡ t

-- a start and a first draw that lead to time x
record Led (i a b x : ℕ) : Type 0 where
  start : ℕ
  from : a ≤ start
  to : start ≤ b
  draw : ℕ
  low : draw ≤ highest_draw
  is : start + delay i draw ≡ x

led : (i a b x : ℕ) → Interval i → a ≤ b → a + delay i lowest_draw ≤ x → x ≤ b + delay i highest_draw → Led i a b x
led i a b x h o l m =
    split (leb x (b + delay i lowest_draw))
    (λ e. record { start = x - delay i lowest_draw; from = omega arith; to = omega (arith, leb-true x (b + delay i lowest_draw) e); draw = lowest_draw; low = omega arith; is = omega arith })
    (λ e. let f = leb-false x (b + delay i lowest_draw) e in
    let k = hit i highest_draw (x - b) h (omega arith) (omega arith) in
    record { start = b; from = o; to = omega arith; draw = k.draw; low = k.low; is = omega (arith, k.is) })

pub found : (k top i a b t : ℕ) → Interval top → Interval i → a ≤ b → due top i a (replicate k lowest_draw) ≤ t → t ≤ due top i b (replicate k highest_draw) → Found top i a b k t
unfolding due all_under
found zero top i a b t h j o l m = record { start = t; from = l; to = m; draws = []; are_draws = refl; many = refl; is = refl }
found (suc k) top i a b t h j o l m =
    let w = found k top (next_interval top i) (a + delay i lowest_draw) (b + delay i highest_draw) t h (next_ok top i h j) (omega (arith, delay_rises i lowest_draw highest_draw (omega arith))) l m in
    let v = led i a b w.start j o w.from w.to in
    record {
      start = v.start;
      from = v.from;
      to = v.to;
      draws = v.draw ∷ w.draws;
      are_draws = both (ltb v.draw draws_end) _ (lt-ltb v.draw draws_end (omega (arith, v.low))) w.are_draws;
      many = ap suc w.many;
      is = ap (λ (x : ℕ). due top (next_interval top i) x w.draws) v.is ∙ w.is;
    }

-- the latest end is at least k
pub due_grows : (k top i t : ℕ) → Interval top → Interval i → t + k ≤ due top i t (replicate k highest_draw)
unfolding due
due_grows zero top i t h j = omega arith
due_grows (suc k) top i t h j = omega (arith, delay_some i j, due_grows k top (next_interval top i) (t + delay i highest_draw) h (next_ok top i h j))
