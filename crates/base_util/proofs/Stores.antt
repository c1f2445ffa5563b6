-- What is stored into a column: its end is cleared, items leave it, and it is shuffled.
-- Assumes nothing.
use Prim.Native.Nat.{ℕ, ◌+◌, ◌-◌, ◌≤◌, ◌<◌}
use mathlib.Core.Path.{◌≡◌, refl, sym, ap, ◌∙◌, subst}
use mathlib.Core.Bool.{Bool, true, false}
use mathlib.Core.List.{List, [], ◌∷◌, ◌++◌, append-nil}
use native.Mathlib.Numerals.{add-one}
use native.Mathlib.Omega.{arith}
use lib.ListN.{length, take, drop, get_or, set, replicate, length-set, length-drop, take-append-drop, drop_of_length-le}
use lib.Seq.{append_snoc, take_all, length-take-le, take-suc-set, take-set-lt, drop-set-lt, get_or-take, get_or-set_other}
use Rattle.base_lists.specs.Array.{pad}
use Rattle.base_lists.specs.Lists.{mem, swap, without_all}
use Rattle.base_lists.proofs.Array.{set_pad, pad_append}
use Rattle.base_lists.proofs.Front.{get_d_any}
use Rattle.std.specs.List.{swap as exchange}
use native.Mathlib.Nat.{not-suc-le-zero}
use native.Mathlib.Decide.{dec_lt}
use Rattle.base_lists.proofs.Rest.{Rest, rest_next, rest_end}
use Rattle.base_util.specs.Chances.{pick_draws, pick, shuffle_down, draws_down, shuffle, shuffle_draws}
use Rattle.base_util.proofs.Chances.{length_swapped, length_shuffled, picks_next, shuffle_step, draws_step}
use borrow.Rule.Slice.PartMut.{mid_of, put_mid}
use Rattle.base_util.specs.Section.{working_places, part, Filled, items_at, ValidSet, HoldsSet}
use Rattle.base_util.proofs.Columns.{filled_length}
use Rattle.base_util.proofs.Sets.{rearranged}

-- ---- zeroes from place k on

module _ (s : List ℕ) (k : ℕ) where
  pub cleared_past : (ys : List ℕ) → k < length s → ys ≡ replicate (length (mid_of k (length s - k) s)) 0 → put_mid k (length s - k) s ys ≡ pad 0 (length s) (take k s)
  cleared_past ys h e =
      let m : length (take (length s - k) (drop k s)) ≡ length s - k = length-take-le (length s - k) (drop k s) (omega (arith, length-drop k s)) in
      let p : drop (length s - k) (drop k s) ≡ [] = drop_of_length-le (drop k s) {i = length s - k} (omega (arith, length-drop k s)) in
      (λ j. take k s ++ ((e ∙ ap (λ (i : ℕ). replicate i 0) m) j ++ p j)) ∙ ap (λ (l : List ℕ). take k s ++ l) (append-nil (replicate (length s - k) 0))
      ∙ sym (pad_append 0 (length s) (length s - k) (take k s) (omega (arith, length-take-le k s (omega arith))))

  pub none_past : length s ≤ k → s ≡ pad 0 (length s) (take k s)
  none_past h = let t = take_all k s h in sym (pad_append 0 (length s) 0 (take k s) (omega (arith, ap length t)) ∙ append-nil (take k s) ∙ t)

-- ---- the items that are not in a list

abbrev Then : List ℕ → List ℕ → List ℕ → List ℕ
Then skip xs l = xs ++ without_all skip l

pub record Packing (skip s₀ : List ℕ) (n : ℕ) (s : List ℕ) (m i : ℕ) : Type 0 where
  pub filled : Filled s₀ n
  pub long : length s ≡ length s₀
  pub room : n ≤ length s₀
  pub few : m ≤ i
  pub left : (j : ℕ) → i ≤ j → get_or s j 0 ≡ get_or s₀ j 0
  pub rest : Rest (Then skip) (length s₀) s₀ n (without_all skip (take n s₀)) (take m s) i

pub packing_start : (skip s : List ℕ) (n : ℕ) → Filled s n → Packing skip s n s 0 0
packing_start skip s n f = record {
  filled = f;
  long = refl;
  room = f.fits;
  few = omega arith;
  left = λ j p. refl;
  rest = record { low = omega arith; top = f.fits; long = refl; same = refl };
}

module _ (skip s₀ : List ℕ) (n : ℕ) (s : List ℕ) (m i : ℕ) (v : Packing skip s₀ n s m i) where
  module _ (b : Bool) (e : b ≡ mem (get_or s i 0) skip) (h : i < n) where
    is : b ≡ mem (get_or s₀ i 0) skip
    is = e ∙ ap (λ (x : ℕ). mem x skip) (v.left i (omega arith))

    pub packing_passed : b ≡ true → Packing skip s₀ n s m (i + 1)
    unfolding without_all
    packing_passed t = record {
      filled = v.filled;
      long = v.long;
      room = v.room;
      few = omega (arith, v.few);
      left = λ j p. v.left j (omega arith);
      rest = rest_next 0 (Then skip) v.rest (take m s) h (λ l. rw (← is, t));
    }

    pub packing_kept : b ≡ false → Packing skip s₀ n (set s m (get_or s i 0)) (m + 1) (i + 1)
    unfolding without_all
    packing_kept t =
        let x : get_or s i 0 ≡ get_or s₀ i 0 = v.left i (omega arith) in
        let k : take (m + 1) (set s m (get_or s i 0)) ≡ take m s ++ (get_or s₀ i 0 ∷ []) =
        ap (λ (j : ℕ). take j (set s m (get_or s i 0))) (add-one m) ∙ take-suc-set s m (get_or s i 0) (omega (arith, v.few, v.room, v.long)) ∙ ap (λ (y : ℕ). take m s ++ (y ∷ [])) x in
        record {
          filled = v.filled;
          long = length-set s m (get_or s i 0) ∙ v.long;
          room = v.room;
          few = omega (arith, v.few);
          left = λ j p. get_or-set_other s m j (get_or s i 0) 0 (λ q. omega (arith, v.few)) ∙ v.left j (omega arith);
          rest = rest_next 0 (Then skip) v.rest (take (m + 1) (set s m (get_or s i 0))) h
              (λ l. rw (← is, t, k) (sym (append_snoc (take m s) (get_or s₀ i 0) (without_all skip l))));
        }

  packed : n ≤ i → take m s ≡ without_all skip (take n s₀)
  unfolding without_all
  packed h = sym (rest_end 0 (Then skip) v.rest h ∙ append-nil (take m s))

  pub packing_end : (t : List ℕ) → t ≡ pad 0 (length s) (take m s) → n ≤ i → t ≡ pad 0 (length s₀) (without_all skip (take n s₀))
  packing_end t e h = e ∙ (λ j. pad 0 (v.long j) (packed h j))

  pub packing_count : n ≤ i → m ≡ length (without_all skip (take n s₀))
  packing_count h = sym (length-take-le m s (omega (arith, v.few, v.rest.low, v.room, v.long))) ∙ ap length (packed h)

-- ---- a shuffle

swap_front : (n : ℕ) (s : List ℕ) (i j : ℕ) → i < n → j < n → take n (swap i j s) ≡ swap i j (take n s)
unfolding swap
swap_front n s i j a b =
    take-set-lt n (set s i (get_or s j 0)) j (get_or s i 0) b ∙ ap (λ (l : List ℕ). set l j (get_or s i 0)) (take-set-lt n s i (get_or s j 0) a)
    ∙ (λ e. set (set (take n s) i (sym (get_or-take n s j 0 b) e)) j (sym (get_or-take n s i 0 a) e))

pub record Mixing (ds : List ℕ) (at n : ℕ) (s₀ s : List ℕ) (i k : ℕ) : Type 0 where
  pub filled : Filled s₀ n
  pub long : length s ≡ length s₀
  pub room : n ≤ length s
  pub low : i < n
  pub few : n ≤ working_places
  pub place : k + i < length ds + n
  pub taken : at + shuffle_draws (drop at ds) (take n s₀) ≡ k + draws_down i (drop k ds)
  pub packed : s ≡ pad 0 (length s₀) (take n s)
  pub same : shuffle (drop at ds) (take n s₀) ≡ shuffle_down i (drop k ds) (take n s)

module _ (s : List ℕ) (ds : List ℕ) (at n : ℕ) (f : Filled s n) where
  mixing_few : n < 2 → s ≡ pad 0 (length s) (shuffle (drop at ds) (take n s))
  unfolding shuffle shuffle_down
  mixing_few h =
      let z : 0 ≡ length (take n s) - 1 = omega (arith, filled_length s n f) in
      f.packed ∙ ap (λ (m : ℕ). pad 0 (length s) (shuffle_down m (drop at ds) (take n s))) z

  mixing_none : n < 2 → at ≡ at + shuffle_draws (drop at ds) (take n s)
  unfolding shuffle_draws draws_down
  mixing_none h =
      let z : 0 ≡ length (take n s) - 1 = omega (arith, filled_length s n f) in
      let e : draws_down (length (take n s) - 1) (drop at ds) ≡ 0 = ap (λ (m : ℕ). draws_down m (drop at ds)) (sym z) in
      omega (arith, e)

  mixing_start : 2 ≤ n → n ≤ working_places → at ≤ length ds → Mixing ds at n s s (n - 1) at
  unfolding shuffle shuffle_draws
  mixing_start h l m = record {
    filled = f;
    long = refl;
    room = f.fits;
    low = omega arith;
    few = l;
    place = omega arith;
    taken = ap (λ (m : ℕ). at + draws_down (m - 1) (drop at ds)) (filled_length s n f);
    packed = f.packed;
    same = ap (λ (m : ℕ). shuffle_down (m - 1) (drop at ds) (take n s)) (filled_length s n f);
  }

module _ (ds : List ℕ) (at n : ℕ) (s₀ s : List ℕ) (i k : ℕ) (v : Mixing ds at n s₀ s i k) where
  left_to_draw : k ≤ length ds + working_places
  left_to_draw = omega (arith, v.place, v.few, v.low)

  module _ (j : ℕ) (b : j < n) where
    kept : swap i j s ≡ pad 0 (length s₀) (take n (swap i j s))
    unfolding swap
    kept =
        let l : length (take n s) ≡ n = length-take-le n s v.room in
        ap (λ (t : List ℕ). set (set t i (get_or s j 0)) j (get_or s i 0)) v.packed
        ∙ ap (λ (t : List ℕ). set t j (get_or s i 0)) (set_pad 0 (length s₀) (take n s) i (get_or s j 0) (omega (arith, v.low)))
        ∙ set_pad 0 (length s₀) (set (take n s) i (get_or s j 0)) j (get_or s i 0) (omega (arith, length-set (take n s) i (get_or s j 0)))
        ∙ ap (pad 0 (length s₀)) (sym (take-set-lt n (set s i (get_or s j 0)) j (get_or s i 0) b ∙ ap (λ (t : List ℕ). set t j (get_or s i 0)) (take-set-lt n s i (get_or s j 0) v.low)))

  mixing_next : (t : List ℕ) (j m : ℕ) → t ≡ swap i j s → j ≡ pick (i + 1) (drop k ds) → j < i + 1 → m ≡ k + pick_draws (i + 1) (drop k ds) → 0 < i → Mixing ds at n s₀ t (i - 1) m
  mixing_next t j m e p q z h =
      let b : j < n = omega (arith, v.low) in
      let l : length t ≡ length s = ap length e ∙ length_swapped i j s in
      record {
        filled = v.filled;
        long = l ∙ v.long;
        room = omega (arith, v.room, l);
        low = omega (arith, v.low);
        few = v.few;
        place = omega (arith, v.place, v.low, picks_next (i + 1) k ds (omega arith));
        taken = omega (arith, v.taken, draws_step i ds k h, ap (λ (x : ℕ). draws_down (i - 1) (drop x ds)) z);
        packed = e ∙ kept j b ∙ ap (λ (u : List ℕ). pad 0 (length s₀) (take n u)) (sym e);
        same = v.same ∙ shuffle_step i ds k (take n s) h
            ∙ (λ a. shuffle_down (i - 1) (drop (sym z a) ds) (swap i (sym p a) (take n s))) ∙ ap (shuffle_down (i - 1) (drop m ds)) (sym (swap_front n s i j v.low b) ∙ ap (take n) (sym e));
      }

  mixing_taken : i ≤ 0 → k ≡ at + shuffle_draws (drop at ds) (take n s₀)
  unfolding draws_down
  mixing_taken h =
      let z : i ≡ 0 = omega arith in
      let e : draws_down i (drop k ds) ≡ 0 = ap (λ (m : ℕ). draws_down m (drop k ds)) z in
      omega (arith, v.taken, e)

  mixing_end : i ≤ 0 → s ≡ pad 0 (length s₀) (shuffle (drop at ds) (take n s₀))
  unfolding shuffle_down
  mixing_end h =
      let z : i ≡ 0 = omega arith in
      v.packed ∙ ap (pad 0 (length s₀)) (sym (v.same ∙ ap (λ (m : ℕ). shuffle_down m (drop k ds) (take n s)) z))

mixed : (n : ℕ) (s ys ds : List ℕ) (at : ℕ) → ValidSet n s → ys ≡ pad 0 (length (part 0 n s)) (shuffle (drop at ds) (take (get_or s n 0) (part 0 n s)))
    → HoldsSet n (put_mid 0 n s ys) (shuffle (drop at ds) (items_at n s))
unfolding items_at
mixed n s ys ds at v o = rearranged n s v ys (shuffle (drop at ds) (items_at n s)) o (length_shuffled (drop at ds) (items_at n s))

mixed_taken : (n : ℕ) (s ds : List ℕ) (at k : ℕ) → k ≡ at + shuffle_draws (drop at ds) (take (get_or s n 0) (part 0 n s)) → k ≡ at + shuffle_draws (drop at ds) (items_at n s)
unfolding items_at
mixed_taken n s ds at k e = e

-- ---- a set's column is shuffled in its place

-- s is s₀ but for the column, which is as the shuffle left it
pub record Turning (ds : List ℕ) (at n : ℕ) (s₀ s : List ℕ) (i k : ℕ) : Type 0 where
  pub valid : ValidSet n s₀
  pub long : length s ≡ n + 1
  pub column : Mixing ds at (get_or s₀ n 0) (part 0 n s₀) (part 0 n s) i k
  pub rest : drop n s ≡ drop n s₀

put_back : (n : ℕ) (s₀ s : List ℕ) → drop n s ≡ drop n s₀ → put_mid 0 n s₀ (part 0 n s) ≡ s
unfolding part
put_back n s₀ s e = ap (λ (l : List ℕ). take n s ++ l) (sym e) ∙ take-append-drop n s

module _ (n : ℕ) (s ds : List ℕ) (at : ℕ) (v : ValidSet n s) where
  turn_few : get_or s n 0 < 2 → HoldsSet n s (shuffle (drop at ds) (items_at n s))
  turn_few h =
      subst (λ (t : List ℕ). HoldsSet n t (shuffle (drop at ds) (items_at n s))) (put_back n s s refl) (mixed n s (part 0 n s) ds at v (mixing_few (part 0 n s) ds at (get_or s n 0) v.filled h))

  turn_none : get_or s n 0 < 2 → at ≡ at + shuffle_draws (drop at ds) (items_at n s)
  turn_none h = mixed_taken n s ds at at (mixing_none (part 0 n s) ds at (get_or s n 0) v.filled h)

  turn_start : n ≤ working_places → at ≤ length ds → 2 ≤ get_or s n 0 → Turning ds at n s s (get_or s n 0 - 1) at
  turn_start w l h =
      record {
        valid = v;
        long = v.long;
        column = mixing_start (part 0 n s) ds at (get_or s n 0) v.filled h (omega (arith, v.fits)) l;
        rest = refl;
      }

module _ (ds : List ℕ) (at n : ℕ) (s₀ s : List ℕ) (i k : ℕ) (v : Turning ds at n s₀ s i k) where
  turn_left : k ≤ length ds + working_places
  turn_left = left_to_draw ds at _ _ _ i k v.column

  turn_place : i < length s
  turn_place = omega (arith, v.long, v.column.low, v.valid.fits)

  turn_drawn : (j : ℕ) → j < i + 1 → j < length s
  turn_drawn j h = omega (arith, turn_place)

  turn_next : (j m : ℕ) → j ≡ pick (i + 1) (drop k ds) → j < i + 1 → m ≡ k + pick_draws (i + 1) (drop k ds) → 0 < i → Turning ds at n s₀ (set (set s i (get_or s j 0)) j (get_or s i 0)) (i - 1) m
  unfolding part swap
  turn_next j m p q z h =
      let a : i < n = omega (arith, v.column.low, v.valid.fits) in
      let b : j < n = omega arith in
      record {
        valid = v.valid;
        long = length-set (set s i (get_or s j 0)) j (get_or s i 0) ∙ length-set s i (get_or s j 0) ∙ v.long;
        column = mixing_next ds at _ _ _ i k v.column _ j m (swap_front n s i j a b) p q z h;
        rest = drop-set-lt n (set s i (get_or s j 0)) j (get_or s i 0) b ∙ drop-set-lt n s i (get_or s j 0) a ∙ v.rest;
      }

  turn_taken : i ≤ 0 → k ≡ at + shuffle_draws (drop at ds) (items_at n s₀)
  turn_taken h = mixed_taken n s₀ ds at k (mixing_taken ds at _ _ _ i k v.column h)

  turn_end : i ≤ 0 → HoldsSet n s (shuffle (drop at ds) (items_at n s₀))
  turn_end h =
      subst (λ (t : List ℕ). HoldsSet n t (shuffle (drop at ds) (items_at n s₀))) (put_back n s₀ s v.rest) (mixed n s₀ (part 0 n s) ds at v.valid (mixing_end ds at _ _ _ i k v.column h))

-- ---- its loop, which exchanges none of fewer than two items

swap_is : (s : List ℕ) (i j : ℕ) → i < length s → j < length s → exchange s i j ≡ set (set s i (get_or s j 0)) j (get_or s i 0)
swap_is [] i j a b = absurd (not-suc-le-zero a)
swap_is (d ∷ ys) i j a b = (λ e. set (set (d ∷ ys) i (get_d_any (d ∷ ys) j d 0 b e)) j (get_d_any (d ∷ ys) i d 0 a e))

-- the items at i and from there on stand as the shuffle leaves them
pub record Shuffling (ds : List ℕ) (at n : ℕ) (s₀ s : List ℕ) (i k : ℕ) : Type 0 where
  pub valid : ValidSet n s₀
  pub top : i ≤ get_or s₀ n 0
  pub few : get_or s₀ n 0 < 2 → (s ≡ s₀) × (k ≡ at)
  pub more : 2 ≤ get_or s₀ n 0 → Turning ds at n s₀ s (i - 1) k

pub shuffling_start : (n : ℕ) (s ds : List ℕ) (at : ℕ) → ValidSet n s → n ≤ working_places → at ≤ length ds → Shuffling ds at n s s (get_or s n 0) at
shuffling_start n s ds at v w l = record { valid = v; top = omega arith; few = λ h. (refl, refl); more = λ h. turn_start n s ds at v w l h }

module _ (ds : List ℕ) (at n : ℕ) (s₀ s : List ℕ) (i k : ℕ) (v : Shuffling ds at n s₀ s i k) where
  module _ (h : 1 < i) where
    turning : Turning ds at n s₀ s (i - 1) k
    turning = v.more (omega (arith, v.top))

    pub shuffling_left : k ≤ length ds + working_places
    shuffling_left = turn_left ds at n s₀ s (i - 1) k turning

    pub shuffling_place : i - 1 < length s
    shuffling_place = turn_place ds at n s₀ s (i - 1) k turning

    pub shuffling_drawn : (j : ℕ) → j < i - 1 + 1 → j < length s
    shuffling_drawn j l = turn_drawn ds at n s₀ s (i - 1) k turning j l

    pub shuffling_next : (t : List ℕ) (j m : ℕ) → t ≡ exchange s (i - 1) j → j ≡ pick (i - 1 + 1) (drop k ds) → j < i - 1 + 1 → m ≡ k + pick_draws (i - 1 + 1) (drop k ds) → Shuffling ds at n s₀ t (i - 1) m
    shuffling_next t j m e p q z =
        let u : t ≡ set (set s (i - 1) (get_or s j 0)) j (get_or s (i - 1) 0) = e ∙ swap_is s (i - 1) j shuffling_place (shuffling_drawn j q) in
        record {
          valid = v.valid;
          top = omega (arith, v.top);
          few = λ l. absurd (omega (arith, v.top));
          more = λ l. subst (λ (r : List ℕ). Turning ds at n s₀ r (i - 1 - 1) m) (sym u) (turn_next ds at n s₀ s (i - 1) k turning j m p q z (omega arith));
        }

  module _ (h : i ≤ 1) where
    pub shuffled_end : HoldsSet n s (shuffle (drop at ds) (items_at n s₀))
    shuffled_end =
        elim (dec_lt (get_or s₀ n 0) 2) [
          | yes l ↦ subst (λ (r : List ℕ). HoldsSet n r (shuffle (drop at ds) (items_at n s₀))) (sym (v.few l).0) (turn_few n s₀ ds at v.valid l)
          | no l ↦ turn_end ds at n s₀ s (i - 1) k (v.more (omega arith)) (omega arith)
        ]

    pub shuffled_taken : k ≡ at + shuffle_draws (drop at ds) (items_at n s₀)
    shuffled_taken =
        elim (dec_lt (get_or s₀ n 0) 2) [
          | yes l ↦ (v.few l).1 ∙ turn_none n s₀ ds at v.valid l
          | no l ↦ turn_taken ds at n s₀ s (i - 1) k (v.more (omega arith)) (omega arith)
        ]
