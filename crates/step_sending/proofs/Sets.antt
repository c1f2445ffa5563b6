-- Working sets of peers, for those who send them.
-- Assumes nothing.
use Prim.Native.Nat.{ℕ, zero, suc, ◌+◌, ◌-◌, ◌≤◌, ◌<◌}
use mathlib.Core.Path.{◌≡◌, sym, ap, ◌∙◌, subst}
use mathlib.Core.List.{List, [], ◌∷◌, ◌++◌}
use native.Mathlib.Omega.{arith}
use lib.ListN.{length, take, drop}
use Rattle.base_util.specs.Chances.{shuffle}
use Rattle.base_util.specs.Section.{items_at, ValidSet, HoldsSet, working_places}
use Rattle.base_util.proofs.Sets.{lent, set_length, set_then}
use Rattle.spec_hyparview.specs.Run.{draw_shuffle}
use Rattle.work.specs.declared.Work.{Work}
use Rattle.hyparview_state.specs.Work.{DrawsAny}

pub few_taken : {A : Type 0} (k : ℕ) (xs : List A) → length (take k xs) ≤ k
few_taken zero xs = omega arith
few_taken (suc k) [] = omega arith
few_taken (suc k) (x ∷ xs) = omega (arith, few_taken k xs)

-- the part of a working set that its count lends is its items
module _ (v : List ℕ) (n : ℕ) (s : ValidSet working_places v) (e : n ≡ length (items_at working_places v)) where
  pub lent_items : take n v ≡ items_at working_places v
  lent_items = ap (λ (k : ℕ). take k v) (e ∙ s.counted) ∙ lent working_places v s

  pub lent_count : n ≡ length (take n v)
  lent_count = e ∙ ap length (sym lent_items)

  pub lent_few : length (take n v) ≤ working_places
  lent_few = omega (arith, lent_count, s.counted, s.fits)

pub capped : (v r l : List ℕ) (most : ℕ) → HoldsSet working_places r (take most (items_at working_places v)) → HoldsSet working_places v l → HoldsSet working_places r (take most l)
capped v r l most h k = set_then working_places (take most) h k

pub fill_fits : (v m xs : List ℕ) (len n : ℕ) → HoldsSet working_places m (take (len - n) xs) → n ≡ length (items_at working_places v) → n < len → len ≤ working_places
    → length (items_at working_places v) + length (items_at working_places m) ≤ working_places
fill_fits v m xs len n h e f g = omega (arith, set_length working_places m (take (len - n) xs) h, few_taken (len - n) xs)

-- the items l after `work::shuffle_by_draws`
abbrev pub shuffled_by : Work → List ℕ → List ℕ → List ℕ
shuffled_by w ds l = shuffle (drop w.drawn ds) l

-- the draws of a shuffle, by the list that the set holds
pub shuffle_of : (w r : Work) (ds v xs : List ℕ) → DrawsAny (draw_shuffle (items_at working_places v)) w r ds → HoldsSet working_places v xs → DrawsAny (draw_shuffle xs) w r ds
shuffle_of w r ds v xs k h = subst (λ (l : List ℕ). DrawsAny (draw_shuffle l) w r ds) h.items k

pub filled_up : (w a : Work) (ds v r m m₀ xs : List ℕ) (len n : ℕ) → DrawsAny (draw_shuffle (items_at working_places m₀)) w a ds → HoldsSet working_places r (items_at working_places v ++ items_at working_places m) → HoldsSet working_places m (take (len - n) (shuffled_by w ds (items_at working_places m₀)))
    → HoldsSet working_places m₀ xs → n ≡ length (items_at working_places v) → DrawsAny (draw_shuffle xs) w a ds × HoldsSet working_places r (items_at working_places v ++ take (len - length (items_at working_places v)) (shuffled_by w ds xs))
filled_up w a ds v r m m₀ xs len n d h k q e = (
  shuffle_of w a ds m₀ xs d q,
  record {
    valid = h.valid;
    items = h.items ∙ ap (λ (l : List ℕ). items_at working_places v ++ l) (k.items ∙ (λ i. take (len - e i) (shuffled_by w ds (q.items i))));
  },
)
