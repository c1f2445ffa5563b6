-- The data of some peers alone: each of the others is taken out, from the last on.
-- Assumes nothing.
use Prim.Native.Nat.{ℕ, suc, ◌+◌, ◌-◌, ◌≤◌, ◌<◌}
use mathlib.Core.Path.{◌≡◌, refl, sym, ap, ◌∙◌}
use mathlib.Core.Bool.{Bool, true, false}
use mathlib.Core.List.{List, [], ◌∷◌, ◌++◌, append_assoc}
use native.Mathlib.Omega.{arith}
use lib.ListN.{length, take, drop, get_or, length-append, drop_of_length-le}
use lib.Seq.{drop-cons, get_or-take}
use Rattle.base_lists.specs.Lists.{mem, subset, shift_remove}
use Rattle.base_lists.specs.Maps.{keys, cut, retain}
use Rattle.base_lists.proofs.Array.{length_shift_remove}
use Rattle.base_lists.proofs.Maps.{length_keys, keys_cut, retain_cut, retain_all}
use Rattle.base_lists.proofs.Rising.{without_at, drop_shift_remove}
use Rattle.base_lists.proofs.Tests.{both_true}
use Rattle.base_util.specs.Section.{working_places, items_at, ValidSet, HoldsSet}
use Rattle.base_util.proofs.Sets.{lent}
use Rattle.base_columns.specs.Columns.{active_places, known_places, numbers_at, ValidNumbers, count_of, data_map_at, ValidDataWords, HoldsDataWords}
use Rattle.base_columns.proofs.Numbers.{numbers_lent}
use Rattle.base_columns.proofs.Data.{peers_lent}

module _ (n : ℕ) (m : List ℕ) (v : ValidDataWords n m) where
  -- the peers of both views and of the requests, where they lie
  pub known_lent : (a p q : List ℕ) (r : Bool) → ValidSet active_places a → ValidSet working_places p → ValidNumbers working_places q → r ≡ subset (take (count_of n m) m) (take (get_or a active_places 0) a ++ (take (get_or p working_places 0) p ++ take (get_or q 64 0) q))
      → r ≡ subset (keys (data_map_at n m)) (items_at active_places a ++ (items_at working_places p ++ keys (numbers_at working_places q)))
  known_lent a p q r x y z e = e ∙ (λ i. subset (peers_lent n m v i) (lent active_places a x i ++ (lent working_places p y i ++ numbers_lent working_places q z i)))

  key_read : (i : ℕ) → i < count_of n m → get_or (keys (data_map_at n m)) i 0 ≡ get_or m i 0
  key_read i h = ap (λ (l : List ℕ). get_or l i 0) (sym (peers_lent n m v)) ∙ get_or-take (count_of n m) m i 0 h

-- what is to be retained is the same, and the peers from place i on are among those whose data stays
pub record Retaining (n k : ℕ) (s m₀ m : List ℕ) (i : ℕ) : Type 0 where
  pub valid : ValidDataWords n m
  pub same : retain (items_at k s) (data_map_at n m) ≡ retain (items_at k s) (data_map_at n m₀)
  pub low : i ≤ length (data_map_at n m)
  pub later : subset (drop i (keys (data_map_at n m))) (items_at k s) ≡ true
  pub long : length m ≡ length m₀

pub retaining_start : (n k : ℕ) (s m : List ℕ) (c : ℕ) → ValidDataWords n m → c ≡ length (data_map_at n m) → Retaining n k s m m c
unfolding subset
retaining_start n k s m c v q =
    let z : drop c (keys (data_map_at n m)) ≡ [] = drop_of_length-le (keys (data_map_at n m)) {i = c} (omega (arith, q, length_keys (data_map_at n m))) in
    record { valid = v; same = refl; low = omega (arith, q); later = ap (λ (l : List ℕ). subset l (items_at k s)) z; long = refl }

module _ (n k : ℕ) (s m₀ m : List ℕ) (i : ℕ) (r : Retaining n k s m₀ m i) (h : 0 < i) where
  abbrev ks : List ℕ
  ks = keys (data_map_at n m)

  within : i - 1 < length ks
  within = omega (arith, r.low, length_keys (data_map_at n m))

  here : get_or ks (i - 1) 0 ≡ get_or m (i - 1) 0
  here = key_read n m r.valid (i - 1) (omega (arith, r.low, r.valid.counted))

  after : suc (i - 1) ≡ i
  after = omega arith

  pub retaining_valid : ValidDataWords n m
  retaining_valid = r.valid

  pub retaining_next : (b : Bool) → b ≡ mem (get_or m (i - 1) 0) (items_at k s) → b ≡ true → Retaining n k s m₀ m (i - 1)
  unfolding subset
  retaining_next b q e = record {
    valid = r.valid;
    same = r.same;
    low = omega (arith, r.low);
    later =
        ap (λ (l : List ℕ). subset l (items_at k s)) (drop-cons ks (i - 1) 0 within ∙ ap (λ (j : ℕ). get_or ks (i - 1) 0 ∷ drop j ks) after)
        ∙ both_true _ _ (ap (λ (x : ℕ). mem x (items_at k s)) here ∙ sym q ∙ e) r.later;
    long = r.long;
  }

  pub retaining_cut : (b : Bool) (m₁ : List ℕ) → b ≡ mem (get_or m (i - 1) 0) (items_at k s) → b ≡ false → HoldsDataWords n m₁ (cut (get_or m (i - 1) 0) (data_map_at n m)) → Retaining n k s m₀ m₁ (i - 1)
  retaining_cut b m₁ q e w =
      let p = get_or m (i - 1) 0 in
      let ps = items_at k s in
      let f : keys (data_map_at n m₁) ≡ shift_remove (i - 1) ks = ap keys w.items ∙ keys_cut p (data_map_at n m) ∙ without_at ks (i - 1) p r.valid.rises within here in
      record {
        valid = w.valid;
        same = ap (retain ps) w.items ∙ retain_cut p ps (data_map_at n m) (sym q ∙ e) ∙ r.same;
        low = omega (arith, r.low, ap length f, length_shift_remove (i - 1) ks within, length_keys (data_map_at n m₁), length_keys (data_map_at n m));
        later = ap (λ (l : List ℕ). subset (drop (i - 1) l) ps) f ∙ ap (λ (l : List ℕ). subset l ps) (drop_shift_remove (i - 1) ks) ∙ ap (λ (j : ℕ). subset (drop j ks) ps) after ∙ r.later;
        long = w.valid.long ∙ sym r.valid.long ∙ r.long;
      }

pub retaining_end : (n k : ℕ) (s m₀ m : List ℕ) (i : ℕ) → Retaining n k s m₀ m i → i ≤ 0 → HoldsDataWords n m (retain (items_at k s) (data_map_at n m₀))
retaining_end n k s m₀ m i r h =
    let z : i ≡ 0 = omega arith in
    record { valid = r.valid; items = sym (retain_all (items_at k s) (data_map_at n m) (rw z at r.later)) ∙ r.same }

-- ---- the peers whose data may be held

module _ (a p : List ℕ) (va : ValidSet active_places a) (vp : ValidSet working_places p) where
  pub room_active : (v : List ℕ) → HoldsSet known_places v [] → length (items_at known_places v) + length (items_at active_places a) ≤ known_places
  room_active v h = omega (arith, ap length h.items, va.counted, va.fits)

  pub room_passive : (v w : List ℕ) → HoldsSet known_places v [] → HoldsSet known_places w (items_at known_places v ++ items_at active_places a) → length (items_at known_places w) + length (items_at working_places p) ≤ known_places
  room_passive v w h k = omega (arith, ap length h.items, ap length k.items, length-append (items_at known_places v) (items_at active_places a), va.counted, va.fits, vp.counted, vp.fits)

  module _ (v w x : List ℕ) (h : HoldsSet known_places v []) (k : HoldsSet known_places w (items_at known_places v ++ items_at active_places a)) (l : HoldsSet known_places x (items_at known_places w ++ items_at working_places p)) where
    views_are : items_at known_places x ≡ items_at active_places a ++ items_at working_places p
    views_are = l.items ∙ ap (λ (xs : List ℕ). xs ++ items_at working_places p) (k.items ∙ ap (λ (xs : List ℕ). xs ++ items_at active_places a) h.items)

    pub room_asked : (t ks : List ℕ) → HoldsSet working_places t ks → length (items_at known_places x) + length (items_at working_places t) ≤ known_places
    room_asked t ks g = omega (arith, ap length views_are, length-append (items_at active_places a) (items_at working_places p), va.counted, va.fits, vp.counted, vp.fits, g.valid.counted, g.valid.fits)

    pub peers_known : (t ks y : List ℕ) → HoldsSet working_places t ks → HoldsSet known_places y (items_at known_places x ++ items_at working_places t) → HoldsSet known_places y (items_at active_places a ++ (items_at working_places p ++ ks))
    peers_known t ks y g z = record {
      valid = z.valid;
      items = z.items ∙ ((λ i. views_are i ++ g.items i) ∙ append_assoc (items_at active_places a) (items_at working_places p) ks);
    }
