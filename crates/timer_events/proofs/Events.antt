-- What `timer_ok` says of an entry, both ways.
-- Assumes nothing.
use Prim.Native.Nat.{◌≤◌}
use mathlib.Core.Path.{◌≡◌, refl}
use mathlib.Core.Bool.{Bool, true, false, ◌&&◌, ◌||◌}
use native.Mathlib.Omega.{arith}
use lib.Dec.{ltb, leb, eqb}
use mir.Val.{Fits}
use mir.Syntax.{w8}
use borrow.Author.Tests.{eqb-true, eq-eqb, leb-true, le-leb, ltb-true, ltb-false}
use Rattle.base_lists.proofs.Choice.{or_true, and_left, and_right}
use Rattle.base_lists.proofs.Tests.{both_true}
use Rattle.timer_map.specs.Entries.{no_id, timer_ok}
use Rattle.timer_map.specs.declared.TimerMapEntry.{TimerMapEntry}

pub record Says (e : TimerMapEntry) : Type 0 where
  pub low : 1 ≤ e.item.kind
  pub high : e.item.kind ≤ 4
  pub bare : e.item.kind ≤ 2 → (e.item.peer ≡ 0) × (e.item.number ≡ 0)

pub says : (e : TimerMapEntry) → timer_ok e.item ≡ true → Says e
unfolding timer_ok
says e t =
    let k = e.item.kind in
    let f = eqb e.item.peer 0 && eqb e.item.number 0 in
    let u : (leb k 4 && ((ltb 2 k || f) && no_id e.item.id)) ≡ true = and_right (leb 1 k) _ t in
    record {
      low = leb-true 1 k (and_left (leb 1 k) _ t);
      high = leb-true k 4 (and_left (leb k 4) _ u);
      bare = λ h. or_true (ltb 2 k) f (and_left (ltb 2 k || f) _ (and_right (leb k 4) _ u)) (λ w. absurd (omega (arith, ltb-true 2 k w, h)))
          (λ w. (eqb-true e.item.peer 0 (and_left (eqb e.item.peer 0) _ w), eqb-true e.item.number 0 (and_right (eqb e.item.peer 0) _ w)));
    }

yes_or : (a b : Bool) → (a ≡ false → b ≡ true) → (a || b) ≡ true
yes_or true b h = refl
yes_or false b h = h refl

pub said : (e : TimerMapEntry) → Says e → no_id e.item.id ≡ true → timer_ok e.item ≡ true
unfolding timer_ok
said e s i =
    let k = e.item.kind in
    both_true (leb 1 k) _ (le-leb 1 k s.low)
    (both_true (leb k 4) _ (le-leb k 4 s.high)
    (both_true (ltb 2 k || (eqb e.item.peer 0 && eqb e.item.number 0)) _
    (yes_or (ltb 2 k) _ (λ w. let z = s.bare (ltb-false 2 k w) in
    both_true (eqb e.item.peer 0) _ (eq-eqb e.item.peer 0 z.0) (eq-eqb e.item.number 0 z.1))) i))

pub kind_fits : (e : TimerMapEntry) → timer_ok e.item ≡ true → Fits w8 e.item.kind
kind_fits e t = record { fits = omega (arith, (says e t).high) }
