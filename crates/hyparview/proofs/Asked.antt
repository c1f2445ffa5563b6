-- What the queries answer of any words.
-- Assumes nothing.
use Prim.Native.Nat.{ℕ, ◌≤◌}
use mathlib.Core.Path.{◌≡◌, sym, ap, ◌∙◌, subst}
use mathlib.Core.Bool.{Bool, true, false, ◌&&◌, ◌||◌, or_assoc}
use mathlib.Core.List.{List, []}
use lib.ListN.{length, get_or, get_or-eq_default}
use Rattle.base_lists.specs.Maps.{has}
use Rattle.base_lists.proofs.Choice.{choose_yes, choose_no}
use Rattle.base_util.specs.Section.{items_at}
use Rattle.base_columns.specs.Columns.{numbers_at}
use Rattle.spec_hyparview.specs.Station.{in_active, is_requested}
use Rattle.hyparview_state.specs.Layout as layout
use Rattle.hyparview_state.specs.Unpack.{station_of, unpack, PackedState}
use Rattle.hyparview_rules.specs.Ok.{state_ok, Keeps}
use Rattle.hyparview_rules.proofs.Packed.{ok_state}
use Rattle.hyparview.specs.Queries.{wants_connection, wants_connection_in, is_neighbor, is_neighbor_in, neighbors_in, spare_addresses, spare_addresses_in}

asked_yes : (t x y : Bool) → t ≡ true → x ≡ y → x ≡ (t && y)
asked_yes t x y h e = rw h e

asked_no : (t y : Bool) → t ≡ false → false ≡ (t && y)
asked_no t y h = rw h

pub past_last : (xs : List ℕ) (n i : ℕ) → n ≡ length (items_at layout.active_places (layout.active_part xs)) → n ≤ i → 0 ≡ get_or (unpack xs).active i 0
unfolding unpack station_of
past_last xs n i e h = sym (get_or-eq_default (items_at layout.active_places (layout.active_part xs)) 0 (subst (λ (k : ℕ). k ≤ i) e h))

pub wanted_is : (xs : List ℕ) (p : ℕ) (a q j : Bool) → a ≡ in_active p (unpack xs) → q ≡ is_requested p (unpack xs) → j ≡ has p (numbers_at layout.joins_places (layout.joins_part xs))
    → (a || q || j) ≡ wants_connection p (unpack xs)
unfolding wants_connection is_requested has unpack station_of
wanted_is xs p a q j x y z = or_assoc a q j ∙ (λ i. x i || (y i || z i))

-- words that keep the rules, and the same as an array
module _ (xs ys : List ℕ) (k : Keeps xs ys) where
  pub ok_packed : PackedState ys
  ok_packed = (ok_state ys (ap state_ok k.same ∙ k.ok)).packed

  pub wanted : (p : ℕ) (a : Bool) → a ≡ wants_connection p (unpack ys) → a ≡ wants_connection_in p xs
  unfolding wants_connection_in
  wanted p a x = asked_yes (state_ok xs) _ _ k.ok (x ∙ ap (λ (l : List ℕ). wants_connection p (unpack l)) k.same)

  pub met : (p : ℕ) (a : Bool) → a ≡ in_active p (unpack ys) → a ≡ is_neighbor_in p xs
  unfolding is_neighbor_in is_neighbor
  met p a x = asked_yes (state_ok xs) _ _ k.ok (x ∙ ap (λ (l : List ℕ). in_active p (unpack l)) k.same)

  there : (unpack ys).active ≡ neighbors_in xs
  unfolding neighbors_in
  there = ap (λ (l : List ℕ). (unpack l).active) k.same ∙ sym (choose_yes (state_ok xs) _ _ k.ok)

  pub counted : (n : ℕ) → n ≡ length (items_at layout.active_places (layout.active_part ys)) → n ≡ length (neighbors_in xs)
  unfolding unpack station_of
  counted n q = q ∙ ap length there

  pub named : (i n : ℕ) → n ≡ get_or (unpack ys).active i 0 → n ≡ get_or (neighbors_in xs) i 0
  named i n q = q ∙ ap (λ (l : List ℕ). get_or l i 0) there

  pub spares : (n : ℕ) → n ≡ length (items_at layout.passive_places (layout.passive_part ys)) → n ≡ spare_addresses_in xs
  unfolding spare_addresses_in spare_addresses unpack station_of
  spares n q = q ∙ ap (λ (l : List ℕ). spare_addresses (unpack l)) k.same ∙ sym (choose_yes (state_ok xs) _ _ k.ok)

module _ (xs : List ℕ) (h : state_ok xs ≡ false) where
  pub wanted_not : (p : ℕ) → false ≡ wants_connection_in p xs
  unfolding wants_connection_in
  wanted_not p = asked_no (state_ok xs) _ h

  pub met_not : (p : ℕ) → false ≡ is_neighbor_in p xs
  unfolding is_neighbor_in
  met_not p = asked_no (state_ok xs) _ h

  nobody : [] ≡ neighbors_in xs
  unfolding neighbors_in
  nobody = sym (choose_no (state_ok xs) _ _ h)

  pub counted_none : 0 ≡ length (neighbors_in xs)
  counted_none = ap length nobody

  pub named_none : (i : ℕ) → 0 ≡ get_or (neighbors_in xs) i 0
  named_none i = ap (λ (l : List ℕ). get_or l i 0) nobody

  pub spares_none : 0 ≡ spare_addresses_in xs
  unfolding spare_addresses_in
  spares_none = sym (choose_no (state_ok xs) _ _ h)
