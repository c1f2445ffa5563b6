-- Laws of a pin: the two tests are the definition's, and where they pass there is a place for it.
-- Assumes nothing.
use Prim.Native.Nat.{ℕ, ◌+◌, ◌-◌, ◌≤◌}
use mathlib.Core.Path.{◌≡◌, sym, ap, ◌∙◌}
use mathlib.Core.Bool.{Bool, true, false, ◌||◌}
use mathlib.Core.List.{List}
use native.Mathlib.Omega.{arith}
use lib.ListN.{length, get_or}
use lib.Dec.{ltb}
use borrow.Author.Tests.{ltb-true, ltb-false, lt-ltb, le-ltb}
use Rattle.base_lists.specs.Lists.{mem, insert}
use Rattle.base_lists.proofs.Choice.{split}
use Rattle.base_lists.proofs.Members.{length_insert}
use Rattle.base_util.specs.Section.{items_at}
use Rattle.spec_hyparview.specs.Station.{in_active, is_pinned, most_pins}
use Rattle.spec_hyparview.specs.Run.{on, require}
use Rattle.spec_hyparview.specs.Events.{pins_left, note_pin, require_neighbor, pin_neighbor, handle_pin}
use Rattle.spec_hyparview.proofs.Tested.{ranges_of}
use Rattle.work.specs.declared.Work.{Work}
use Rattle.hyparview_state.specs.Layout.{active_view_capacity, pins_count, pins_part, pins_places}
use Rattle.hyparview_state.specs.Unpack.{unpack, station_of, settings_at, PackedState}
use Rattle.hyparview_state.specs.Work.{work_of, run_of, Changes, ChangesAny}
use Rattle.hyparview_state.proofs.Access.{of_settings, of_pins, count_pins}
use Rattle.hyparview_state.proofs.Bridge.{change_then, require_said}
use Rattle.hyparview_state.proofs.Any.{required_at}

one_less : (n c : ℕ) → ltb (n + 1) c ≡ ltb n (c - 1)
one_less n c =
    split (ltb (n + 1) c) (λ t. t ∙ sym (lt-ltb n (c - 1) (omega (arith, ltb-true (n + 1) c t))))
    (λ t. t ∙ sym (le-ltb n (c - 1) (omega (arith, ltb-false (n + 1) c t))))

or_more : (a b d : Bool) → (b ≡ true → d ≡ true) → (a || b) ≡ true → (a || d) ≡ true
or_more true b d h e = e
or_more false b d h e = h e

pub few_pins : (xs : List ℕ) → PackedState xs → get_or xs pins_count 0 ≤ pins_places
few_pins xs v = omega (arith, (of_pins xs v).fits, (of_pins xs v).counted, count_pins xs (of_pins xs v))

module _ (xs : List ℕ) (p : ℕ) (v : PackedState xs) where
  pub left_known : (a : Bool) → a ≡ mem p (items_at pins_places (pins_part xs)) → (a || ltb (get_or xs pins_count 0 + 1) (active_view_capacity xs)) ≡ (is_pinned p (unpack xs) || pins_left (unpack xs))
  unfolding is_pinned pins_left most_pins unpack station_of settings_at
  left_known a y =
      let few = one_less (get_or xs pins_count 0) (active_view_capacity xs) ∙ ap (λ (n : ℕ). ltb n (active_view_capacity xs - 1)) (sym (count_pins xs (of_pins xs v))) in
      λ i. y i || few i

  pub pin_place : (w a : Work) (t : Bool) → t ≡ (is_pinned p (unpack xs) || pins_left (unpack xs)) → ChangesAny (require 18 t) w a → a.code ≡ 0 → length (insert p (items_at pins_places (pins_part xs))) ≤ pins_places
  unfolding is_pinned pins_left most_pins unpack station_of settings_at
  pin_place w a t e k z =
      let f = of_pins xs v in
      let items = items_at pins_places (pins_part xs) in
      let c = active_view_capacity xs in
      let few = (ranges_of (settings_at xs) (of_settings xs v)).few_slots in
      let h = sym e ∙ (require_said (work_of w xs) (work_of a xs) 18 t (omega arith) (required_at xs v _ _ k) z).1 in
      length_insert p pins_places items (or_more (mem p items) (ltb (length items) (c - 1)) (ltb (length items) pins_places) (λ l. lt-ltb (length items) pins_places (omega (arith, few, ltb-true (length items) (c - 1) l))) h) (omega (arith, f.fits, f.counted))

  pub pin_noted : (w a b r : Work) (ys : List ℕ) (s t : Bool) → s ≡ in_active p (unpack xs) → t ≡ (is_pinned p (unpack xs) || pins_left (unpack xs)) → Changes (on (note_pin p)) (work_of b xs) (work_of r ys) → ChangesAny (require 18 t) a b → ChangesAny (require 17 s) w a
      → Changes (handle_pin p) (work_of w xs) (work_of r ys)
  unfolding handle_pin pin_neighbor require_neighbor run_of
  pin_noted w a b r ys s t d e k₃ k₂ k₁ =
      change_then _ (λ ds out. rw d) (change_then (pin_neighbor p) (λ ds out. rw e) k₃ (required_at xs v _ _ k₂)) (required_at xs v _ _ k₁)
