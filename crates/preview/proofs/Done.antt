-- The event done on a copy is what the definition says of the words themselves.
-- Assumes nothing.
use Prim.Native.Nat.{ℕ}
use mathlib.Core.Path.{◌≡◌, sym, ap, ◌∙◌}
use mathlib.Core.Bool.{false}
use mathlib.Core.List.{List}
use lib.ListN.{length}
use lib.Dec.{eqb}
use borrow.Author.Tests.{eq-eqb, ne_eqb}
use Rattle.base_lists.specs.Lists.{choose}
use Rattle.base_lists.proofs.Choice.{choose_yes, choose_no}
use Rattle.spec_hyparview.specs.Sides.{Side}
use Rattle.hyparview_state.specs.Layout.{words}
use Rattle.hyparview_rules.specs.Ok.{packed_ok}
use Rattle.hyparview.specs.Room.{output_room}
use Rattle.hyparview.specs.Handled.{Outcome, refused_words, handled_from}
use Rattle.preview.specs.declared.Count.{Count}
use Rattle.preview.specs.declared.Price.{Price}
use Rattle.preview.specs.Preview.{priced_records, no_price, price, preview}

no_state : (xs : List ℕ) → (length xs ≡ words → ⊥) → packed_ok xs ≡ false
unfolding packed_ok
no_state xs n = rw (ne_eqb (length xs) words n)

-- words of another number are met with 2
pub other_length : (xs b ds : List ℕ) (side : Side) (r : Price) → (length xs ≡ words → ⊥) → r ≡ no_price 2 → r ≡ preview xs side b ds
unfolding preview price handled_from refused_words choose
other_length xs b ds side r n e = e ∙ sym (ap price (choose_no _ _ _ (no_state xs n)))

pub refused : (o : Outcome) (r : Price) → r ≡ no_price o.code → (o.code ≡ 0 → ⊥) → r ≡ price o
unfolding price
refused o r e n = e ∙ sym (choose_no _ _ _ (ne_eqb o.code 0 n))

pub accepted : (o : Outcome) (n : Count) → n ≡ priced_records o.output → o.code ≡ 0
    → record { code = o.code; messages = n.messages; bytes = n.bytes; draws = o.draws } ≡ price o
unfolding price
accepted o n e z =
    ap (λ (x : Count). record { code = o.code; messages = x.messages; bytes = x.bytes; draws = o.draws }) e
    ∙ sym (choose_yes _ _ _ (eq-eqb o.code 0 z))

-- on a copy of the words, with as many bytes of output
pub on_copy : (xs ys b ds : List ℕ) (side : Side) (room : ℕ) (o : Outcome) (r : Price)
    → ys ≡ xs → room ≡ output_room → o ≡ handled_from side ys b ds room → r ≡ price o → r ≡ preview xs side b ds
unfolding preview
on_copy xs ys b ds side room o r c m e k =
    let p : handled_from side ys b ds room ≡ handled_from side xs b ds output_room = rw (c, m) in
    k ∙ ap price (e ∙ p)
