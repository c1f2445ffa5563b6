-- No preview has code 9: with 8,192 bytes of output no event is answered 9, from either side.
-- Assumes nothing.
use Prim.Native.Nat.{ℕ}
use mathlib.Core.Path.{◌≡◌, refl, sym, ap, ◌∙◌}
use mathlib.Core.Bool.{true}
use mathlib.Core.List.{List}
use native.Mathlib.Omega.{arith}
use lib.Dec.{eqb}
use Rattle.base_lists.proofs.Choice.{by_choice, split, choose_yes}
use Rattle.spec_hyparview.specs.Rules.{all_under}
use Rattle.spec_hyparview.specs.Handle as P
use Rattle.spec_hyparview.specs.Sides.{Side, draws_from, handle_from}
use Rattle.spec_hyparview.proofs.Sides.{by_side}
use Rattle.spec_hyparview.proofs.Enough.{enough}
use Rattle.hyparview_state.specs.Unpack.{unpack}
use Rattle.hyparview_rules.specs.Ok.{state_ok}
use Rattle.hyparview.specs.Room.{output_room}
use Rattle.hyparview.specs.Handled.{Outcome, packed_answer, refused_words, handled_from}
use Rattle.hyparview.proofs.Opening.{packed_of, rules_of}
use Rattle.hyparview.proofs.Sides.{from_two}
use Rattle.preview.specs.declared.Price.{Price}
use Rattle.preview.specs.Preview.{no_price, price, preview, NeverNine}

pub price_code : (o : Outcome) → (price o).code ≡ o.code
unfolding price no_price
price_code o = by_choice (λ (p : Price). p.code ≡ o.code) (eqb o.code 0) (λ _. refl) (λ _. refl)

module _ (xs : List ℕ) (side : Side) (b ds : List ℕ) (room : ℕ) where
  -- at words that keep the rules the call is the definition's
  pub keeps : state_ok xs ≡ true → handled_from side xs b ds room ≡ packed_answer (handle_from side (unpack xs) b ds room)
  unfolding handled_from
  keeps ok = choose_yes _ _ _ (packed_of xs ok)

not_nine : (xs : List ℕ) (side : Side) (b ds : List ℕ) → all_under 256 b ≡ true → state_ok xs ≡ true → (handle_from side (unpack xs) b ds output_room).code ≡ 9 → ⊥
unfolding P.refusal
not_nine xs side b ds bytes ok =
    by_side (λ (a : P.Result). a.code ≡ 9 → ⊥) side (unpack xs) b ds output_room (λ e. omega (arith, e))
    (λ e. (enough (unpack xs) (rules_of xs ok) (draws_from side ds) output_room b bytes).no_nine (omega arith) e)

pub never_nine : NeverNine
unfolding preview packed_answer refused_words
never_nine xs side b ds bytes nine =
    let code : (handled_from side xs b ds output_room).code ≡ 9 = sym (price_code _) ∙ nine in
    split (state_ok xs) (λ ok. not_nine xs side b ds bytes ok (sym (ap (λ (o : Outcome). o.code) (keeps xs side b ds output_room ok)) ∙ code))
    (λ broken. let two : 2 ≡ 9 = ap (λ (o : Outcome). o.code) (from_two side xs b ds output_room broken) ∙ code in omega (arith, two))
