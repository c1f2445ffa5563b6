-- Laws of the text of an event: what each function writes, from what its calls wrote.
-- Assumes nothing.
use Prim.Native.Nat.{ℕ}
use mathlib.Core.Path.{◌≡◌, sym, ap, ◌∙◌}
use mathlib.Core.List.{List, [], ◌∷◌}
use native.Mathlib.Omega.{arith}
use lib.ListN.{length, take, drop}
use borrow.Author.Tests.{eq-eqb, ne_eqb}
use Rattle.base_lists.proofs.Choice.{choose_yes, choose_no}
use Rattle.base_peer.specs.Held.{fields_in}
use Rattle.base_columns.specs.Columns.{word_bytes}
use Rattle.record.specs.Walk.{records_in}
use Rattle.hyparview_state.specs.declared.RefillLimit.{RefillLimit}
use Rattle.hyparview_state.specs.Layout as layout
use Rattle.hyparview_state.specs.Unpack.{own_at, limit_at}
use Rattle.run_text.specs.declared.Page.{Page}
use Rattle.run_text.specs.Text.{Prints}
use Rattle.run_text.specs.Numbers.{decimal}
use Rattle.run_text.specs.Lines.{end_line}
use Rattle.run_text.proofs.Written.{then, named}
use Rattle.trace_text.specs.Hex.{hex, hex_lines}
use Rattle.trace_text.specs.Items.{ascii}
use Rattle.trace_text.specs.Event.{own_field, refill_field, state_line, trace_event}

-- ---- own data and the limit on refills

module _ (xs : List ℕ) (t : Page) where
  pub own_none : (r : Page) → (layout.own_present xs ≡ 1 → ⊥) → Prints (45 ∷ []) t r → Prints (drop (length (ascii "state me=")) (own_field (fields_in (own_at xs)))) t r
  unfolding own_field fields_in own_at ascii
  own_none r h k = named (ap (λ (d : _). drop (length (ascii "state me=")) (own_field d)) (sym (choose_no _ _ _ (ne_eqb (layout.own_present xs) 1 h)))) k

  pub own_some : (a r : Page) (b : List ℕ) → layout.own_present xs ≡ 1 → b ≡ word_bytes (layout.own_low xs) (layout.own_high xs) → Prints (hex (take (layout.own_len xs) b)) a r
      → Prints (120 ∷ []) t a → Prints (drop (length (ascii "state me=")) (own_field (fields_in (own_at xs)))) t r
  unfolding own_field fields_in own_at ascii
  own_some a r b h e k₂ k₁ =
      named (ap (λ (c : List ℕ). 120 ∷ hex (take (layout.own_len xs) c)) e ∙ ap (λ (d : _). drop (length (ascii "state me=")) (own_field d)) (sym (choose_yes _ _ _ (eq-eqb (layout.own_present xs) 1 h)))) (then k₂ k₁)

  pub limit_automatic : (r : Page) → layout.refill_kind xs ≡ 0 → Prints (65 ∷ []) t r → Prints (drop (length (ascii " refill=")) (refill_field (limit_at xs))) t r
  unfolding refill_field limit_at ascii
  limit_automatic r h k = named (ap (λ (l : RefillLimit). drop (length (ascii " refill=")) (refill_field l)) (sym (choose_yes _ _ _ (eq-eqb (layout.refill_kind xs) 0 h)))) k

  pub limit_requests : (a r : Page) → layout.refill_kind xs ≡ 1 → Prints (decimal (layout.refill_requests xs)) a r → Prints (82 ∷ []) t a
      → Prints (drop (length (ascii " refill=")) (refill_field (limit_at xs))) t r
  unfolding refill_field limit_at ascii
  limit_requests a r h k₂ k₁ =
      named (ap (λ (l : RefillLimit). drop (length (ascii " refill=")) (refill_field l)) (sym (choose_no _ _ _ (ne_eqb (layout.refill_kind xs) 0 (λ z. omega (arith, z, h))) ∙ choose_yes _ _ _ (eq-eqb (layout.refill_kind xs) 1 h)))) (then k₂ k₁)

  pub limit_recovery : (r : Page) → (layout.refill_kind xs ≡ 0 → ⊥) → (layout.refill_kind xs ≡ 1 → ⊥) → Prints (86 ∷ []) t r → Prints (drop (length (ascii " refill=")) (refill_field (limit_at xs))) t r
  unfolding refill_field limit_at ascii
  limit_recovery r z h k = named (ap (λ (l : RefillLimit). drop (length (ascii " refill=")) (refill_field l)) (sym (choose_no _ _ _ (ne_eqb (layout.refill_kind xs) 0 z) ∙ choose_no _ _ _ (ne_eqb (layout.refill_kind xs) 1 h)))) k

-- ---- the event

pub event_put : (out : List ℕ) (code n : ℕ) (xs : List ℕ) (t a b r : Page) → Prints (state_line xs) b r → Prints (end_line code n) a b → Prints (hex_lines (records_in out)) t a → Prints (trace_event out code n xs) t r
unfolding trace_event
event_put out code n xs t a b r k₃ k₂ k₁ = then (then k₃ k₂) k₁
