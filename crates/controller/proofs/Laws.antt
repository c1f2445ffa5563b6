-- Laws of the calls: one for each way through `begun`, and that a refused call leaves the tally as it was.
-- Assumes nothing.
use Prim.Native.Nat.{ℕ}
use mathlib.Core.Path.{◌≡◌, ap, ◌∙◌}
use mathlib.Core.List.{List}
use borrow.Author.Tests.{eq-eqb, ne_eqb}
use Rattle.base_lists.specs.Lists.{choose}
use Rattle.base_lists.proofs.Choice.{choose_no}
use Rattle.base_timing.specs.declared.Config.{Config}
use Rattle.base_peer.specs.Data.{Data}
use Rattle.spec_hyparview.specs.Sides.{Side}
use Rattle.tally.specs.declared.Tally.{Tally}
use Rattle.tally.specs.Counts.{raised}
use Rattle.tally.specs.History.{no_messages}
use Rattle.hyparview.specs.Made.{made}
use Rattle.hyparview.specs.Handled.{handled_from}
use Rattle.controller.specs.Calls.{with_tally, begun, tallied, called}

-- the tally by default
pub zeroes : (t : Tally) → t.join ≡ 0 × (t.forward_join ≡ 0 × (t.shuffle ≡ 0 × (t.shuffle_reply ≡ 0 × (t.neighbor ≡ 0 × t.disconnect ≡ 0)))) → t ≡ no_messages
unfolding no_messages
zeroes t e = λ i. record { join = e.0 i; forward_join = e.1.0 i; shuffle = e.1.1.0 i; shuffle_reply = e.1.1.1.0 i; neighbor = e.1.1.1.1.0 i; disconnect = e.1.1.1.1.1 i }

module _ (xs : List ℕ) (t : Tally) (me : ℕ) (d : Data) (c : Config) (code : ℕ) (ys : List ℕ) (is : record { code = code; words = ys } ≡ made xs me d c) where
  pub begun_kept : code ≡ 2 → record { code = code; words = ys; tally = t } ≡ begun xs t me d c
  unfolding begun with_tally choose
  begun_kept e = let z : record { code = code; words = ys; tally = t } ≡ with_tally t (record { code = code; words = ys }) = rw (eq-eqb code 2 e) in z ∙ ap (with_tally t) is

  pub begun_zeroes : (r : Tally) → (code ≡ 2 → ⊥) → r ≡ no_messages → record { code = code; words = ys; tally = r } ≡ begun xs t me d c
  unfolding begun with_tally choose
  begun_zeroes r e q = let z : record { code = code; words = ys; tally = r } ≡ with_tally t (record { code = code; words = ys }) = rw (ne_eqb code 2 e, q) in z ∙ ap (with_tally t) is

-- "a refusal changes none"
pub refused_same : (side : Side) (xs : List ℕ) (t : Tally) (b ds : List ℕ) (room : ℕ) → ((called side xs t b ds room).code ≡ 0 → ⊥) → (called side xs t b ds room).tally ≡ t
unfolding called tallied raised
refused_same side xs t b ds room n = choose_no _ _ _ (ne_eqb (handled_from side xs b ds room).code 0 n)

pub called_by : (side : Side) (xs : List ℕ) (t : Tally) (b ds : List ℕ) (room code draws : ℕ) (ws out : List ℕ) (r : Tally) → r ≡ raised code out t → record { code = code; draws = draws; words = ws; output = out } ≡ handled_from side xs b ds room
    → record { code = code; draws = draws; words = ws; tally = r; output = out } ≡ called side xs t b ds room
unfolding called tallied
called_by side xs t b ds room code draws ws out r q e = ap (λ (y : Tally). record { code = code; draws = draws; words = ws; tally = y; output = out }) q ∙ ap (tallied t) e
