-- By cases on Neighbor and Disconnect, which alone have flags.
use Prim.Native.Nat.{ℕ}
use mathlib.Core.Path.{◌≡◌}
use mathlib.Core.Bool.{Bool, true, false}
use lib.Dec.{leb}
use Rattle.base_lists.specs.Lists.{choose}
use Rattle.record.specs.Read.{is_message, flags_ok}
use Rattle.record.specs.declared.Header.{Header}
use Rattle.record.proofs.Laws.{at_most_none}
use Rattle.record.proofs.Header.flags_ok.Goals.{then-is_message, else-is_message+then-is_message-2, else-is_message+else-is_message-2}
use Rattle.record.proofs.Header.flags_ok.Goals as goal

module _ (h : Header) (t u : Bool) (most : ℕ) (p : t ≡ is_message 4 h) where
  neighbor : t ≡ true → most ≡ 1 → leb h.flags most ≡ flags_ok h
  unfolding flags_ok choose
  neighbor a m = rw (← p, a, m)

  module _ (a : t ≡ false) (q : u ≡ is_message 5 h) where
    disconnect : u ≡ true → most ≡ 3 → leb h.flags most ≡ flags_ok h
    unfolding flags_ok choose
    disconnect b m = rw (← p, ← q, a, b, m)

    other : u ≡ false → most ≡ 0 → leb h.flags most ≡ flags_ok h
    unfolding flags_ok choose
    other b m = rw (← p, ← q, a, b, m) (at_most_none h.flags)

pub returns : goal.returns
returns c =
    elim c.if-is_message.branch [
      | then-is_message w ↦ neighbor _ _ true _ c.is_message.ensures w.if-is_message.true w.most-is
      | else-is_message+then-is_message-2 w ↦ disconnect _ _ _ _ c.is_message.ensures w.if-is_message.false w.is_message-else-is_message.ensures w.if-is_message-2.true w.most-is
      | else-is_message+else-is_message-2 w ↦ other _ _ _ _ c.is_message.ensures w.if-is_message.false w.is_message-else-is_message.ensures w.if-is_message-2.false w.most-is
    ]
