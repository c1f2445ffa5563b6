-- By cases on the mark, data is sound as the definition has it, and the other two tests are regrouped.
use Prim.Native.Nat.{ℕ}
use mathlib.Core.Path.{◌≡◌}
use mathlib.Core.Bool.{Bool, ◌&&◌}
use Rattle.std.proofs.Math.Bool.{and_assoc}
use lib.Dec.{eqb, leb}
use borrow.Author.Tests.{eq-eqb, ne_eqb}
use Rattle.base_lists.specs.Lists.{choose}
use Rattle.record.specs.Read.{data_ok}
use Rattle.record.specs.declared.Entry.{Entry}
use Rattle.record.proofs.Laws.{entry_known}
use Rattle.record.proofs.entry_ok.Goals.{then-e-eq0, else-e-eq0}
use Rattle.record.proofs.entry_ok.Goals as goal

module _ (e : Entry) (at : ℕ) (d : Bool) where
  absent : e.present ≡ 0 → d ≡ (eqb e.offset 0 && eqb e.len 0) → d ≡ data_ok e at
  unfolding data_ok choose
  absent p q = rw (eq-eqb _ _ p, q)

  there : (e.present ≡ 0 → ⊥) → d ≡ (eqb e.present 1 && eqb e.offset at && leb e.len 16) → d ≡ data_ok e at
  unfolding data_ok choose
  there p q = rw (ne_eqb _ _ p, q, and_assoc)

pub returns : goal.returns
returns c =
    entry_known _ _ _ _ _ _ _
    (elim c.if-e-eq0.branch [ then-e-eq0 w ↦ absent _ _ _ w.if-e-eq0.true w.data-is | else-e-eq0 w ↦ there _ _ _ w.if-e-eq0.false w.data-is ])
    c.is_message.ensures c.is_message-2.ensures c.is_data-known.ensures
