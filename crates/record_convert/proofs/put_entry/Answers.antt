-- Three writes, each from where the one before it ended, are one write of the entry's fields.
use Prim.Native.Nat.{ℕ, ◌+◌}
use mathlib.Core.Path.{◌≡◌, ap, ◌∙◌}
use mathlib.Core.List.{List, [], ◌∷◌}
use native.Mathlib.Omega.{arith}
use Rattle.base_lists.specs.Bytes.{le, overwrite}
use Rattle.base_lists.proofs.Bytes.{then, length_le}
use Rattle.record.specs.declared.Entry.{Entry}
use Rattle.record_convert.specs.Convert.{entry_fields}
use Rattle.record_convert.proofs.put_entry.Goals as goal

parts : (w at : ℕ) (e : Entry) (out o₁ o₂ o₃ : List ℕ) → o₃ ≡ overwrite o₂ (at + (w + 2)) (e.len ∷ e.present ∷ []) → o₂ ≡ overwrite o₁ (at + w) (le 2 e.offset)
    → o₁ ≡ overwrite out at (le w e.id) → o₃ ≡ overwrite out at (entry_fields w e)
unfolding entry_fields
parts w at e out o₁ o₂ o₃ r q p =
    then out at (le w e.id) _ p (then o₁ (at + w) (le 2 e.offset) _ q r (omega (arith, length_le 2 e.offset))) (omega (arith, length_le w e.id))

pub returns : goal.returns
returns c =
    parts _ _ _ _ _ _ _ c.write_bytes.ensures c.put_number-2.ensures c.put_number.ensures
    ∙ ap (λ (w : ℕ). overwrite c.args.out.now c.args.at (entry_fields w c.args.e)) c.width-w.ensures
