-- Four writes, each from where the one before it ended, are one write of the header's fields.
use Prim.Native.Nat.{ℕ, ◌+◌, ◌*◌}
use mathlib.Core.Path.{◌≡◌, ap, ◌∙◌}
use mathlib.Core.List.{List, [], ◌∷◌}
use native.Mathlib.Omega.{arith}
use Rattle.base_lists.specs.Bytes.{le, overwrite}
use Rattle.base_lists.proofs.Bytes.{then, length_le}
use Rattle.record.specs.declared.Header.{Header}
use Rattle.record_convert.specs.Convert.{tail_bytes, header_fields}
use Rattle.record_convert.proofs.write_header.Goals as goal

parts : (w : ℕ) (h : Header) (out o₁ o₂ o₃ o₄ : List ℕ) → o₄ ≡ overwrite o₃ (4 + 2 * w) (tail_bytes h) → o₃ ≡ overwrite o₂ (4 + w) (le w h.second)
    → o₂ ≡ overwrite o₁ 4 (le w h.peer) → o₁ ≡ overwrite out 0 (h.kind ∷ h.message ∷ h.flags ∷ h.nodes ∷ []) → o₄ ≡ overwrite out 0 (header_fields w h)
unfolding header_fields
parts w h out o₁ o₂ o₃ o₄ s r q p =
    then out 0 (h.kind ∷ h.message ∷ h.flags ∷ h.nodes ∷ []) _ p
    (then o₁ 4 (le w h.peer) _ q (then o₂ (4 + w) (le w h.second) _ r s (omega (arith, length_le w h.second))) (omega (arith, length_le w h.peer))) (omega arith)

pub returns : goal.returns
returns c =
    parts _ _ _ _ _ _ _ c.put_tail.ensures c.put_number-2.ensures c.put_number.ensures c.write_bytes.ensures
    ∙ ap (λ (w : ℕ). overwrite c.args.out.now 0 (header_fields w c.args.h)) c.width-w.ensures
