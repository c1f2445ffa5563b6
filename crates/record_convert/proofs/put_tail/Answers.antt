-- Three writes, each from where the one before it ended, are one write of the fields behind the peers.
use Prim.Native.Nat.{ℕ, ◌+◌}
use mathlib.Core.Path.{◌≡◌}
use mathlib.Core.List.{List}
use native.Mathlib.Omega.{arith}
use Rattle.base_lists.specs.Bytes.{le, overwrite}
use Rattle.base_lists.proofs.Bytes.{then, length_le}
use Rattle.record.specs.declared.Header.{Header}
use Rattle.record_convert.specs.Convert.{tail_bytes}
use Rattle.record_convert.proofs.put_tail.Goals as goal

parts : (at : ℕ) (h : Header) (out o₁ o₂ o₃ : List ℕ) → o₃ ≡ overwrite o₂ (at + 4) (le 8 h.number) → o₂ ≡ overwrite o₁ (at + 2) (le 2 h.size)
    → o₁ ≡ overwrite out at (le 2 h.ttl) → o₃ ≡ overwrite out at (tail_bytes h)
unfolding tail_bytes
parts at h out o₁ o₂ o₃ r q p =
    then out at (le 2 h.ttl) _ p (then o₁ (at + 2) (le 2 h.size) _ q r (omega (arith, length_le 2 h.size))) (omega (arith, length_le 2 h.ttl))

pub returns : goal.returns
returns c =
    parts _ _ _ _ _ _ c.put_number-3.ensures c.put_number-2.ensures c.put_number.ensures
