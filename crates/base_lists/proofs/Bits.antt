-- The bits of all words of a list together.
-- Assumes nothing.
use Prim.Native.Nat.{ℕ}
use mathlib.Core.Path.{◌≡◌, sym, ◌∙◌}
use mathlib.Core.Bool.{◌&&◌, and-true, and_assoc}
use mathlib.Core.List.{List, [], ◌∷◌}
use native.Mathlib.Omega.{arith}
use Rattle.std.specs.Prelude.{fold}
use lib.Dec.{eqb}
use lib.Bits.{bit_or, or_zero_r, or_add_and, and_le_l}
use borrow.Author.Tests.{eqb-true, eqb-false, ne_eqb}
use Rattle.base_lists.specs.Tests.{every}
use Rattle.base_lists.proofs.Choice.{split}
use Rattle.base_lists.proofs.Tests.{and_no}

zero_or : (a b : ℕ) → eqb (bit_or a b) 0 ≡ (eqb a 0 && eqb b 0)
zero_or a b =
    split (eqb b 0)
    (λ t. let z : b ≡ 0 = eqb-true b 0 t in rw (t, z, or_zero_r a) (sym (and-true (eqb a 0))))
    (λ t. let n : b ≡ 0 → ⊥ = eqb-false b 0 t in
    rw t (ne_eqb (bit_or a b) 0 (λ e. n (omega (arith, or_add_and a b, and_le_l a b))) ∙ sym (and_no (eqb a 0))))

-- none of all bits is set where each word is zero
pub all_bits : (bits : ℕ) (l : List ℕ) → eqb (fold bit_or bits l) 0 ≡ (eqb bits 0 && every (λ (x : ℕ). eqb x 0) l)
unfolding every
all_bits bits [] = sym (and-true (eqb bits 0))
all_bits bits (x ∷ l) =
    all_bits (bit_or bits x) l ∙ rw (zero_or bits x) (and_assoc (eqb bits 0) (eqb x 0) (every (λ (y : ℕ). eqb y 0) l))
