-- Each field is read where the definition reads it; the places differ only by how their sums are written.
use Prim.Native.Nat.{ℕ, ◌+◌}
use mathlib.Core.Path.{◌≡◌, ap, ◌∙◌}
use mathlib.Core.List.{List}
use native.Mathlib.Omega.{arith}
use lib.ListN.{get_or}
use Rattle.base_lists.specs.Bytes.{read_le}
use Rattle.record.specs.Read.{entry_from}
use Rattle.record.proofs.read_entry.Goals as goal

read : (w : ℕ) (b : List ℕ) (at id offset : ℕ) → id ≡ read_le w b at → offset ≡ read_le 2 b (at + w)
    → record { id = id; offset = offset; len = get_or b (at + (w + 2)) 0; present = get_or b (at + (w + 2 + 1)) 0 } ≡ entry_from w b at
unfolding entry_from
read w b at id offset p q =
    let e : w + 2 + 1 ≡ w + 3 = omega arith in
    λ i. record { id = p i; offset = q i; len = get_or b (at + (w + 2)) 0; present = get_or b (at + e i) 0 }

pub returns : goal.returns
returns c =
    read _ _ _ _ _ c.read_number.ensures.0 c.read_number-2.ensures.0
    ∙ ap (λ (w : ℕ). entry_from w c.args.b.now c.args.at) c.width-w.ensures
