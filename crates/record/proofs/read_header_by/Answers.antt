-- Each field is read where the definition reads it; the places differ only by how their sums are written.
use Prim.Native.Nat.{ℕ, ◌+◌, ◌*◌}
use mathlib.Core.Path.{◌≡◌, ap, ◌∙◌}
use mathlib.Core.List.{List}
use native.Mathlib.Omega.{arith}
use lib.ListN.{get_or}
use Rattle.base_lists.specs.Bytes.{read_le}
use Rattle.record.specs.Read.{header_of_by}
use Rattle.record.proofs.read_header_by.Goals as goal

read : (w : ℕ) (b : List ℕ) (peer second ttl size number : ℕ) → peer ≡ read_le w b 4 → second ≡ read_le w b (4 + w) → ttl ≡ read_le 2 b (4 + 2 * w) → size ≡ read_le 2 b (4 + 2 * w + 2)
    → number ≡ read_le 8 b (4 + 2 * w + 4)
    → record { kind = get_or b 0 0; message = get_or b 1 0; flags = get_or b 2 0; nodes = get_or b 3 0; peer = peer; second = second; ttl = ttl; size = size; number = number } ≡ header_of_by w b
unfolding header_of_by
read w b peer second ttl size number p s t z n =
    let a : 4 + 2 * w + 2 ≡ 6 + 2 * w = omega arith in
    let e : 4 + 2 * w + 4 ≡ 8 + 2 * w = omega arith in
    rw (p, s, t, z, n, a, e)

pub returns : goal.returns
returns c =
    read _ _ _ _ _ _ _ c.read_number.ensures.0 c.read_number-2.ensures.0 c.read_number-3.ensures.0 c.read_number-4.ensures.0
    c.read_number-5.ensures.0
    ∙ ap (λ (w : ℕ). header_of_by w c.args.b.now) c.width-w.ensures
