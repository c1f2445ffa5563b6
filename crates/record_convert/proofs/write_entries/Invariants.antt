-- What remains: the entries from the i-th node on, whose data stand from `reached` on.
use Prim.Native.Nat.{ℕ, ◌+◌, ◌*◌, ◌≤◌}
use mathlib.Core.Path.{◌≡◌}
use mathlib.Core.List.{List}
use Rattle.base_lists.specs.Bytes.{overwrite}
use Rattle.record.specs.Format.{header_length_by, place_by, entries_by}
use Rattle.record.specs.Forms.{form_width}
use Rattle.record.specs.Read.{nodes_of_by}
use Rattle.record_convert.proofs.write_entries.Given as goal

pub record Inv (v w : ℕ) (b : List ℕ) (n : ℕ) (out₀ out : List ℕ) (reached i : ℕ) : Type 0 where
  pub most : n ≤ 32
  pub small : reached ≤ 3092 + 16 * i
  pub same : (left : ℕ) → i + left ≡ n
      → overwrite out (place_by w i) (entries_by w (nodes_of_by v b i left) reached) ≡ overwrite out₀ (header_length_by w) (entries_by w (nodes_of_by v b 0 n) (place_by w n))

abbrev pub invariant-loop-i : goal.invariant-loop-i
invariant-loop-i l = Inv (form_width l.from) (form_width l.to) l.b l.n l.initial.out l.out l.reached l.i
