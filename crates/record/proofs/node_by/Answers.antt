-- The place that `place` answered is the definition's, so the entry read there is the i-th.
use Prim.Native.Nat.{ℕ}
use mathlib.Core.Path.{◌≡◌, ap, ◌∙◌}
use mathlib.Core.List.{List}
use Rattle.record.specs.Format.{place_by}
use Rattle.record.specs.Read.{entry_from, entry_at_by}
use Rattle.record.specs.declared.Entry.{Entry}
use Rattle.record.proofs.node_by.Goals as goal

there : (w : ℕ) (b : List ℕ) (i at : ℕ) (e : Entry) → at ≡ place_by w i → e ≡ entry_from w b at → e ≡ entry_at_by w b i
unfolding entry_at_by
there w b i at e p q = q ∙ ap (entry_from w b) p

pub returns : goal.returns
returns c = there _ _ _ _ _ c.place.ensures.0 c.read_entry.ensures
