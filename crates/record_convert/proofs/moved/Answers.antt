-- By cases on the mark: absent data has offset 0, and data that is there has the place reached.
use Prim.Native.Nat.{ℕ}
use mathlib.Core.Path.{◌≡◌}
use borrow.Author.Tests.{eq-eqb, ne_eqb}
use Rattle.base_lists.specs.Lists.{choose}
use Rattle.record.specs.declared.Entry.{Entry}
use Rattle.record_convert.specs.Convert.{moved_entry}
use Rattle.record_convert.proofs.moved.Goals as goal

module _ (e : Entry) (at : ℕ) where
  absent : e.present ≡ 0 → record { id = e.id; offset = 0; len = e.len; present = e.present } ≡ moved_entry e at
  unfolding moved_entry choose
  absent z = rw (eq-eqb _ _ z)

  there : (e.present ≡ 0 → ⊥) → record { id = e.id; offset = at; len = e.len; present = e.present } ≡ moved_entry e at
  unfolding moved_entry choose
  there z = rw (ne_eqb _ _ z)

pub returns-then-e-eq0 : goal.returns-then-e-eq0
returns-then-e-eq0 c = search absent

pub returns-else-e-eq0 : goal.returns-else-e-eq0
returns-else-e-eq0 c = search there
