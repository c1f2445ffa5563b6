-- By cases on the kind: one whose node has data, another known kind, or none, each as the definition chooses.
use Prim.Native.Nat.{ℕ}
use mathlib.Core.Path.{◌≡◌}
use mathlib.Core.Bool.{Bool, true, false, ◌||◌}
use Rattle.base_lists.specs.Lists.{choose}
use Rattle.record.specs.Kinds.{is_event_kind, is_output_kind, is_kind}
use Rattle.record.specs.Read.{is_data_kind, fixed_size}
use Rattle.record.proofs.fixed_size.Goals as goal

-- a kind whose one node has data
with_node : (k : ℕ) → is_data_kind k ≡ true → 44 ≡ fixed_size k
unfolding fixed_size choose
with_node k t = rw t

-- the other kinds, and no kind
module _ (k : ℕ) (e o : Bool) (t : is_data_kind k ≡ false) (p : e ≡ is_event_kind k) (q : o ≡ is_output_kind k) where
  bare : (e || o) ≡ true → 32 ≡ fixed_size k
  unfolding fixed_size is_kind choose
  bare h = rw (t, ← p, ← q, h)

  none : (e || o) ≡ false → 0 ≡ fixed_size k
  unfolding fixed_size is_kind choose
  none h = rw (t, ← p, ← q, h)

pub returns-then-kind : goal.returns-then-kind
returns-then-kind c = search with_node

pub returns-then-is_event_kind-is_output_kind : goal.returns-then-is_event_kind-is_output_kind
returns-then-is_event_kind-is_output_kind c = search bare

pub returns : goal.returns
returns c = search none
