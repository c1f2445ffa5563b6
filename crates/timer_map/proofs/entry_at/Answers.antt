-- The row is the i-th of the words' rows, and its entry is read where the definition reads it.
use mathlib.Core.Path.{ap, ◌∙◌}
use mathlib.Core.List.{List, []}
use Prim.Native.Nat.{ℕ}
use lib.ListN.{get_or}
use Rattle.timer_map.specs.Words.{queue_entry_at}
use Rattle.timer_map.proofs.Chunks.{row_is, entry_read}
use Rattle.timer_map.proofs.entry_at.Goals as goal

pub returns : goal.returns
returns c =
    c.from.ensures ∙ ap (λ (l : List (List ℕ)). queue_entry_at (get_or l c.args.i []) 0) c.rows.ensures
    ∙ ap (λ (r : List ℕ). queue_entry_at r 0) (row_is 64 c.args.i c.args.q.now [] c.requires.i_bound) ∙ entry_read c.args.q.now _
