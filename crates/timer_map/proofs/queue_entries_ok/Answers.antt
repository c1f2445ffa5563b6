-- The test of every row is that of every entry.
use Prim.Native.Nat.{ℕ}
use mathlib.Core.List.{List}
use Rattle.std.proofs.Common.{rules, tests, arith, ap, take, ◌∙◌}
use Rattle.std.specs.List.{list_all}
use Rattle.std.proofs.lemmas.Iterator.{YieldsList-from_slice}
use Rattle.std.proofs.lemmas.Iterator.Search.{all_from_yields_List}
use Rattle.timer_map.specs.Entries.{queue_entry_ok}
use Rattle.timer_map.specs.Words.{queue_entry_at}
use Rattle.timer_map.proofs.Chunks.{rows_test}
use Rattle.timer_map.proofs.queue_entries_ok.Goals as goal

pub returns : goal.returns
unfolding queue_entry_ok
returns c =
    all_from_yields_List (λ r. queue_entry_ok (queue_entry_at r 0)) _ _ c.all.result c.all.ensures.ran (YieldsList-from_slice _ c.iter.ensures.rest) (λ x b q k. search (rules, tests))
    ∙ ap (λ (l : List (List ℕ)). list_all (λ r. queue_entry_ok (queue_entry_at r 0)) (take c.args.n l)) c.rows.ensures
    ∙ rows_test 64 c.args.n c.args.q.now 1 (omega arith)
