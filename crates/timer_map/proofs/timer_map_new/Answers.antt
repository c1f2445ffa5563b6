-- By cases on the length: the wrong one is refused, and with the right one zeroes are the empty queue.
use Prim.Native.Nat.{ℕ}
use lib.ListN.{replicate}
use Rattle.std.proofs.Common.{arith, ap, ◌∙◌}
use Rattle.timer_map.proofs.Ways.{new_broken, new_done}
use Rattle.timer_map.proofs.timer_map_new.Goals as goal

pub returns-then-q-ne-WORDS : goal.returns-then-q-ne-WORDS
returns-then-q-ne-WORDS c = search new_broken

pub returns : goal.returns
returns c = new_done _ _ c.if-q-ne-WORDS.false (c.clear_rows.ensures ∙ ap (λ (k : ℕ). replicate k 0) (omega arith))
