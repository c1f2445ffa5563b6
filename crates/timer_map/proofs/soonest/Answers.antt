-- Seeking on from the best so far through the rows still to come finds the soonest.
use Prim.Native.Nat.{ℕ, ◌+◌}
use mathlib.Core.Path.{sym, subst}
use mathlib.Core.List.{[]}
use native.Mathlib.Omega.{arith}
use Rattle.timer_map.specs.Entries.{soonest}
use Rattle.timer_map.specs.Words.{queue_entries_at}
use Rattle.timer_map.proofs.Chunks.{time_read}
use Rattle.timer_map.proofs.Order.{Seeking, seek_start, seek_takes, seek_keeps, seek_end}
use Rattle.timer_map.proofs.soonest.Goals.{then-rows-i, else-rows-i}
use Rattle.timer_map.proofs.soonest.Goals as goal

pub loop-i-init : goal.loop-i-init
loop-i-init c = seek_start _ _ (omega arith) c.requires.n_nonzero

pub loop-i-preserved : goal.loop-i-preserved
loop-i-preserved c =
    let ws = c.args.q.now in
    let v = c.loop-i.invariant in
    let new = time_read ws c.rows-rows.result.now [] c.loop-i.i c.rows-rows.ensures (omega arith) in
    let old = time_read ws c.rows-rows.result.now [] c.loop-i.best c.rows-rows.ensures (omega arith) in
    let P : ℕ → Type 0 = λ r. Seeking ws c.args.n (soonest (queue_entries_at ws 1 c.args.n)) r (c.loop-i.i + 1) in
    elim c.if-rows-i.branch [
      | then-rows-i w ↦ subst P (sym w.best-is) (seek_takes _ _ _ _ _ v c.loop-i-test.true (omega (arith, new, old, w.if-rows-i.true)))
      | else-rows-i w ↦ subst P (sym w.best-is) (seek_keeps _ _ _ _ _ v c.loop-i-test.true (omega (arith, new, old, w.if-rows-i.false)))
    ]

pub returns : goal.returns
returns c = seek_end _ _ _ _ _ c.loop-i.invariant c.loop-i-test.false
