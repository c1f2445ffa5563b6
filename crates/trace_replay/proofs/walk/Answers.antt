-- The state that the events to come lead to is the last.
use borrow.Author.Rules.{rules}
use native.Mathlib.Omega.{arith}
use mathlib.Core.Path.{refl, sym}
use Rattle.run_walk.proofs.Draws.{counted, numbers_read}
use Rattle.trace_replay.proofs.Laws.{walking_start, walking_next, walking_end, walked}
use Rattle.trace_replay.proofs.walk.Goals as goal

pub slice_bounds-draws-end : goal.slice_bounds-draws-end
slice_bounds-draws-end c = (numbers_read _ _ _ _ c.requires.laid refl c.read_numbers.ensures).0.1

pub slice_bounds-out-end : goal.slice_bounds-out-end
slice_bounds-out-end c = search (counted, rules)

pub loop-init : goal.loop-init
loop-init c = (search (counted, rules), walking_start _ _ _ _ _)

pub loop-preserved : goal.loop-preserved
loop-preserved c =
    (search (rules, c.loop.invariant.0), walking_next _ _ _ _ _ _ _ c.loop.invariant.1 _ _ (omega arith) (sym c.loop.invariant.0) c.step-a.ensures.runner)

pub returns : goal.returns
returns c =
    let ns = numbers_read _ _ _ _ c.requires.laid refl c.read_numbers.ensures in
    walked _ _ _ _ _ _ ns.0 ns.1 (walking_end _ _ _ _ _ _ _ c.loop.invariant.1 (omega arith))
