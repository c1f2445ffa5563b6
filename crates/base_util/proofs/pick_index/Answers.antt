-- The draws before k are passed over, and k is within them if any are left.
use Prim.Native.Nat.{◌+◌}
use mathlib.Core.Path.{◌≡◌, ap, ◌∙◌}
use native.Mathlib.Nat.{mod-le}
use native.Mathlib.Omega.{arith}
use borrow.Author.Rules.{rules}
use Rattle.base_util.proofs.Picks.{reading_start, reading_next, read_index, read_below, read_next, missed_index, missed_next}
use Rattle.base_util.proofs.pick_index.Goals as goal

pub overflow_sub-end : goal.overflow_sub-end
overflow_sub-end c = search (mod-le, rules)

pub loop-k-init : goal.loop-k-init
loop-k-init c = (omega arith, search reading_start)

pub returns-then-d-end-clause-index_value : goal.returns-then-d-end-clause-index_value
returns-then-d-end-clause-index_value c = (search read_index, search read_below)

pub returns-then-d-end-clause-next_value : goal.returns-then-d-end-clause-next_value
returns-then-d-end-clause-next_value c = search read_next

pub loop-k-preserved : goal.loop-k-preserved
loop-k-preserved c = (omega arith, search reading_next)

pub returns-clause-index_value : goal.returns-clause-index_value
returns-clause-index_value c = (search missed_index, search rules)

pub returns-clause-next_value : goal.returns-clause-next_value
returns-clause-next_value c =
    let k : c.max.result ≡ c.loop-k.k = omega (arith, c.loop-k.invariant.0, c.loop-k.auto.k, c.loop-k-test.false, c.max.ensures) in
    ap (λ (j : _). j + 1) k ∙ missed_next _ _ _ _ _ c.loop-k.invariant.1 c.loop-k-test.false
