-- By cases: barred, all draws read, or the first 64 of them.
use Rattle.hyparview.proofs.Sides.{sixteen, few_draws, cut_draws, cut_length}
use borrow.Author.Rules.{rules}
use Rattle.hyparview.proofs.handle_radio.Goals as goal

pub returns-then-is_barred : goal.returns-then-is_barred
returns-then-is_barred c = sixteen _ _ _ _ _ _ c.is_barred.ensures _ c.into.ensures c.if-is_barred.true c.refuse.ensures

pub returns-then-draws-lt-RADIO_DRAWS : goal.returns-then-draws-lt-RADIO_DRAWS
returns-then-draws-lt-RADIO_DRAWS c = search few_draws

pub slice_bounds-handle-end : goal.slice_bounds-handle-end
slice_bounds-handle-end c = search (cut_length, rules)

pub returns : goal.returns
returns c = search cut_draws
