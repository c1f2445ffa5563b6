-- By cases of `new`'s code: where it refuses the number of words the tally stays, and with any other code it is zeroes.
use mathlib.Core.Path.{sym, ◌∙◌}
use Rattle.controller.proofs.Laws.{begun_kept, begun_zeroes, zeroes}
use Rattle.controller.proofs.begun.Goals as goal

pub returns-then-code-from : goal.returns-then-code-from
returns-then-code-from c = begun_kept _ _ _ _ _ _ _ c.new-code.ensures (c.if-code-from.true ∙ c.from.ensures)

pub returns : goal.returns
returns c = begun_zeroes _ _ _ _ _ _ _ c.new-code.ensures _ (λ e. c.if-code-from.false (e ∙ sym c.from.ensures)) (zeroes _ c.default.ensures)
