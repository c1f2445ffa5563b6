-- Onto an output of zeroes, what `place_record` writes is the definition's `conversion`, by `placed_zeroes`.
use mathlib.Core.Path.{◌∙◌}
use borrow.Author.Rules.{rules}
use Rattle.record_convert.proofs.Laws.{zeroes, placed_zeroes}
use Rattle.record_convert.proofs.convert.Goals as goal

pub returns : goal.returns
returns c = placed_zeroes _ _ _ _ _ _ (c.fill.ensures.after (search rules) ∙ zeroes _) c.place_record.ensures
