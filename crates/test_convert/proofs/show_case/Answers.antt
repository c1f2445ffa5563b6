-- The room asked for lies within the space, so the part lent has exactly that length.
use mathlib.Core.Path.{sym}
use lib.Seq.{length-take-le}
use borrow.Author.Rules.{rules}
use Rattle.test_convert.proofs.show_case.Goals as goal

pub slice_bounds-show_in-end : goal.slice_bounds-show_in-end
slice_bounds-show_in-end c = sym (length-take-le _ _ (search rules))
