-- By cases of the first test.
use Rattle.hyparview.proofs.Sides.{barred_by, barred_not}
use Rattle.hyparview.proofs.is_barred.Goals as goal

pub returns-then-has_too_many : goal.returns-then-has_too_many
returns-then-has_too_many c = search barred_by

pub returns : goal.returns
returns c = search barred_not
