-- Filling the output leaves zeroes only, which is the refusal's output.
use Rattle.hyparview.proofs.Laws.{all_zero}
use Rattle.hyparview.proofs.refuse.Goals as goal

pub returns : goal.returns
returns c = all_zero _ _ _ _ (c.fill.ensures.after (λ y e. e))
