-- The nine answers of `within`, joined in the definition's order.
use Rattle.base_timing.specs.Timing.{in_range}
use Rattle.base_timing.proofs.Config.in_range.Goals as goal

pub returns : goal.returns
unfolding in_range
returns c = cc
