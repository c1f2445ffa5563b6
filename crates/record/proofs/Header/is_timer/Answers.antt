-- Both comparisons with a kind's byte are the definition, by computation.
use mathlib.Core.Path.{refl}
use Rattle.record.specs.Read.{is_timer}
use Rattle.record.proofs.Header.is_timer.Goals as goal

pub returns : goal.returns
unfolding is_timer
returns c = refl
