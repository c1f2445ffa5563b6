-- Both comparisons are the definition, by computation.
use mathlib.Core.Path.{refl}
use Rattle.record.specs.Read.{is_message}
use Rattle.record.proofs.Header.is_message.Goals as goal

pub returns : goal.returns
unfolding is_message
returns c = refl
