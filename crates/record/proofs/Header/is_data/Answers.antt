-- Both comparisons with a kind's byte are the definition, by computation.
use mathlib.Core.Path.{refl}
use Rattle.record.specs.Read.{is_data}
use Rattle.record.proofs.Header.is_data.Goals as goal

pub returns : goal.returns
unfolding is_data
returns c = refl
