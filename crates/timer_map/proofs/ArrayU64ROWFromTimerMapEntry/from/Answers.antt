-- The words are those of the definition, by computation.
use mathlib.Core.Path.{refl}
use Rattle.timer_map.specs.Words.{queue_row}
use Rattle.timer_map.proofs.ArrayU64ROWFromTimerMapEntry.from.Goals as goal

pub returns : goal.returns
unfolding queue_row
returns c = refl
