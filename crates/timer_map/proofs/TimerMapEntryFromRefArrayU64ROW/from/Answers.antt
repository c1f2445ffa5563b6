-- Each field is read where the definition reads it, by computation.
use mathlib.Core.Path.{refl}
use Rattle.timer_map.specs.Words.{queue_entry_at}
use Rattle.timer_map.proofs.TimerMapEntryFromRefArrayU64ROW.from.Goals as goal

pub returns : goal.returns
unfolding queue_entry_at
returns c = refl
