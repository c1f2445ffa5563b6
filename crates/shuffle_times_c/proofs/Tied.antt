-- The contract of each function that C calls is that of the library's function: one that said less, or asked more, would not be admitted here.
-- Assumes nothing.
use mathlib.Core.Path.{◌≡◌, refl}
use seplogic.Ra.Ura.{Ura}
use base.Logic.{SProp}
use prog.Memory.{Memory}
use prog.Routine.{Routine}
use types.Logic.{Logic}
use contract.Monad.{Fun}
use Rattle.shuffle_times.specs.contracts.hyparview_shuffle_times as shuffle_times
use Rattle.shuffle_times_c.specs.contracts.hyparview_shuffle_times as shuffle_times_c

module _ {M : Type 1} {𝓤 : Ura M} (𝓛 : Logic 𝓤) (at_mem : Memory → SProp 𝓤) (run : Routine → Fun 𝓤) where
  shuffle_times_same : shuffle_times_c.clauses 𝓛 at_mem run ≡ shuffle_times.clauses 𝓛 at_mem run
  shuffle_times_same = refl
