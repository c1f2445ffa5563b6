-- The contract of each function that C calls is that of the library's function: one that said less, or asked more, would not be admitted here.
-- Assumes nothing.
use mathlib.Core.Path.{◌≡◌, refl}
use seplogic.Ra.Ura.{Ura}
use base.Logic.{SProp}
use prog.Memory.{Memory}
use prog.Routine.{Routine}
use types.Logic.{Logic}
use contract.Monad.{Fun}
use Rattle.preview.specs.contracts.hyparview_preview as preview
use Rattle.preview_c.specs.contracts.hyparview_preview as preview_c

module _ {M : Type 1} {𝓤 : Ura M} (𝓛 : Logic 𝓤) (at_mem : Memory → SProp 𝓤) (run : Routine → Fun 𝓤) where
  preview_same : preview_c.clauses 𝓛 at_mem run ≡ preview.clauses 𝓛 at_mem run
  preview_same = refl
