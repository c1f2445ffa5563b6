-- The contract of each function that C calls is that of the library's function: one that said less, or asked more, would not be admitted here.
-- Assumes nothing.
use mathlib.Core.Path.{◌≡◌, refl}
use seplogic.Ra.Ura.{Ura}
use base.Logic.{SProp}
use prog.Memory.{Memory}
use prog.Routine.{Routine}
use types.Logic.{Logic}
use contract.Monad.{Fun}
use Rattle.timer_events.specs.contracts.timer_map_insert_records as insert_records
use Rattle.timer_events.specs.contracts.timer_map_pop_event as pop_event
use Rattle.timer_events_c.specs.contracts.timer_map_insert_records as insert_records_c
use Rattle.timer_events_c.specs.contracts.timer_map_pop_event as pop_event_c

module _ {M : Type 1} {𝓤 : Ura M} (𝓛 : Logic 𝓤) (at_mem : Memory → SProp 𝓤) (run : Routine → Fun 𝓤) where
  insert_records_same : insert_records_c.clauses 𝓛 at_mem run ≡ insert_records.clauses 𝓛 at_mem run
  insert_records_same = refl

  pop_event_same : pop_event_c.clauses 𝓛 at_mem run ≡ pop_event.clauses 𝓛 at_mem run
  pop_event_same = refl
