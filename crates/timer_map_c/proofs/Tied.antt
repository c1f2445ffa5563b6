-- The contract of each function that C calls is that of the library's function: one that said less, or asked more, would not be admitted here.
-- Assumes nothing.
use mathlib.Core.Path.{◌≡◌, refl}
use seplogic.Ra.Ura.{Ura}
use base.Logic.{SProp}
use prog.Memory.{Memory}
use prog.Routine.{Routine}
use types.Logic.{Logic}
use contract.Monad.{Fun}
use Rattle.timer_map.specs.contracts.timer_map_insert as insert
use Rattle.timer_map.specs.contracts.timer_map_pop_before as pop_before
use Rattle.timer_map.specs.contracts.timer_map_first as first
use Rattle.timer_map.specs.contracts.timer_map_len as len
use Rattle.timer_map.specs.contracts.timer_map_new as new
use Rattle.timer_map_c.specs.contracts.timer_map_insert as insert_c
use Rattle.timer_map_c.specs.contracts.timer_map_pop_before as pop_before_c
use Rattle.timer_map_c.specs.contracts.timer_map_first as first_c
use Rattle.timer_map_c.specs.contracts.timer_map_len as len_c
use Rattle.timer_map_c.specs.contracts.timer_map_new as new_c

module _ {M : Type 1} {𝓤 : Ura M} (𝓛 : Logic 𝓤) (at_mem : Memory → SProp 𝓤) (run : Routine → Fun 𝓤) where
  insert_same : insert_c.clauses 𝓛 at_mem run ≡ insert.clauses 𝓛 at_mem run
  insert_same = refl

  pop_before_same : pop_before_c.clauses 𝓛 at_mem run ≡ pop_before.clauses 𝓛 at_mem run
  pop_before_same = refl

  first_same : first_c.clauses 𝓛 at_mem run ≡ first.clauses 𝓛 at_mem run
  first_same = refl

  len_same : len_c.clauses 𝓛 at_mem run ≡ len.clauses 𝓛 at_mem run
  len_same = refl

  new_same : new_c.clauses 𝓛 at_mem run ≡ new.clauses 𝓛 at_mem run
  new_same = refl
