-- The contract of each function that C calls is that of the library's function: one that said less, or asked more, would not be admitted here.
-- Assumes nothing.
use mathlib.Core.Path.{◌≡◌, refl}
use seplogic.Ra.Ura.{Ura}
use base.Logic.{SProp}
use prog.Memory.{Memory}
use prog.Routine.{Routine}
use types.Logic.{Logic}
use contract.Monad.{Fun}
use Rattle.controller.specs.contracts.hyparview_version as version
use Rattle.controller.specs.contracts.hyparview_handle as handle
use Rattle.controller.specs.contracts.hyparview_new as new
use Rattle.controller.specs.contracts.hyparview_wants_connection as wants_connection
use Rattle.controller.specs.contracts.hyparview_is_neighbor as is_neighbor
use Rattle.controller.specs.contracts.hyparview_neighbor_count as neighbor_count
use Rattle.controller.specs.contracts.hyparview_neighbor as neighbor
use Rattle.controller.specs.contracts.hyparview_spare_addresses as spare_addresses
use Rattle.controller.specs.contracts.hyparview_read as read
use Rattle.controller.specs.contracts.hyparview_node as node
use Rattle.controller_c.specs.contracts.hyparview_version as version_c
use Rattle.controller_c.specs.contracts.hyparview_handle as handle_c
use Rattle.controller_c.specs.contracts.hyparview_new as new_c
use Rattle.controller_c.specs.contracts.hyparview_wants_connection as wants_connection_c
use Rattle.controller_c.specs.contracts.hyparview_is_neighbor as is_neighbor_c
use Rattle.controller_c.specs.contracts.hyparview_neighbor_count as neighbor_count_c
use Rattle.controller_c.specs.contracts.hyparview_neighbor as neighbor_c
use Rattle.controller_c.specs.contracts.hyparview_spare_addresses as spare_addresses_c
use Rattle.controller_c.specs.contracts.hyparview_read as read_c
use Rattle.controller_c.specs.contracts.hyparview_node as node_c

module _ {M : Type 1} {𝓤 : Ura M} (𝓛 : Logic 𝓤) (at_mem : Memory → SProp 𝓤) (run : Routine → Fun 𝓤) where
  version_same : version_c.clauses 𝓛 at_mem run ≡ version.clauses 𝓛 at_mem run
  version_same = refl

  handle_same : handle_c.clauses 𝓛 at_mem run ≡ handle.clauses 𝓛 at_mem run
  handle_same = refl

  new_same : new_c.clauses 𝓛 at_mem run ≡ new.clauses 𝓛 at_mem run
  new_same = refl

  wants_connection_same : wants_connection_c.clauses 𝓛 at_mem run ≡ wants_connection.clauses 𝓛 at_mem run
  wants_connection_same = refl

  is_neighbor_same : is_neighbor_c.clauses 𝓛 at_mem run ≡ is_neighbor.clauses 𝓛 at_mem run
  is_neighbor_same = refl

  neighbor_count_same : neighbor_count_c.clauses 𝓛 at_mem run ≡ neighbor_count.clauses 𝓛 at_mem run
  neighbor_count_same = refl

  neighbor_same : neighbor_c.clauses 𝓛 at_mem run ≡ neighbor.clauses 𝓛 at_mem run
  neighbor_same = refl

  spare_addresses_same : spare_addresses_c.clauses 𝓛 at_mem run ≡ spare_addresses.clauses 𝓛 at_mem run
  spare_addresses_same = refl

  read_same : read_c.clauses 𝓛 at_mem run ≡ read.clauses 𝓛 at_mem run
  read_same = refl

  node_same : node_c.clauses 𝓛 at_mem run ≡ node.clauses 𝓛 at_mem run
  node_same = refl
