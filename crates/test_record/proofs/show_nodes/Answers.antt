-- The bytes are a record, so that each of its entries and their data stand within them.
use native.Mathlib.Omega.{arith}
use mathlib.Core.Path.{ap}
use Rattle.record.specs.declared.Header.{Header}
use Rattle.record.proofs.Nodes.{entry_room, entry_within}
use Rattle.test_record.proofs.show_nodes.Goals as goal

pub node-e-requires : goal.node-e-requires
node-e-requires c = entry_room _ _ c.requires.well (omega (arith, ap (λ (g : Header). g.nodes) c.requires.header, c.loop-i-test.true))

pub node_data-requires : goal.node_data-requires
node_data-requires c = entry_within _ _ c.requires.well (omega (arith, ap (λ (g : Header). g.nodes) c.requires.header, c.loop-i-test.true)) _ c.node-e.ensures
