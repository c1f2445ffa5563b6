-- The nodes that a record is written with: at most 32 peers with their data, unused places blank.
-- Assumes nothing.
use Rattle.std.specs.Prelude.{List, map, take}
use Rattle.base_peer.specs.Data.{Node}
use Rattle.base_peer.specs.Held.{node_in}
use Rattle.record_writer.specs.declared.nodes.Nodes.{Nodes}

-- the nodes that s stands for, which determine s
unfoldable pub nodes_in : Nodes → List Node
nodes_in s = map node_in (take s.len s.items)
