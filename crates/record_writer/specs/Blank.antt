-- An unused place of the nodes that a record is written with.
-- Assumes nothing.
use Rattle.std.specs.Prelude.{None}
use Rattle.base_peer.specs.declared.PeerInfo.{PeerInfo}

abbrev pub blank : PeerInfo
blank = record { id = 0; «data» = None }
