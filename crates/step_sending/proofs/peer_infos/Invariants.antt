-- The loop keeps the nodes of the peers so far, each with the data looked up of it.
use mathlib.Core.Path.{◌≡◌}
use lib.ListN.{take}
use Rattle.record_writer.specs.Nodes.{nodes_in}
use Rattle.spec_hyparview.specs.Run.{peer_infos}
use Rattle.hyparview_state.specs.Unpack.{unpack}
use Rattle.step_sending.proofs.peer_infos.Given as goal

abbrev pub invariant-loop-p : goal.invariant-loop-p
invariant-loop-p l = nodes_in l.t ≡ peer_infos (unpack l.st) (take l.p-index l.ids)
