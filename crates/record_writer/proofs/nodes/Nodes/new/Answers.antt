-- With length 0 the array is blank and stands for no node, by computation.
use mathlib.Core.Path.{refl}
use Prim.Native.Nat.{zero-le}
use Rattle.record_writer.specs.Nodes.{nodes_in}
use Rattle.base_lists.specs.Array.{pad}
use Rattle.record_writer.proofs.nodes.Nodes.new.Goals as goal

pub invariant_of-result : goal.invariant_of-result
unfolding pad
invariant_of-result c = record { fits = zero-le; packed = refl }

pub returns : goal.returns
unfolding nodes_in
returns c = refl
