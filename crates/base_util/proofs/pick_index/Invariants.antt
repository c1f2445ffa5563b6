-- The draws before k are passed over, and k is within them if any are left.
use Prim.Native.Nat.{◌≤◌}
use lib.ListN.{length}
use Rattle.std.specs.Prelude.{max}
use Rattle.base_util.proofs.Picks.{Reading}
use Rattle.base_util.proofs.pick_index.Given as goal

abbrev pub invariant-loop-k : goal.invariant-loop-k
invariant-loop-k l = (l.k ≤ max l.at (length l.draws)) × Reading l.n l.at l.draws l.end l.k
