-- While i climbs, `ok` says whether the first i items rise.
use Prim.Native.Nat.{◌≤◌}
use lib.ListN.{length, take}
use Rattle.base_scan.proofs.Loops.{Climb}
use Rattle.base_util.proofs.rises.Given as goal

abbrev pub invariant-loop-i : goal.invariant-loop-i
invariant-loop-i l = (l.n ≤ length l.s) × Climb (take l.n l.s) l.ok l.i
