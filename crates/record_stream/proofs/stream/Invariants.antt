-- The bytes that are held fit the buffer, and each turn moves the place by at most its length.
use Prim.Native.Nat.{◌*◌, ◌≤◌}
use lib.ListN.{length}
use Rattle.record_stream.proofs.stream.Given as goal

abbrev pub invariant-loop-turn : goal.invariant-loop-turn
invariant-loop-turn l = record { fits : l.held ≤ length l.buffer; far : l.place ≤ 65536 * l._turn }
