-- `chunk` meets its contract: a turn takes one block off those to come. The measure is the bytes that are left.
use Prim.Native.Nat.{ℕ, ◌≤◌}
use mathlib.Core.Path.{◌≡◌}
use mathlib.Core.List.{List}
use lib.ListN.{length}
use Rattle.blake3.specs.Blake3.{iv, chunk_start, chunk}
use Rattle.blake3.proofs.chunk.Given as goal

pub record Inv (body cv : List ℕ) (start : ℕ) (rest : List ℕ) : Type 0 where
  pub flag : start ≤ chunk_start
  pub same : chunk iv chunk_start body ≡ chunk cv start rest

abbrev pub invariant-loop-rest : goal.invariant-loop-rest
invariant-loop-rest l = Inv l.body l.cv l.start l.rest

abbrev pub decreases-loop-rest : goal.decreases-loop-rest
decreases-loop-rest l = length l.rest
