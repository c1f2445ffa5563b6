-- `diagonals` meets its contract: its four calls are the definition's four.
use Rattle.blake3.specs.Blake3.{from_diagonals, diagonals}
use Rattle.blake3.proofs.diagonals.Goals as goal

pub returns : goal.returns
unfolding diagonals
returns c = λ i. from_diagonals (c.g_at-p.ensures i) (c.g_at-q.ensures i) (c.g_at-r.ensures i) (c.g_at-s.ensures i)
