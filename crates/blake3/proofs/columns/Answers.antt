-- `columns` meets its contract: its four calls are the definition's four.
use Rattle.blake3.specs.Blake3.{from_columns, columns}
use Rattle.blake3.proofs.columns.Goals as goal

pub returns : goal.returns
unfolding columns
returns c = λ i. from_columns (c.g_at-p.ensures i) (c.g_at-q.ensures i) (c.g_at-r.ensures i) (c.g_at-s.ensures i)
