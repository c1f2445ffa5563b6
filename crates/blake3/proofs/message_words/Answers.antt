-- `message_words` meets its contract: the sixteen words are read by fours.
use mathlib.Core.Path.{◌∙◌}
use Rattle.blake3.proofs.Laws.{from_rows, by_fours}
use Rattle.blake3.proofs.message_words.Goals as goal

pub returns : goal.returns
returns c =
    (λ i. from_rows (c.quad_at-p.ensures i) (c.quad_at-q.ensures i) (c.quad_at-r.ensures i) (c.quad_at-s.ensures i))
    ∙ by_fours _ 0
