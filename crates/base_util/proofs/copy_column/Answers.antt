-- The column, zeroes up to the count's place, and the count.
use Rattle.base_util.proofs.Copies.{column_copied}
use Rattle.base_util.proofs.copy_column.Goals as goal

pub returns : goal.returns
returns c =
    column_copied _ _ _ c.requires.filled c.requires.s_len_bound c.requires.t_len _ _ c.copy_from_slice.ensures.after (c.fill.ensures.after (λ y e. e))
