-- The items past the place were moved by one, and the place that is left is stored.
use Rattle.base_util.proofs.Columns.{put_in}
use Rattle.base_util.proofs.put_in.Goals as goal

pub returns : goal.returns
returns c =
    let m = c.copy_within.ensures in
    put_in _ _ _ _ c.requires.filled m.len _ c.requires.n_in_bounds c.requires.i_le_n m.by_index.0 m.by_index.1 m.by_index.2
