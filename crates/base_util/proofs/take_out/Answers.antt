-- The items past the place were moved by one, and the place that is left is stored.
use Rattle.base_util.proofs.Columns.{taken_out}
use Rattle.base_util.proofs.take_out.Goals as goal

pub returns : goal.returns
returns c =
    let m = c.copy_within.ensures in
    taken_out _ _ _ _ c.requires.filled m.len c.requires.i_lt_n m.by_index.0 m.by_index.1 m.by_index.2
