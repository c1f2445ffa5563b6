-- The sizes are those of the two queries, and each count is one more where its sizes are met.
use Rattle.endings.proofs.Counts.{counted}
use Rattle.endings.proofs.count_end.Goals as goal

pub returns : goal.returns
returns c =
    counted _ _ _ _ _ _ _ _ _ c.neighbor_count-active.ensures c.spare_addresses-passive.ensures c.from.ensures c.from-2.ensures c.from-3.ensures c.from-4.ensures
