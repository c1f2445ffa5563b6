-- What is lent from the offset to the offset and the length is that slice of the record, by `part_is`.
use Rattle.record.proofs.Laws.{part_is}
use Rattle.record.proofs.node_data.Goals as goal

pub returns : goal.returns
returns c = search part_is
