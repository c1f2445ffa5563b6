-- Absent data is a node's without data, so what `write_one` writes is the record of that one node.
use Rattle.endings.proofs.Events.{wrote_one}
use Rattle.endings.proofs.put_one.Goals as goal

pub returns : goal.returns
returns c = search wrote_one
