-- The fields are those of a message with these nodes.
use Rattle.record_writer.specs.Write.{rec_in}
use Rattle.work.proofs.send_nodes.Goals as goal

pub returns : goal.returns
unfolding rec_in
returns c = rw c.plain.ensures at c.emit_nodes.ensures
