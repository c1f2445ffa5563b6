-- The fields are those of the definition's timer.
use Rattle.record_writer.specs.Write.{rec_in}
use Rattle.work.proofs.schedule.Goals as goal

pub returns : goal.returns
unfolding rec_in
returns c = rw c.plain.ensures at c.emit_bare.ensures
