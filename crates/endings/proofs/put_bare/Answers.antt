-- What `write_bare` writes of these fields is the record without nodes, unfolded.
use borrow.Author.Rules.{rules}
use Rattle.record_writer.specs.Write.{rec_in}
use Rattle.endings.proofs.put_bare.Goals as goal

pub returns : goal.returns
unfolding rec_in
returns c = search rules
