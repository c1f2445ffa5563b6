-- By cases of what `read` answers: a record's header as it was read, or zeroes where the bytes are malformed.
use Rattle.controller.proofs.Reader.{read_record, read_nothing}
use Rattle.controller.proofs.hyparview_read.Goals as goal

pub returns-in-Some : goal.returns-in-Some
returns-in-Some c = search read_record

pub returns-in-None : goal.returns-in-None
returns-in-None c = search read_nothing
