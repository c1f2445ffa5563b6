-- The contract of `put_header` with no nodes and a length of the header alone is that of the whole record.
use Rattle.record_writer.proofs.Ways.{done_bare}
use Rattle.record_writer.proofs.write_bare.Goals as goal

pub returns : goal.returns
returns c = done_bare _ _ _ _ _ c.put_header.ensures
