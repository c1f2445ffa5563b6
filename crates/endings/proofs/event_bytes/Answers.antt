-- Every event has a node at most, so the writer finds room: the bytes written are the record's.
use Rattle.endings.proofs.Events.{few_bytes, the_bytes}
use Rattle.endings.proofs.event_bytes.Goals as goal

pub returns : goal.returns
returns c = (search few_bytes, search the_bytes)
