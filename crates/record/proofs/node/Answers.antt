-- The contract of `read_entry` at the place of the i-th entry, in this form.
use Rattle.record.specs.Read.{entry_at_by}
use Rattle.record.proofs.node.Goals as goal

pub returns : goal.returns
unfolding entry_at_by
returns c = c.read_entry.ensures
