-- No refusal is the answer to no bytes.
use Rattle.record_stream.proofs.Parts.{none_answered}
use Rattle.record_stream.proofs.stream.Goals as goal

pub returns-in_default : goal.returns-in_default
returns-in_default c = none_answered c.args.to

pub returns : goal.returns
returns c = none_answered c.args.to
