-- The answers are those of the conversion.
use Rattle.record_stream.proofs.Parts.{answered}
use Rattle.record_stream.proofs.pass.Goals as goal

pub returns-then-write_all-clause-code_value : goal.returns-then-write_all-clause-code_value
returns-then-write_all-clause-code_value c = search answered

pub returns-clause-code_value : goal.returns-clause-code_value
returns-clause-code_value c = search answered
