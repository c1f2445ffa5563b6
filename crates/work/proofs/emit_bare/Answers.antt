-- By cases: work that was refused passes on unchanged; otherwise what the writer says is what `emit` does, by `emitted`.
use Rattle.work.proofs.Any.{emitted_passed, emitted}
use Rattle.work.proofs.emit_bare.Goals as goal

pub returns-then-w-ne0 : goal.returns-then-w-ne0
returns-then-w-ne0 c = search emitted_passed

pub returns : goal.returns
returns c = search emitted
