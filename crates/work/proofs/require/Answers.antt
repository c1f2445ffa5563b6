-- By cases: work that was refused passes on unchanged, a test that holds too, and otherwise the code is set.
use Rattle.work.proofs.Any.{required_passed, required_held, required_refused}
use Rattle.work.proofs.require.Goals as goal

pub returns-then-w-ne0 : goal.returns-then-w-ne0
returns-then-w-ne0 c = search required_passed

pub returns-then-test : goal.returns-then-test
returns-then-test c = search required_held

pub returns : goal.returns
returns c = search required_refused
