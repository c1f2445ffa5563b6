-- Too large a count fails the test; otherwise the two runs of zeroes and the rising keys are the definition's own tests.
use Rattle.base_columns.proofs.Numbers.{test_no, test_all}
use Rattle.base_columns.proofs.numbers_valid.Goals as goal

pub returns-then-n-cap : goal.returns-then-n-cap
returns-then-n-cap c = search test_no

pub returns : goal.returns
returns c = search test_all
