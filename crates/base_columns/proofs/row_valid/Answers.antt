-- By cases on the length: too long, within the first word, within the second or full; a small word has zero bytes past its place.
use Rattle.base_columns.proofs.Past.{row_no, row_short, row_long, row_full}
use Rattle.base_columns.proofs.row_valid.Goals as goal

pub returns-then-l-gt-IN_BOTH : goal.returns-then-l-gt-IN_BOTH
returns-then-l-gt-IN_BOTH c = search row_no

pub returns-then-l-lt-IN_ONE : goal.returns-then-l-lt-IN_ONE
returns-then-l-lt-IN_ONE c = search row_short

pub returns-then-l-lt-IN_BOTH : goal.returns-then-l-lt-IN_BOTH
returns-then-l-lt-IN_BOTH c = search row_long

pub returns : goal.returns
returns c = search row_full
