-- By cases: an event shorter than its header, or both comparisons of its byte.
use Rattle.hyparview.proofs.Sides.{too_short, by_count}
use Rattle.hyparview.proofs.has_too_many.Goals as goal

pub returns-then-b-lt-HEADER : goal.returns-then-b-lt-HEADER
returns-then-b-lt-HEADER c = search too_short

pub returns : goal.returns
returns c = search by_count
