-- By cases: wrong length, too large a count, or the rows and the unused words decide.
use Rattle.timer_map.proofs.Ways.{wrong_length, overfull, judged}
use Rattle.timer_map.proofs.queue_ok.Goals as goal

pub returns-then-q-ne-WORDS : goal.returns-then-q-ne-WORDS
returns-then-q-ne-WORDS c = search wrong_length

pub returns-then-n-gt-CAPACITY : goal.returns-then-n-gt-CAPACITY
returns-then-n-gt-CAPACITY c = search overfull

pub returns : goal.returns
returns c = search judged
