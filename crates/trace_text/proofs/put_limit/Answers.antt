-- By cases on the kind of the limit, each of which has its own letter.
use Rattle.trace_text.specs.Items.{ascii}
use Rattle.trace_text.proofs.Laws.{limit_automatic, limit_requests, limit_recovery}
use Rattle.trace_text.proofs.put_limit.Goals as goal

pub returns-in-0 : goal.returns-in-0
unfolding ascii
returns-in-0 c = search limit_automatic

pub returns-in-1 : goal.returns-in-1
unfolding ascii
returns-in-1 c = search limit_requests

pub returns-in_default : goal.returns-in_default
unfolding ascii
returns-in_default c = search limit_recovery
