-- By cases of the word of the kind: the two words are read as one of the three limits.
use Rattle.hyparview_state.proofs.Memory.{limit_automatic, limit_requests, limit_recovery}
use Rattle.hyparview_state.proofs.limit_of.Goals as goal

pub returns-in-0 : goal.returns-in-0
returns-in-0 c = search limit_automatic

pub returns-in-1 : goal.returns-in-1
returns-in-1 c = search limit_requests

pub returns-in_default : goal.returns-in_default
returns-in_default c = search limit_recovery
