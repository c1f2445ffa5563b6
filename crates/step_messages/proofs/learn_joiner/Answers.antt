-- By cases of the walk's length: the joiner is added to the passive view, or the work stays as it is.
use Rattle.step_messages.proofs.Laws.{joiner_learned, joiner_unlearned}
use Rattle.step_messages.proofs.learn_joiner.Goals as goal

pub returns-then-ttl-st : goal.returns-then-ttl-st
returns-then-ttl-st c = search joiner_learned

pub returns : goal.returns
returns c = search joiner_unlearned
