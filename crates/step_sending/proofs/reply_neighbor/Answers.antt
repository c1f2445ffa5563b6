-- By cases of whether an answer is wanted: a Neighbor is sent, or the work stays as it is.
use Rattle.step_sending.proofs.Told.{replied, not_replied}
use Rattle.step_sending.proofs.reply_neighbor.Goals as goal

pub returns-then-reply : goal.returns-then-reply
returns-then-reply c = search replied

pub returns : goal.returns
returns c = search not_replied
