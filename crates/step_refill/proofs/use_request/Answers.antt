-- By cases: work with a code, a limit that counts no requests, and one request less.
use Rattle.hyparview_state.proofs.Bridge.{on_passed}
use Rattle.step_refill.proofs.Limits.{used, not_used}
use Rattle.step_refill.proofs.use_request.Goals as goal

pub returns-then-w-ne0 : goal.returns-then-w-ne0
returns-then-w-ne0 c = search on_passed

pub returns-in_default : goal.returns-in_default
returns-in_default c = not_used _ _ c.requires.packed_state _ c.limit_of.ensures c.in_default.not-Requests

pub returns : goal.returns
returns c = used _ _ c.requires.packed_state _ c.limit_of.ensures _ _ _ c.if-w-ne0.false c.in-Requests.is c.saturating_sub.ensures c.keep_limit.ensures
