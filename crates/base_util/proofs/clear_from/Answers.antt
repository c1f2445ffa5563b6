-- From k on there are the zeroes that were filled in; a k past the end leaves all as it is.
use Rattle.base_util.proofs.Stores.{cleared_past, none_past}
use Rattle.base_util.proofs.clear_from.Goals as goal

pub returns-then-k-s : goal.returns-then-k-s
returns-then-k-s c = cleared_past _ _ _ c.if-k-s.true (c.fill.ensures.after (λ y e. e))

pub returns-else-k-s : goal.returns-else-k-s
returns-else-k-s c = search none_past
