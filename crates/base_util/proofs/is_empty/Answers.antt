-- The count is 0 exactly where the set has no items.
use Rattle.base_util.proofs.Sets.{empty_is_null}
use Rattle.base_util.proofs.is_empty.Goals as goal

pub returns : goal.returns
returns c = search empty_is_null
