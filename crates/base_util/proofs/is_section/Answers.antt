-- By cases: a count above the places is no set, and otherwise the places past the count must be zero.
use Rattle.base_util.specs.Section.{part}
use Rattle.base_util.proofs.Sets.{too_many, few}
use Rattle.base_util.proofs.is_section.Goals as goal

pub returns-then-cap-n : goal.returns-then-cap-n
returns-then-cap-n c = search too_many

pub returns : goal.returns
unfolding part
returns c = search few
