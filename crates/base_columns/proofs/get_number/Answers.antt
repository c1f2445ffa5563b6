-- By cases on whether `find` met the key: the number stands at its place in the second column; otherwise the map has none.
use Rattle.base_util.specs.Section.{part}
use Rattle.base_columns.proofs.Numbers.{number_found, number_none}
use Rattle.base_columns.proofs.get_number.Goals as goal

pub returns-then-i-n : goal.returns-then-i-n
unfolding part
returns-then-i-n c = search number_found

pub returns-else-i-n : goal.returns-else-i-n
unfolding part
returns-else-i-n c = search number_none
