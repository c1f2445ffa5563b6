-- The count says how many keys there are, and membership among those words is `has` of the map, by `number_has`.
use native.Mathlib.Omega.{arith}
use Rattle.base_columns.proofs.Numbers.{number_has}
use Rattle.base_columns.proofs.contains_number.Goals as goal

pub has_key-requires-clause-count_in_bounds : goal.has_key-requires-clause-count_in_bounds
has_key-requires-clause-count_in_bounds c = omega (arith, c.requires.fits, c.requires.long)

pub returns : goal.returns
returns c = search number_has
