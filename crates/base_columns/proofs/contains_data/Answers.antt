-- The count says how many keys there are, and membership among those words is `has` of the map, by `data_has`.
use native.Mathlib.Omega.{arith}
use Rattle.base_columns.proofs.Data.{data_has}
use Rattle.base_columns.proofs.contains_data.Goals as goal

pub has_key-requires-clause-count_in_bounds : goal.has_key-requires-clause-count_in_bounds
has_key-requires-clause-count_in_bounds c = omega (arith, c.requires.fits, c.requires.long)

pub returns : goal.returns
returns c = search data_has
