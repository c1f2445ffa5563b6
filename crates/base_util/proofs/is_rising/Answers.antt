-- The first words, as many as the count says, are the set's items, and `rises` decides whether they rise.
use Rattle.base_util.proofs.Sets.{lent_fits, lent_rising}
use Rattle.base_util.proofs.is_rising.Goals as goal

pub rises-requires : goal.rises-requires
rises-requires c = search lent_fits

pub returns : goal.returns
returns c = search lent_rising
