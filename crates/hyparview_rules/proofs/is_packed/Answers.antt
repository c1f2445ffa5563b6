-- The tests of words, own data and sections are together the definition's, whose test of the length holds by the condition.
use Rattle.hyparview_rules.proofs.Under.{packed_is}
use Rattle.hyparview_rules.proofs.is_packed.Goals as goal

pub returns : goal.returns
returns c =
    packed_is _ c.fits-st c.told-st _ _ c.row_valid.ensures c.sections_valid.ensures
