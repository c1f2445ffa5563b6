-- The side that is named decides which of the two calls it is.
use Rattle.hyparview.proofs.Sides.{from_radio, from_wired}
use Rattle.hyparview.proofs.handle_from.Goals as goal

pub returns-then-radio : goal.returns-then-radio
returns-then-radio c = search from_radio

pub returns : goal.returns
returns c = search from_wired
