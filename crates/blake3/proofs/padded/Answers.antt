-- `padded` meets its contract: the bytes stand before the zeroes.
use Rattle.blake3.proofs.Laws.{filled}
use Rattle.blake3.proofs.padded.Goals as goal

pub returns : goal.returns
returns c = filled _ _ _ c.requires c.copy_from_slice.ensures.after
