-- The limit that is made is the definition's, unfolded.
use mathlib.Core.Path.{refl}
use Rattle.hyparview_state.specs.Unpack.{refill_in}
use Rattle.hyparview_state.proofs.RefillLimit.few_requests.Goals as goal

pub returns : goal.returns
unfolding refill_in
returns c = refl
