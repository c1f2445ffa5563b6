-- The rest of the events is what is left at the place reached; the rest are the called functions' contracts, put together by `ran`.
use mathlib.Core.Path.{ap, ◌∙◌}
use lib.ListN.{take}
use Rattle.run_input.specs.Input.{event_length}
use Rattle.run_walk.proofs.Laws.{rest_is, ran}
use Rattle.run_walk.proofs.step.Goals as goal

pub returns : goal.returns
returns c =
    let rest = rest_is _ _ _ c.min.ensures in
    ran _ _ _ _ _ _ _ _ _ _ (c.event_length-size.ensures.0 ∙ ap event_length rest) (ap (take c.event_length-size.result) rest) c.rest_from-left.ensures c.handle-a.ensures c.place_after.ensures
