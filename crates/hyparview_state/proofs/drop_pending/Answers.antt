-- The two steps, one after the other, are the definition's sequence.
use mathlib.Core.Path.{refl}
use Rattle.spec_hyparview.specs.Messages.{drop_pending}
use Rattle.hyparview_state.proofs.Bridge.{change_then}
use Rattle.hyparview_state.proofs.drop_pending.Goals as goal

pub returns : goal.returns
unfolding drop_pending
returns c = change_then _ (λ ds out. refl) c.drop_request.ensures c.drop_join-a.ensures
