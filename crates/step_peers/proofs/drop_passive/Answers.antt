-- The two steps, one after the other, are the definition's sequence.
use mathlib.Core.Path.{refl}
use Rattle.hyparview_state.proofs.Bridge.{change_then}
use Rattle.spec_hyparview.specs.Peers.{drop_passive}
use Rattle.step_peers.proofs.drop_passive.Goals as goal

pub returns : goal.returns
unfolding drop_passive
returns c = change_then _ (λ ds out. refl) c.forget_peer.ensures c.remove_passive-a.ensures
