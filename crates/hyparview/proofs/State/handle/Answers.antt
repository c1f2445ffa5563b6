-- It is the call that names its side, from the wired one, which is `handle` for the definition too.
use mathlib.Core.Path.{◌∙◌}
use Rattle.hyparview.proofs.Sides.{wired_is}
use Rattle.hyparview.proofs.State.handle.Goals as goal

pub returns : goal.returns
returns c = c.handle_from.ensures ∙ wired_is _ _ _ _
