-- The tally is raised by what the call answered, so all that is left is the definition's.
use Rattle.controller.proofs.Laws.{called_by}
use Rattle.controller.proofs.hyparview_handle.Goals as goal

pub returns : goal.returns
returns c = called_by _ _ _ _ _ _ _ _ _ _ _ c.raise.ensures c.handle_from-r.ensures
