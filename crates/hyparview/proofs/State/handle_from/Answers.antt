-- By value it is `handle_from` over a copy of the words: its contract is the one wanted.
use Rattle.hyparview.proofs.State.handle_from.Goals as goal

pub returns : goal.returns
returns c = c.handle_from-d.ensures
