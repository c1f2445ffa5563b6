-- `handle` by value is the definition's step with draws of 0, on the bytes cut off at the event's length.
use Rattle.endings.proofs.Events.{plays}
use Rattle.endings.proofs.play.Goals as goal

pub returns-clause-state_value : goal.returns-clause-state_value
returns-clause-state_value c = search plays
