-- The settings made are the definition's own, so `new` by value gives its first state.
use Rattle.endings.proofs.Events.{begins}
use Rattle.endings.proofs.first_station.Goals as goal

pub returns : goal.returns
returns c = search begins
