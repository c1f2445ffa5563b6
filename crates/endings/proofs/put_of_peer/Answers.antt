-- By cases of the place, one law for each of the seven events of a peer.
use Rattle.endings.proofs.Events.{at_0, at_1, at_2, at_3, at_4, at_5, at_6}
use Rattle.endings.proofs.put_of_peer.Goals as goal

pub returns-in-0 : goal.returns-in-0
returns-in-0 c = search at_0

pub returns-in-1 : goal.returns-in-1
returns-in-1 c = search at_1

pub returns-in-2 : goal.returns-in-2
returns-in-2 c = search at_2

pub returns-in-3 : goal.returns-in-3
returns-in-3 c = search at_3

pub returns-in-4 : goal.returns-in-4
returns-in-4 c = search at_4

pub returns-in-5 : goal.returns-in-5
returns-in-5 c = search at_5

pub returns-in_default : goal.returns-in_default
returns-in_default c = search at_6
