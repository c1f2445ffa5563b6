-- By cases of the place: the first seven are of peer 2, the next seven of peer 3, then maintenance and Quit.
use Rattle.endings.proofs.Events.{of_two, of_three, at_14, at_15}
use Rattle.endings.proofs.put_event_at.Goals as goal

pub returns-then-i-lt-EVENTS_OF_PEER : goal.returns-then-i-lt-EVENTS_OF_PEER
returns-then-i-lt-EVENTS_OF_PEER c = search of_two

pub returns-then-i-lt-EVENTS_OF_PEERS : goal.returns-then-i-lt-EVENTS_OF_PEERS
returns-then-i-lt-EVENTS_OF_PEERS c = search of_three

pub returns-then-i-eq-EVENTS_OF_PEERS : goal.returns-then-i-eq-EVENTS_OF_PEERS
returns-then-i-eq-EVENTS_OF_PEERS c = search at_14

pub returns : goal.returns
returns c = search at_15
