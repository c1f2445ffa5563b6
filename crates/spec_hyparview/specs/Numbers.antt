-- Document 01, demand 3: how many messages an event adds to the allowance, by its kind and message, at the active capacity a.
-- Assumes nothing.
use Rattle.std.specs.Prelude.{ℕ, ◌+◌, eqb}
use Rattle.std.proofs.Math.Option.{Option, none, some}
use Rattle.base_lists.specs.Lists.{choose}
use Rattle.record.specs.Kinds.{EventKind, Message, DoShuffle, DoMaintenance, PendingNeighborRequest, RetryJoin, PeerDisconnected, RequestJoin, UpdatePeerData, Quit, Pin}

-- "(A + 2) for a Join received, 3 for a Neighbor received, .. 1 for any other" message
unfoldable pub message_number : ℕ → ℕ → ℕ
message_number a m = choose (eqb m 0) (a + 2) (choose (eqb m 4) 3 1)

-- "9 for a maintenance timer, 0 for Quit or a change of own data, 1 for any other", and by 02, S-14, 0 for a pin
unfoldable pub kind_number : ℕ → ℕ → Option EventKind → ℕ
kind_number a m none = 0
kind_number a m (some Message) = message_number a m
kind_number a m (some DoShuffle) = 1
kind_number a m (some DoMaintenance) = 9
kind_number a m (some PendingNeighborRequest) = 1
kind_number a m (some RetryJoin) = 1
kind_number a m (some PeerDisconnected) = 1
kind_number a m (some RequestJoin) = 1
kind_number a m (some UpdatePeerData) = 0
kind_number a m (some Quit) = 0
kind_number a m (some Pin) = 0
