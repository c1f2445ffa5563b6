-- The numbers of the open requests, by peer, as the traffic tells them: a plain book that is fed with one item after another.
-- Assumes nothing.
use Rattle.std.specs.Prelude.{ℕ, Bool, false, ◌&&◌, ◌||◌, List, [], ◌∷◌, eqb}
use Rattle.std.proofs.Math.Option.{Option, none, some}
use Rattle.base_lists.specs.Lists.{choose}
use Rattle.base_lists.specs.Maps.{lookup, cut, put}
use Rattle.record.specs.Kinds.{Message, PendingNeighborRequest, PeerDisconnected, Quit, kind_byte}
use Rattle.spec_chatter.specs.Traffic.{Item, came, went}

-- messages by their number, as in 01, "Records"
abbrev pub join_message : ℕ
join_message = 0

abbrev pub neighbor_message : ℕ
neighbor_message = 4

abbrev pub disconnect_message : ℕ
disconnect_message = 5

-- Join, Neighbor, Disconnect
unfoldable pub is_answer : ℕ → Bool
is_answer m = eqb m join_message || (eqb m neighbor_message || eqb m disconnect_message)

-- n is the number that was found
unfoldable pub is_open : ℕ → Option ℕ → Bool
is_open n none = false
is_open n (some m) = eqb n m

-- an event of kind k, message m, peer p and number n closes what is open to p: "a Join, Neighbor or Disconnect from it, .. its disconnection, its request timer with the open number"
unfoldable pub closes : ℕ → ℕ → ℕ → ℕ → List (ℕ × ℕ) → Bool
closes k m p n numbers =
    (eqb k (kind_byte Message) && is_answer m)
    || (eqb k (kind_byte PeerDisconnected) || (eqb k (kind_byte PendingNeighborRequest) && is_open n (lookup p numbers)))

-- "or a Quit", which closes all
unfoldable pub open_on : ℕ → ℕ → ℕ → ℕ → List (ℕ × ℕ) → List (ℕ × ℕ)
open_on k m p n numbers = choose (eqb k (kind_byte Quit)) [] (choose (closes k m p n numbers) (cut p numbers) numbers)

-- a request timer that is scheduled opens its number
unfoldable pub open_by : ℕ → ℕ → ℕ → List (ℕ × ℕ) → List (ℕ × ℕ)
open_by k p n numbers = choose (eqb k (kind_byte PendingNeighborRequest)) (put p n numbers) numbers

unfoldable pub open_after : List Item → List (ℕ × ℕ) → List (ℕ × ℕ)
open_after [] numbers = numbers
open_after (came h ∷ xs) numbers = open_after xs (open_on h.kind h.message h.peer h.number numbers)
open_after (went h ∷ xs) numbers = open_after xs (open_by h.kind h.peer h.number numbers)
