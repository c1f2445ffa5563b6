-- No number of demand 3's sum can be lowered: for each there is a list of calls to a new station, the last with an event of that number, after
-- which messages sent and two for each neighbour are the whole allowance. With a smaller number the allowance would be passed.
-- Assumes nothing.
use Prim.Native.Nat.{ℕ, suc, ◌+◌, ◌*◌}
use mathlib.Core.Path.{◌≡◌, refl}
use mathlib.Core.Bool.{true}
use mathlib.Core.List.{List, [], ◌∷◌, ◌++◌}
use mathlib.Core.Option.{none}
use lib.ListN.{length, replicate, take}
use Rattle.record.specs.Kinds.{Quit, DoShuffle, DoMaintenance, PendingNeighborRequest, RetryJoin, PeerDisconnected, RequestJoin, kind_byte}
use Rattle.base_timing.specs.Timing.{default}
use Rattle.base_timing.specs.declared.Config.{Config}
use Rattle.record.specs.Format.{Rec, encode}
use Rattle.spec_hyparview.specs.Sides.{wired}
use Rattle.spec_hyparview.specs.Rules.{all_under}
use Rattle.spec_hyparview.specs.Run.{node, message, timer, notice}
use Rattle.spec_history.specs.Calls.{Call}
use Rattle.spec_history.specs.Followed.{followed}

-- a call with the event e, 60 draws and 2,000 bytes
abbrev lent : (e : Rec) → all_under 256 (encode e) ≡ true → Call
lent e b = record { side = wired; event = encode e; are_bytes = b; draws = replicate 60 0; output = replicate 2000 0 }

-- a message m with its flags from peer p, with a node of no data
abbrev one_node : ℕ → ℕ → ℕ → ℕ → Rec
one_node m p f x = message m p f 0 0 (node x none ∷ [])

abbrev neighbor_from : ℕ → Rec
neighbor_from p = one_node 4 p 1 0

-- after the calls to station 1 with settings c: messages sent and two for each neighbour; and the allowance
abbrev pub spent_and_allowed : Config → List Call → ℕ × ℕ
spent_and_allowed c vs = let l = (followed 1 none c vs).0 in (l.sent + 2 * length l.up, l.allowance)

-- the default settings but for the active capacity
unfoldable pub capacity : ℕ → Config
capacity a = record {
  active_view_capacity = a;
  passive_view_capacity = 30;
  active_random_walk_length = 6;
  passive_random_walk_length = 3;
  shuffle_random_walk_length = 6;
  shuffle_active_view_count = 3;
  shuffle_passive_view_count = 4;
  shuffle_interval = 60000;
  neighbor_request_timeout = 3000;
}

unfoldable pub seven_neighbors : List Call
unfolding followed
seven_neighbors =
    lent (neighbor_from 2) refl ∷ lent (neighbor_from 3) refl ∷ lent (neighbor_from 4) refl ∷ lent (neighbor_from 5) refl
    ∷ lent (neighbor_from 6) refl ∷ lent (neighbor_from 7) refl ∷ lent (neighbor_from 8) refl ∷ []

unfoldable pub join : Call
unfolding followed
join = lent (one_node 0 9 0 0) refl

-- A = n + 1: a Join that comes when n neighbours are held is answered, counts for two, and is forwarded to each of the n
abbrev pub joined : ℕ → ℕ × ℕ
joined n = spent_and_allowed (capacity (suc n)) (take n seven_neighbors ++ (join ∷ []))

-- 3 for each of the n Neighbors, and n + 3 for the Join, at every capacity from 1 to 8
pub join_uses_all : joined 0 ∷ joined 1 ∷ joined 2 ∷ joined 3 ∷ joined 4 ∷ joined 5 ∷ joined 6 ∷ joined 7 ∷ [] ≡ (3, 3) ∷ (7, 7) ∷ (11, 11) ∷ (15, 15) ∷ (19, 19) ∷ (23, 23) ∷ (27, 27) ∷ (31, 31) ∷ []
unfolding followed seven_neighbors join capacity
join_uses_all = refl

-- 3: a Neighbor received is answered, and counts for two
unfoldable pub neighbor : Call
unfolding followed
neighbor = lent (neighbor_from 20) refl

pub neighbor_uses_all : spent_and_allowed default (neighbor ∷ []) ≡ (3, 3)
unfolding followed neighbor
neighbor_uses_all = refl

-- 9: a station that asked eight bootstrap peers and left its one neighbour by a Quit asks all nine of them to join
unfoldable pub eight_requests : List Call
unfolding followed
eight_requests =
    lent (notice (kind_byte RequestJoin) 10) refl ∷ lent (notice (kind_byte RequestJoin) 11) refl ∷ lent (notice (kind_byte RequestJoin) 12) refl ∷ lent (notice (kind_byte RequestJoin) 13) refl
    ∷ lent (notice (kind_byte RequestJoin) 14) refl ∷ lent (notice (kind_byte RequestJoin) 15) refl ∷ lent (notice (kind_byte RequestJoin) 16) refl ∷ lent (notice (kind_byte RequestJoin) 17) refl ∷ []

unfoldable pub quit : Call
unfolding followed
quit = lent (notice (kind_byte Quit) 0) refl

unfoldable pub maintenance : Call
unfolding followed
maintenance = lent (timer (kind_byte DoMaintenance) 0 0 0) refl

-- 8 for the requests, 3 for the Neighbor, 0 for the Quit
pub maintenance_uses_all : spent_and_allowed default (eight_requests ++ (neighbor ∷ quit ∷ maintenance ∷ [])) ≡ (20, 20)
unfolding followed eight_requests neighbor quit maintenance
maintenance_uses_all = refl

-- 1, for each of the other events. A reply with two new peers, from which a station without neighbours asks the first:
unfoldable pub reply : Call
unfolding followed
reply = lent (message 3 2 0 0 0 (node 8 none ∷ node 9 none ∷ [])) refl

pub reply_uses_all : spent_and_allowed default (reply ∷ []) ≡ (1, 1)
unfolding followed reply
reply_uses_all = refl

-- and if that one leaves, cannot be reached or does not answer, the second
unfoldable pub leaves : Call
unfolding followed
leaves = lent (message 5 8 0 0 0 []) refl

unfoldable pub closed : Call
unfolding followed
closed = lent (notice (kind_byte PeerDisconnected) 8) refl

unfoldable pub expired : Call
unfolding followed
expired = lent (timer (kind_byte PendingNeighborRequest) 8 0 0) refl

pub disconnect_uses_all : spent_and_allowed default (reply ∷ leaves ∷ []) ≡ (2, 2)
unfolding followed reply leaves
disconnect_uses_all = refl

pub closed_uses_all : spent_and_allowed default (reply ∷ closed ∷ []) ≡ (2, 2)
unfolding followed reply closed
closed_uses_all = refl

pub expired_uses_all : spent_and_allowed default (reply ∷ expired ∷ []) ≡ (2, 2)
unfolding followed reply expired
expired_uses_all = refl

-- a ForwardJoin at the end of its walk asks the peer that it names; a Shuffle there is answered
unfoldable pub forward_join : Call
unfolding followed
forward_join = lent (one_node 1 2 0 9) refl

pub forward_join_uses_all : spent_and_allowed default (forward_join ∷ []) ≡ (1, 1)
unfolding followed forward_join
forward_join_uses_all = refl

unfoldable pub shuffle : Call
unfolding followed
shuffle = lent (message 2 2 0 9 0 []) refl

pub shuffle_uses_all : spent_and_allowed default (shuffle ∷ []) ≡ (1, 1)
unfolding followed shuffle
shuffle_uses_all = refl

-- a shuffle timer with a neighbour
unfoldable pub do_shuffle : Call
unfolding followed
do_shuffle = lent (timer (kind_byte DoShuffle) 0 0 0) refl

pub do_shuffle_uses_all : spent_and_allowed default (neighbor ∷ do_shuffle ∷ []) ≡ (4, 4)
unfolding followed neighbor do_shuffle
do_shuffle_uses_all = refl

-- a request to join, and its retry
unfoldable pub request_join : Call
unfolding followed
request_join = lent (notice (kind_byte RequestJoin) 7) refl

unfoldable pub retry_join : Call
unfolding followed
retry_join = lent (timer (kind_byte RetryJoin) 7 0 0) refl

pub request_uses_all : spent_and_allowed default (request_join ∷ []) ≡ (1, 1)
unfolding followed request_join
request_uses_all = refl

pub retry_uses_all : spent_and_allowed default (request_join ∷ retry_join ∷ []) ≡ (2, 2)
unfolding followed request_join retry_join
retry_uses_all = refl
