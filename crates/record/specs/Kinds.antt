-- Document 01, "Records", byte 0: the kinds of records. Those of events have the names of hyparview.rs, its InEvent and Timer, and Pin is of document 02, S-14;
-- the others stand in outputs alone.
-- A test names on its `unfolding` line what it computes by, so that a proof names the test alone.
-- Assumes nothing.
use Rattle.std.specs.Prelude.{ℕ, Bool, true, false, ◌||◌, List, [], ◌∷◌, eqb}
use Rattle.std.proofs.Math.Option.{Option, none, some}
use Rattle.base_lists.specs.Lists.{choose}

pub data EventKind : Type 0 where
  Message : EventKind
  DoShuffle : EventKind
  DoMaintenance : EventKind
  PendingNeighborRequest : EventKind
  RetryJoin : EventKind
  PeerDisconnected : EventKind
  RequestJoin : EventKind
  UpdatePeerData : EventKind
  Quit : EventKind
  Pin : EventKind

unfoldable pub event_kinds : List EventKind
event_kinds =
    Message ∷ DoShuffle ∷ DoMaintenance ∷ PendingNeighborRequest ∷ RetryJoin
    ∷ PeerDisconnected ∷ RequestJoin ∷ UpdatePeerData ∷ Quit ∷ Pin ∷ []

abbrev pub kind_byte : EventKind → ℕ
kind_byte Message = 0
kind_byte DoShuffle = 1
kind_byte DoMaintenance = 2
kind_byte PendingNeighborRequest = 3
kind_byte RetryJoin = 4
kind_byte PeerDisconnected = 5
kind_byte RequestJoin = 6
kind_byte UpdatePeerData = 7
kind_byte Quit = 8
kind_byte Pin = 13

-- the notices, the data of a peer, and by document 02, S-2, who was evicted
pub data OutputKind : Type 0 where
  NeighborUp : OutputKind
  NeighborDown : OutputKind
  PeerData : OutputKind
  Evicted : OutputKind

unfoldable pub output_kinds : List OutputKind
output_kinds = NeighborUp ∷ NeighborDown ∷ PeerData ∷ Evicted ∷ []

abbrev pub output_byte : OutputKind → ℕ
output_byte NeighborUp = 9
output_byte NeighborDown = 10
output_byte PeerData = 11
output_byte Evicted = 12

-- the kind among these whose byte is b
unfoldable pub find_kind : {K : Type 0} → (K → ℕ) → List K → ℕ → Option K
find_kind f [] b = none
find_kind f (k ∷ ks) b = choose (eqb b (f k)) (some k) (find_kind f ks b)

unfoldable pub is_found : {K : Type 0} → Option K → Bool
is_found none = false
is_found (some k) = true

unfoldable pub event_kind : ℕ → Option EventKind
unfolding event_kinds find_kind
event_kind b = find_kind kind_byte event_kinds b

unfoldable pub is_event_kind : ℕ → Bool
unfolding event_kind is_found
is_event_kind b = is_found (event_kind b)

unfoldable pub is_output_kind : ℕ → Bool
unfolding output_kinds find_kind is_found
is_output_kind b = is_found (find_kind output_byte output_kinds b)

unfoldable pub is_kind : ℕ → Bool
unfolding is_event_kind is_output_kind
is_kind b = is_event_kind b || is_output_kind b
