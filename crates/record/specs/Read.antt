-- Document 01, "Records": which bytes are a record of the form where a peer has w bytes, what it then says, and which bytes are an event.
-- Assumes nothing.
use Rattle.std.specs.Prelude.{ℕ, zero, suc, ◌+◌, ◌*◌, Bool, true, not, ◌&&◌, ◌||◌, List, [], ◌∷◌, length, get_or, leb, ltb, eqb}
use Rattle.std.proofs.Math.Option.{Option, none, some}
use Rattle.std.proofs.Math.Seq.{slice}
use Rattle.base_lists.specs.Lists.{choose}
use Rattle.base_lists.specs.Bytes.{read_le}
use Rattle.base_peer.specs.Data.{Data, Node}
use Rattle.record.specs.Kinds.{Message, DoShuffle, DoMaintenance, PendingNeighborRequest, RetryJoin, UpdatePeerData, Quit, PeerData, kind_byte, output_byte, is_event_kind, is_kind}
use Rattle.record.specs.Format.{Rec, most_nodes, peer_length, header_length, header_length_by, node_length, place_by}
use Rattle.record.specs.declared.Header.{Header}
use Rattle.record.specs.declared.Entry.{Entry}

-- UpdatePeerData and peer data, whose one node has data
abbrev pub is_data_kind : ℕ → Bool
is_data_kind k = eqb k (kind_byte UpdatePeerData) || eqb k (output_byte PeerData)

-- Part 3 and S-8, "fixed sizes": 44 for kinds 7 and 11, 32 for the other kinds, 0 for every other byte
unfoldable pub fixed_size : ℕ → ℕ
unfolding is_kind
fixed_size k = choose (is_data_kind k) (header_length + node_length) (choose (is_kind k) header_length 0)

-- the header's fields, as they stand
unfoldable pub header_of_by : ℕ → List ℕ → Header
header_of_by w b = record {
  kind = get_or b 0 0;
  message = get_or b 1 0;
  flags = get_or b 2 0;
  nodes = get_or b 3 0;
  peer = read_le w b 4;
  second = read_le w b (4 + w);
  ttl = read_le 2 b (4 + 2 * w);
  size = read_le 2 b (6 + 2 * w);
  number = read_le 8 b (8 + 2 * w);
}

-- the fields of the node entry at a place, as they stand
unfoldable pub entry_from : ℕ → List ℕ → ℕ → Entry
entry_from w b at = record {
  id = read_le w b at;
  offset = read_le 2 b (at + w);
  len = get_or b (at + (w + 2)) 0;
  present = get_or b (at + (w + 3)) 0;
}

-- the i-th node entry
unfoldable pub entry_at_by : ℕ → List ℕ → ℕ → Entry
entry_at_by w b i = entry_from w b (place_by w i)

-- message m
unfoldable pub is_message : ℕ → Header → Bool
is_message m h = eqb h.kind (kind_byte Message) && eqb h.message m

-- DoShuffle, DoMaintenance, PendingNeighborRequest, RetryJoin
unfoldable pub is_timer : Header → Bool
is_timer h = leb (kind_byte DoShuffle) h.kind && leb h.kind (kind_byte RetryJoin)

unfoldable pub is_data : Header → Bool
is_data h = is_data_kind h.kind

-- "Byte 0", "Byte 1": a known kind, the same in both forms, and a message only in kind 0
unfoldable pub kind_ok : Header → Bool
kind_ok h = not (eqb (fixed_size h.kind) 0) && choose (eqb h.kind (kind_byte Message)) (leb h.message 5) (eqb h.message 0)

-- "Byte 2": Neighbor has one flag, Disconnect two
unfoldable pub flags_ok : Header → Bool
flags_ok h = choose (is_message 4 h) (leb h.flags 1) (choose (is_message 5 h) (leb h.flags 3) (eqb h.flags 0))

-- "Byte 3": the node count
unfoldable pub count_ok : Header → Bool
count_ok h =
    choose (is_message 0 h || (is_message 1 h || (is_message 4 h || is_data h))) (eqb h.nodes 1)
    (choose (is_message 2 h || is_message 3 h) (leb h.nodes most_nodes) (eqb h.nodes 0))

-- "Peer is 0 in kinds 1, 2, 7, 8"
unfoldable pub peer_ok : Header → Bool
peer_ok h =
    choose (eqb h.kind (kind_byte DoShuffle) || (eqb h.kind (kind_byte DoMaintenance) || (eqb h.kind (kind_byte UpdatePeerData) || eqb h.kind (kind_byte Quit))))
    (eqb h.peer 0) true

-- "Fields not named for a kind are 0": origin and delay, ttl, number
unfoldable pub fields_ok : Header → Bool
fields_ok h =
    choose (is_message 2 h || is_timer h) true (eqb h.second 0)
    && (choose (is_message 1 h || is_message 2 h) true (eqb h.ttl 0)
    && choose (eqb h.kind (kind_byte PendingNeighborRequest) || eqb h.kind (kind_byte RetryJoin)) true (eqb h.number 0))

-- what the header alone must meet
unfoldable pub header_ok : Header → Bool
header_ok h = kind_ok h && (flags_ok h && (count_ok h && (peer_ok h && fields_ok h)))

-- "Node": absent data has offset and length 0; data present stand at the place reached, at most 16 bytes
unfoldable pub data_ok : Entry → ℕ → Bool
data_ok e at =
    choose (eqb e.present 0) (eqb e.offset 0 && eqb e.len 0)
    (eqb e.present 1 && (eqb e.offset at && leb e.len 16))

-- "The id is 0 in Join, Neighbor, kinds 7 and 11."
abbrev pub id_ok : Header → ℕ → Bool
id_ok h id = choose (is_message 0 h || (is_message 4 h || is_data h)) (eqb id 0) true

-- "Kinds 7 and 11 have present 1."
abbrev pub present_ok : Header → ℕ → Bool
present_ok h p = choose (is_data h) (eqb p 1) true

unfoldable pub entry_ok : Header → Entry → ℕ → Bool
entry_ok h e at = data_ok e at && (id_ok h e.id && present_ok h e.present)

-- n entries from the i-th on are sound, and their data reach from place `at` to the whole length
unfoldable pub entries_ok_by : ℕ → Header → List ℕ → ℕ → ℕ → ℕ → Bool
entries_ok_by w h b i zero at = eqb at (length b)
entries_ok_by w h b i (suc n) at = entry_ok h (entry_at_by w b i) at && entries_ok_by w h b (suc i) n (at + (entry_at_by w b i).len)

-- the bytes are a record
unfoldable pub well_formed_by : ℕ → List ℕ → Bool
well_formed_by w b =
    leb (header_length_by w) (length b)
    && (header_ok (header_of_by w b)
    && (eqb (header_of_by w b).size (length b)
    && entries_ok_by w (header_of_by w b) b 0 (header_of_by w b).nodes (place_by w (header_of_by w b).nodes)))

-- "A node's data is handed back as a part of the event's own bytes"
unfoldable pub data_at : List ℕ → Entry → Data
data_at b e = choose (eqb e.present 0) none (some (slice e.offset (e.offset + e.len) b))

unfoldable pub node_at_by : ℕ → List ℕ → ℕ → Node
node_at_by w b i = record { id = (entry_at_by w b i).id; data_of = data_at b (entry_at_by w b i) }

-- n nodes from the i-th on
unfoldable pub nodes_of_by : ℕ → List ℕ → ℕ → ℕ → List Node
nodes_of_by w b i zero = []
nodes_of_by w b i (suc n) = node_at_by w b i ∷ nodes_of_by w b (suc i) n

-- what bytes say that are a record
unfoldable pub rec_of_by : ℕ → List ℕ → Rec
rec_of_by w b = record {
  kind = (header_of_by w b).kind;
  message = (header_of_by w b).message;
  flags = (header_of_by w b).flags;
  peer = (header_of_by w b).peer;
  second = (header_of_by w b).second;
  ttl = (header_of_by w b).ttl;
  number = (header_of_by w b).number;
  nodes = nodes_of_by w b 0 (header_of_by w b).nodes;
}

-- The one reader for all kinds
unfoldable pub decode_by : ℕ → List ℕ → Option Rec
decode_by w b = choose (well_formed_by w b) (some (rec_of_by w b)) none

-- ---- the same in this form

abbrev pub header_of : List ℕ → Header
header_of = header_of_by peer_length

abbrev pub entry_at : List ℕ → ℕ → Entry
entry_at = entry_at_by peer_length

abbrev pub entries_ok : Header → List ℕ → ℕ → ℕ → ℕ → Bool
entries_ok = entries_ok_by peer_length

abbrev pub well_formed : List ℕ → Bool
well_formed = well_formed_by peer_length

abbrev pub node_at : List ℕ → ℕ → Node
node_at = node_at_by peer_length

abbrev pub nodes_of : List ℕ → ℕ → ℕ → List Node
nodes_of = nodes_of_by peer_length

abbrev pub rec_of : List ℕ → Rec
rec_of = rec_of_by peer_length

abbrev pub decode : List ℕ → Option Rec
decode = decode_by peer_length

-- "as an event, kinds 9 to 11 and a timer's nonzero delay are malformed", and kind 12 by S-2
unfoldable pub is_event : Header → Bool
unfolding is_event_kind
is_event h = is_event_kind h.kind && choose (is_timer h) (eqb h.second 0) true

-- an event, or its refusal
pub data Reading : Type 0 where
  refused : ℕ → Reading
  event : Rec → Reading

-- "Order: 3 if under 24 bytes; 4; any other 3", since S-8 under 32
unfoldable pub read_event : List ℕ → Reading
read_event b =
    choose (ltb (length b) header_length) (refused 3)
    (choose (ltb most_nodes (get_or b 3 0)) (refused 4)
    (choose (well_formed b && is_event (header_of b)) (event (rec_of b)) (refused 3)))
