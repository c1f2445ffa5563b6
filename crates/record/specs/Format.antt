-- Document 01, "Records": what a record is, and its bytes: a header, an entry for each node, then the nodes' data without gaps. A peer has w bytes:
-- 8 since document 02, S-8, which makes headers of 32 bytes and entries of 12; 4 in the old form, with headers of 24 and entries of 8.
-- Assumes nothing.
use Rattle.std.specs.Prelude.{ℕ, ◌+◌, ◌*◌, ◌≡◌, List, [], ◌∷◌, ◌++◌, length}
use Rattle.std.proofs.Math.Option.{none, some}
use Rattle.base_lists.specs.Bytes.{le}
use Rattle.base_peer.specs.Data.{Data, Node, bytes_of}

-- the bytes of a peer's number, in this form and in the old one
abbrev pub peer_length : ℕ
peer_length = 8

abbrev pub old_peer_length : ℕ
old_peer_length = 4

-- the most nodes that a record names
abbrev pub most_nodes : ℕ
most_nodes = 32

-- the first number that has more than four bytes
abbrev pub four_bytes_end : ℕ
four_bytes_end = 4294967296

-- w is the bytes of a peer in one of the two forms
pub record IsForm (w : ℕ) : Type 0 where
  pub other : (w ≡ old_peer_length → ⊥) → w ≡ peer_length

-- the bytes of a header and of a node entry
abbrev pub header_length_by : ℕ → ℕ
header_length_by w = 16 + 2 * w

abbrev pub node_length_by : ℕ → ℕ
node_length_by w = 4 + w

-- where the i-th node entry stands, and from the entry after the last on the data
abbrev pub place_by : ℕ → ℕ → ℕ
place_by w i = header_length_by w + node_length_by w * i

abbrev pub header_length : ℕ
header_length = header_length_by peer_length

abbrev pub node_length : ℕ
node_length = node_length_by peer_length

-- A record's fields, the same for events and output. `second` is a Shuffle's origin or an output timer's delay.
pub record Rec : Type 0 where
  pub kind : ℕ
  pub message : ℕ
  pub flags : ℕ
  pub peer : ℕ
  pub second : ℕ
  pub ttl : ℕ
  pub number : ℕ
  pub nodes : List Node

-- the last byte of a node entry
unfoldable pub present : Data → ℕ
present none = 0
present (some b) = 1

-- a node entry's offset: the place that the data have reached, 0 where there is none
unfoldable pub offset : Data → ℕ → ℕ
offset none at = 0
offset (some b) at = at

unfoldable pub entry_by : ℕ → Node → ℕ → List ℕ
entry_by w n at = le w n.id ++ (le 2 (offset n.data_of at) ++ (length (bytes_of n.data_of) ∷ present n.data_of ∷ []))

-- the entries of the nodes whose data stand from place `at` on
unfoldable pub entries_by : ℕ → List Node → ℕ → List ℕ
entries_by w [] at = []
entries_by w (n ∷ ns) at = entry_by w n at ++ entries_by w ns (at + length (bytes_of n.data_of))

unfoldable pub datas : List Node → List ℕ
datas [] = []
datas (n ∷ ns) = bytes_of n.data_of ++ datas ns

-- the whole length of a record
unfoldable pub size_by : ℕ → Rec → ℕ
size_by w e = header_length_by w + (node_length_by w * length e.nodes + length (datas e.nodes))

unfoldable pub header_by : ℕ → Rec → List ℕ
header_by w e =
    e.kind ∷ e.message ∷ e.flags ∷ length e.nodes
    ∷ (le w e.peer ++ (le w e.second ++ (le 2 e.ttl ++ (le 2 (size_by w e) ++ le 8 e.number))))

-- the bytes of a record
unfoldable pub encode_by : ℕ → Rec → List ℕ
encode_by w e = header_by w e ++ (entries_by w e.nodes (place_by w (length e.nodes)) ++ datas e.nodes)

-- ---- the same in this form

abbrev pub entry : Node → ℕ → List ℕ
entry = entry_by peer_length

abbrev pub entries : List Node → ℕ → List ℕ
entries = entries_by peer_length

abbrev pub size : Rec → ℕ
size = size_by peer_length

abbrev pub header : Rec → List ℕ
header = header_by peer_length

abbrev pub encode : Rec → List ℕ
encode = encode_by peer_length
