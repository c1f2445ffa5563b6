-- Document 01, "Records": which record values there are in the form where a peer has w bytes, that is, which have bytes that read back.
-- Assumes nothing.
use Rattle.std.specs.Prelude.{ℕ, ◌^◌, ◌≤◌, ◌<◌, ◌≡◌, true, List, [], ◌∷◌, length, get_or}
use Rattle.base_peer.specs.Data.{Node, bytes_of}
use Rattle.record.specs.Format.{Rec, peer_length, present, size_by}
use Rattle.record.specs.Read.{header_ok, id_ok, present_ok}
use Rattle.record.specs.declared.Header.{Header}

-- a record's header
unfoldable pub header_in_by : ℕ → Rec → Header
header_in_by w e = record {
  kind = e.kind;
  message = e.message;
  flags = e.flags;
  nodes = length e.nodes;
  peer = e.peer;
  second = e.second;
  ttl = e.ttl;
  size = size_by w e;
  number = e.number;
}

-- a node that a record with header h may have
pub record NodeInForm (w : ℕ) (h : Header) (n : Node) : Type 0 where
  pub id : n.id < 256 ^ w
  pub few : length (bytes_of n.data_of) ≤ 16
  pub bytes : (k : ℕ) → get_or (bytes_of n.data_of) k 0 < 256
  pub unnamed : id_ok h n.id ≡ true
  pub there : present_ok h (present n.data_of) ≡ true

unfoldable pub NodesInFormBy : ℕ → Header → List Node → Type 0
NodesInFormBy w h [] = Unit {0}
NodesInFormBy w h (n ∷ ns) = NodeInForm w h n × NodesInFormBy w h ns

-- numbers within their widths, the fields of the kind and no others, and nodes in form
pub record InFormBy (w : ℕ) (e : Rec) : Type 0 where
  pub header : header_ok (header_in_by w e) ≡ true
  pub peer : e.peer < 256 ^ w
  pub second : e.second < 256 ^ w
  pub ttl : e.ttl < 2 ^ 16
  pub number : e.number < 2 ^ 64
  pub nodes : NodesInFormBy w (header_in_by w e) e.nodes

-- ---- the same in this form

abbrev pub header_in : Rec → Header
header_in = header_in_by peer_length

abbrev pub NodesInForm : Header → List Node → Type 0
NodesInForm = NodesInFormBy peer_length

abbrev pub InForm : Rec → Type 0
InForm = InFormBy peer_length
