-- What the writers do: a record's bytes from a place on, or nothing where they do not fit.
-- Assumes nothing.
use Rattle.std.specs.Prelude.{ℕ, ◌+◌, ◌*◌, ◌≡◌, Bool, List, ◌∷◌, ◌++◌, length, leb, Option, Some, None}
use Rattle.base_lists.specs.Lists.{choose}
use Rattle.base_lists.specs.Bytes.{le, overwrite}
use Rattle.base_peer.specs.Data.{Node, bytes_of}
use Rattle.base_peer.specs.Held.{data_in, node_in}
use Rattle.base_peer.specs.declared.PeerInfo.{PeerInfo}
use Rattle.record.specs.Format.{Rec, peer_length, header_length, node_length, entry, size, encode}
use Rattle.record_writer.specs.declared.Fields.{Fields}

-- the record with these fields and nodes
unfoldable pub rec_in : Fields → List Node → Rec
rec_in f ns = record {
  kind = f.kind;
  message = f.message;
  flags = f.flags;
  peer = f.peer;
  second = f.second;
  ttl = f.ttl;
  number = f.number;
  nodes = ns;
}

-- the bytes of the header of a record with these fields, n nodes and z bytes
unfoldable pub header_bytes : Fields → ℕ → ℕ → List ℕ
header_bytes f n z =
    f.kind ∷ f.message ∷ f.flags ∷ n
    ∷ (le peer_length f.peer ++ (le peer_length f.second ++ (le 2 f.ttl ++ (le 2 z ++ le 8 f.number))))

-- the bytes `out` with the i-th node of the record at place `at`: its entry, and its data at the place `reached` of the record
abbrev pub node_put : ℕ → ℕ → PeerInfo → ℕ → List ℕ → List ℕ
node_put at i p reached out =
    overwrite (overwrite out (at + (header_length + node_length * i)) (entry (node_in p) reached)) (at + reached)
    (bytes_of (data_in p.data))

-- the record fits into n bytes from place `at` on
unfoldable pub fits : Rec → ℕ → ℕ → Bool
fits e at n = leb (at + size e) n

-- the bytes `out` once the writer is through with them
unfoldable pub written : Rec → ℕ → List ℕ → List ℕ
written e at out = choose (fits e at (length out)) (overwrite out at (encode e)) out

-- the place reached, or that the record does not fit
unfoldable pub reached : Rec → ℕ → List ℕ → Option ℕ
reached e at out = choose (fits e at (length out)) (Some (at + size e)) None

-- r is the answer, and `after` is what became of the bytes `out`
pub record Wrote (e : Rec) (at : ℕ) (out : List ℕ) (r : Option ℕ) (after : List ℕ) : Type 0 where
  pub answer : r ≡ reached e at out
  pub bytes : after ≡ written e at out

-- what the header of a record of n nodes and z bytes is answered with, and what became of the bytes `out`: the whole record has to fit
pub record HeaderPut (f : Fields) (n z at : ℕ) (out : List ℕ) (r : Option ℕ) (after : List ℕ) : Type 0 where
  pub answer : r ≡ choose (leb (at + z) (length out)) (Some (at + z)) None
  pub bytes : after ≡ choose (leb (at + z) (length out)) (overwrite out at (header_bytes f n z)) out
