-- Laws of a record's bytes: how long each part of them is.
-- Assumes nothing.
use Prim.Native.Nat.{ℕ, ◌+◌, ◌*◌}
use mathlib.Core.Path.{◌≡◌}
use mathlib.Core.List.{List, [], ◌∷◌, ◌++◌}
use native.Mathlib.Omega.{arith}
use lib.ListN.{length, length-append}
use Rattle.base_lists.specs.Bytes.{le}
use Rattle.base_lists.proofs.Bytes.{length_le}
use Rattle.base_peer.specs.Data.{Node, bytes_of}
use Rattle.record.specs.Format.{Rec, peer_length, header_length_by, node_length_by, offset, present, entry_by, entries_by, datas, size, size_by, header_by, encode, encode_by}

module _ (w : ℕ) where
  pub length_entry : (n : Node) (at : ℕ) → length (entry_by w n at) ≡ node_length_by w
  unfolding entry_by le
  length_entry n at =
      omega
      (arith, length-append (le w n.id) (le 2 (offset n.data_of at) ++ (length (bytes_of n.data_of) ∷ present n.data_of ∷ [])), length_le w n.id)

  pub length_entries : (ns : List Node) (at : ℕ) → length (entries_by w ns at) ≡ node_length_by w * length ns
  unfolding entries_by
  length_entries [] at = omega arith
  length_entries (n ∷ ns) at =
      omega
      (arith, length-append (entry_by w n at) (entries_by w ns (at + length (bytes_of n.data_of))), length_entry n at, length_entries ns (at + length (bytes_of n.data_of)))

  pub length_header : (e : Rec) → length (header_by w e) ≡ header_length_by w
  unfolding header_by le
  length_header e =
      omega
      (arith, length-append (le w e.peer) (le w e.second ++ (le 2 e.ttl ++ (le 2 (size_by w e) ++ le 8 e.number))), length-append (le w e.second) (le 2 e.ttl ++ (le 2 (size_by w e) ++ le 8 e.number)), length_le w e.peer, length_le w e.second)

  -- a record takes as many bytes as its whole length says
  pub length_encode_by : (e : Rec) → length (encode_by w e) ≡ size_by w e
  unfolding encode_by size_by
  length_encode_by e =
      let at : ℕ = header_length_by w + node_length_by w * length e.nodes in
      omega
      (arith, length-append (header_by w e) (entries_by w e.nodes at ++ datas e.nodes), length-append (entries_by w e.nodes at) (datas e.nodes), length_header e, length_entries e.nodes at)

pub length_encode : (e : Rec) → length (encode e) ≡ size e
length_encode = length_encode_by peer_length
