-- Peer data and peers with their data, as the definitions speak of them (the Rust's `PeerData` and `PeerInfo`).
-- Assumes nothing.
use Rattle.std.specs.Prelude.{ℕ, Bool, false, List, []}
use Rattle.std.proofs.Math.Option.{Option, none, some}
use Rattle.base_lists.specs.Lists.{same}

-- absent, or the bytes; empty is not absent
abbrev pub Data : Type 0
Data = Option (List ℕ)

-- PeerInfo: a peer with its data
pub record Node : Type 0 where
  pub id : ℕ
  pub data_of : Data

-- the bytes, none where the data is absent
unfoldable pub bytes_of : Data → List ℕ
bytes_of none = []
bytes_of (some b) = b

-- whether the data is there and is b
unfoldable pub holds : Data → List ℕ → Bool
holds none b = false
holds (some a) b = same a b
