-- What a `PeerData` and a `PeerInfo` stand for, and the fields that a state keeps of its own data, which may be any.
-- Assumes nothing.
use Rattle.std.specs.Prelude.{ℕ, ◌≤◌, ◌≡◌, Bool, false, ◌&&◌, ◌||◌, List, length, take, leb, eqb, Option, Some, None}
use Rattle.std.proofs.Math.Option.{none, some}
use Rattle.base_lists.specs.Lists.{choose}
use Rattle.base_lists.specs.Array.{pad}
use Rattle.base_lists.specs.Tests.{packed}
use Rattle.base_peer.specs.Data.{Data, Node}
use Rattle.base_peer.specs.declared.PeerData.{PeerData}
use Rattle.base_peer.specs.declared.PeerInfo.{PeerInfo}

-- the data that d stands for, which determines d
unfoldable pub data_in : Option PeerData → Data
data_in None = none
data_in (Some d) = some (take d.len d.bytes)

-- the peer with its data that n stands for, which determines n
unfoldable pub node_in : PeerInfo → Node
node_in n = record { id = n.id; data_of = data_in n.data }

-- the data that b makes: b where it has at most 16 bytes, and none where it has more
unfoldable pub taken : List ℕ → Data
taken b = choose (leb (length b) 16) (some b) none

-- ---- data as three fields

-- whether there is data, how many of the bytes are data, and the bytes
pub record DataFields : Type 0 where
  pub present : Bool
  pub len : ℕ
  pub bytes : List ℕ

-- the data that the fields d stand for
unfoldable pub fields_in : DataFields → Data
fields_in d = choose d.present (some (take d.len d.bytes)) none

-- at most 16 bytes, zeroes past them, and none where the data is absent
pub record ValidData (d : DataFields) : Type 0 where
  pub fits : d.len ≤ 16
  pub packed : d.bytes ≡ pad 0 16 (take d.len d.bytes)
  pub absent : d.present ≡ false → d.len ≡ 0

-- d is valid and stands for x, which determines d
pub record HoldsData (d : DataFields) (x : Data) : Type 0 where
  pub valid : ValidData d
  pub holds : fields_in d ≡ x

-- whether a byte is that of an unused place
abbrev pub zero_byte : ℕ → Bool
zero_byte b = eqb b 0

-- what `ValidData` says, as a test
unfoldable pub valid_data : DataFields → Bool
valid_data d = leb d.len 16 && (packed zero_byte 16 d.len d.bytes && (d.present || eqb d.len 0))
