-- What a map has for a peer: a number, or data in an entry of a length and 16 bytes.
-- Assumes nothing.
use Rattle.std.specs.Prelude.{ℕ, ◌≤◌, ◌≡◌, Bool, true, ◌&&◌, List, [], ◌∷◌, take, replicate, leb, ltb, Option, Some, None}
use Rattle.std.proofs.Math.Option as Math
use Rattle.std.proofs.Math.Option.{none, some}
use Rattle.base_lists.specs.Array.{pad}
use Rattle.base_lists.specs.Tests.{packed}
use Rattle.base_peer.specs.Held.{zero_byte}

-- ---- numbers by peer

-- the number that an answer names, if any
unfoldable pub number_in : Option ℕ → Math.Option ℕ
number_in None = none
number_in (Some n) = some n

-- whether every number is below n (01: open numbers are below their counters)
unfoldable pub numbers_under : ℕ → List (ℕ × ℕ) → Bool
numbers_under n [] = true
numbers_under n (e ∷ m) = ltb e.1 n && numbers_under n m

-- ---- data by peer

-- "16-byte fields": how many of the bytes are data, and the bytes
pub record DataEntry : Type 0 where
  pub len : ℕ
  pub bytes : List ℕ

-- the bytes of an entry
abbrev pub entry_bytes : DataEntry → List ℕ
entry_bytes e = take e.len e.bytes

-- an unused place
abbrev pub no_data : DataEntry
no_data = record { len = 0; bytes = replicate 16 0 }

-- at most 16 bytes, and zeroes past them
pub record ValidEntry (e : DataEntry) : Type 0 where
  pub fits : e.len ≤ 16
  pub packed : e.bytes ≡ pad 0 16 (take e.len e.bytes)

-- what `ValidEntry` says, as a test
unfoldable pub valid_entry : DataEntry → Bool
valid_entry e = leb e.len 16 && packed zero_byte 16 e.len e.bytes
