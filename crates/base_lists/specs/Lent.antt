-- What a contract says of slices that are lent, of the parameters themselves.
-- Assumes nothing.
use Rattle.std.specs.Prelude.{ℕ, ◌≡◌, List}
use Rattle.std.specs.Borrow.{Bor, MutBor}
use denote.Triple.Both.{Both}
use Rattle.base_lists.specs.Bytes.{overwrite}

-- a slice that is read, and one that is written
abbrev pub Slice : Type 0
Slice = Bor (List ℕ)

abbrev pub MutSlice : Type 0
MutSlice = MutBor (List ℕ)

-- one that is written, as it comes and goes
abbrev pub Lent : Type 0
Lent = Both MutSlice MutSlice

-- one that is only read, where a clause speaks of both ends of a call
abbrev pub Seen : Type 0
Seen = Both Slice Slice

-- the places from i on are overwritten by bs
abbrev pub Overwrites : Lent → ℕ → List ℕ → Type 0
Overwrites s i bs = s.exit.now ≡ overwrite s.entry.now i bs
