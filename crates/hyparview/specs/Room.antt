-- How much output is lent by a caller that leaves no event without room.
-- Assumes nothing.
use Rattle.std.specs.Prelude.{ℕ}

-- "8,192 output bytes .. always suffice"
abbrev pub output_room : ℕ
output_room = 8192
