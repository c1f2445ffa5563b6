-- A test of the words of a list.
-- Assumes nothing.
use Rattle.std.specs.Prelude.{ℕ, Bool, eqb}

-- whether a word is that of an unused place
abbrev pub unused : ℕ → Bool
unused x = eqb x 0
