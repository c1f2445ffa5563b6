-- Bytes in hex.
-- Assumes nothing.
use Rattle.std.specs.Prelude.{ℕ, List, [], ◌∷◌, ◌++◌, take}
use Rattle.io.specs.Digits.{last_digits}
use Rattle.record.specs.Walk.{whole_length}
use Rattle.run_text.specs.Lines.{newline}

-- each byte in two digits of base 16
unfoldable pub hex : List ℕ → List ℕ
hex [] = []
hex (x ∷ xs) = last_digits 16 2 x ++ hex xs

-- a line for each record, which has as many of the bytes as its whole length says, or all that there are
unfoldable pub hex_lines : List (List ℕ) → List ℕ
hex_lines [] = []
hex_lines (b ∷ bs) = (hex (take (whole_length b) b) ++ (newline ∷ [])) ++ hex_lines bs
