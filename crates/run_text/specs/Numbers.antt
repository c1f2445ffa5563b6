-- Numbers as text.
-- Assumes nothing.
use Rattle.std.specs.Prelude.{ℕ, zero, suc, ◌/◌, ◌%◌, List, [], ◌∷◌, ◌++◌, ltb}
use Rattle.base_lists.specs.Lists.{choose}
use Rattle.io.specs.Digits.{hex_digit_ascii}

-- the decimal digits of n, of which it has at most k
unfoldable pub digits_within : ℕ → ℕ → List ℕ
digits_within zero n = []
digits_within (suc k) n = choose (ltb n 10) (hex_digit_ascii n ∷ []) (digits_within k (n / 10) ++ (hex_digit_ascii (n % 10) ∷ []))

-- a 64-bit number in decimal digits, of which it has at most 20
unfoldable pub decimal : ℕ → List ℕ
decimal n = digits_within 20 n

-- a number, and the byte that follows it
unfoldable pub field : ℕ → ℕ → List ℕ
field n after = decimal n ++ (after ∷ [])
