-- Words cut into sections, by the list of their sizes: one definition for every layout.
-- Assumes nothing.
use Rattle.std.specs.Prelude.{ℕ, zero, suc, ◌+◌, List, [], ◌∷◌}
use Rattle.base_util.specs.Section.{part}

-- the sections of the sizes ns, from word a on
unfoldable pub parts : ℕ → List ℕ → List ℕ → List (List ℕ)
parts a [] xs = []
parts a (n ∷ ns) xs = part a n xs ∷ parts (a + n) ns xs

-- where section i begins
unfoldable pub begin : ℕ → List ℕ → ℕ → ℕ
begin a [] i = a
begin a (n ∷ ns) zero = a
begin a (n ∷ ns) (suc i) = begin (a + n) ns i

-- where the last one ends
unfoldable pub end : ℕ → List ℕ → ℕ
end a [] = a
end a (n ∷ ns) = end (a + n) ns
