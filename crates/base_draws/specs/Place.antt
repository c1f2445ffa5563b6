-- Document 01, "Random choices": "The working form is the draw list together with the place reached in it."
-- Assumes nothing.
use Rattle.std.specs.Prelude.{ℕ, ◌+◌, List, length, ltb}
use Rattle.base_lists.specs.Lists.{choose}
use Rattle.base_draws.specs.declared.Draws.{Draws}

-- the place n draws further on, or the end where that comes first
unfoldable pub past : List ℕ → ℕ → ℕ → ℕ
past l at n = choose (ltb (at + n) (length l)) (at + n) (length l)

-- n draws further on in the same list
abbrev pub moved : Draws → ℕ → Draws
moved d n = record { list = d.list; at = past d.list.now d.at n }
