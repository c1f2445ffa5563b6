-- A field of a state's words, by where it begins, how many items it has room for and how many columns.
-- Assumes nothing.
use Rattle.std.specs.Prelude.{ℕ, ◌+◌, ◌*◌, ◌≤◌, ◌<◌, ◌≡◌, List, [], ◌∷◌, map, ◌⊎◌, get_or, eqb}
use Rattle.base_lists.specs.Lists.{choose}
use Rattle.base_util.specs.Section.{part, items_at}
use Rattle.base_columns.specs.Columns.{numbers_at, data_map_at}
use Rattle.run_text.specs.Numbers.{decimal}
use Rattle.trace_text.specs.Items.{items_text, numbered_text, held_text}

-- the texts of the items: of no columns the number there, of one the peers, of two the peers with their numbers, of four the peers with their data
unfoldable pub texts_at : ℕ → ℕ → ℕ → List ℕ → List (List ℕ)
texts_at columns at room xs =
    choose (eqb columns 0) (decimal (get_or xs at 0) ∷ [])
    (choose (eqb columns 1) (map decimal (items_at room (part at (room + 1) xs)))
    (choose (eqb columns 2) (map numbered_text (numbers_at room (part at (room + room + 1) xs)))
    (map held_text (data_map_at room (part at (room + room + (room + room) + 1) xs)))))

-- the items with commas between them
unfoldable pub field_at : ℕ → ℕ → ℕ → List ℕ → List ℕ
field_at columns at room xs = items_text (λ (x : List ℕ). x) 0 (texts_at columns at room xs)

-- the columns are 0, 1, 2 or 4, and the field, with its count where it has columns, stands in n words
pub record InWords (columns at room n : ℕ) : Type 0 where
  pub inside : at + columns * room < n
  pub first : at + room ≤ n
  pub some : 1 ≤ room
  pub form : (columns ≡ 0) ⊎ ((columns ≡ 1) ⊎ ((columns ≡ 2) ⊎ (columns ≡ 4)))
