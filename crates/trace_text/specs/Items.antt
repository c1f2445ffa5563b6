-- Named fields, and lists of items.
-- Assumes nothing.
use Rattle.std.specs.Prelude.{ℕ, suc, List, [], ◌∷◌, ◌++◌, length, drop, eqb}
use Prim.Native.Char.{code}
use Prim.Native.String.{String, [] as []ˢ, ◌∷◌ as ◌∷ˢ◌}
use Rattle.base_lists.specs.Lists.{choose}
use Rattle.run_text.specs.Numbers.{decimal}
use Rattle.trace_text.specs.Hex.{hex}

-- the bytes of a text in ASCII
unfoldable pub ascii : String → List ℕ
ascii []ˢ = []
ascii (c ∷ˢ s) = code c ∷ ascii s

-- a field's text behind its name
abbrev pub after_name : String → List ℕ → List ℕ
after_name name field = drop (length (ascii name)) field

-- a comma before every item but the first
unfoldable pub comma_before : ℕ → List ℕ
comma_before i = choose (eqb i 0) [] (ascii ",")

-- the i-th item of a list, whose text is f
unfoldable pub item_text : {A : Type 0} → (A → List ℕ) → ℕ → A → List ℕ
item_text f i x = comma_before i ++ f x

-- the items from the i-th on
unfoldable pub items_text : {A : Type 0} → (A → List ℕ) → ℕ → List A → List ℕ
items_text f i [] = []
items_text f i (x ∷ xs) = item_text f i x ++ items_text f (suc i) xs

-- a field that is a list, whose name ends with the opening bracket
unfoldable pub list_field : {A : Type 0} → List ℕ → (A → List ℕ) → List A → List ℕ
list_field name f xs = name ++ (items_text f 0 xs ++ ascii "]")

-- a field that is a number
unfoldable pub number_field : List ℕ → ℕ → List ℕ
number_field name n = name ++ decimal n

-- a peer with its number
unfoldable pub numbered_text : ℕ × ℕ → List ℕ
numbered_text e = decimal e.0 ++ (ascii ":" ++ decimal e.1)

-- a peer with its data
unfoldable pub held_text : ℕ × List ℕ → List ℕ
held_text e = decimal e.0 ++ (ascii ":" ++ hex e.1)
