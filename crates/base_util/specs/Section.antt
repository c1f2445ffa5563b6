-- A set of peers as a section of one list of words: its places, and then the count of those in use. n is how many places there are.
-- Assumes nothing.
use Rattle.std.specs.Prelude.{ℕ, ◌+◌, ◌≤◌, ◌≡◌, Bool, ◌&&◌, List, [], ◌∷◌, ◌++◌, length, take, drop, get_or, leb}
use Rattle.base_lists.specs.Array.{pad}
use Rattle.base_lists.specs.Tests.{packed}
use Rattle.base_lists.specs.Lent.{Lent}
use Rattle.base_scan.specs.Words.{unused}

-- the places of a working set, and of the largest set
abbrev pub working_places : ℕ
working_places = 32

-- the words of a working set: its places and its count
abbrev pub working_words : ℕ
working_words = working_places + 1

-- k words from place a on
unfoldable pub part : ℕ → ℕ → List ℕ → List ℕ
part a k xs = take k (drop a xs)

-- a column of which the first k places are in use, and the others are zero
pub record Filled (s : List ℕ) (k : ℕ) : Type 0 where
  pub fits : k ≤ length s
  pub packed : s ≡ pad 0 (length s) (take k s)

-- the items, in order
unfoldable pub items_at : ℕ → List ℕ → List ℕ
items_at n s = take (get_or s n 0) (part 0 n s)

-- n places and the count, which is at most n, and zeroes past the items. The third follows from the others, and stands here so that bounds on the items are bounds in the code.
pub record ValidSet (n : ℕ) (s : List ℕ) : Type 0 where
  pub long : length s ≡ n + 1
  pub fits : get_or s n 0 ≤ n
  pub counted : length (items_at n s) ≡ get_or s n 0
  pub filled : Filled (part 0 n s) (get_or s n 0)

-- s is valid and its items are xs, which determines s
pub record HoldsSet (n : ℕ) (s xs : List ℕ) : Type 0 where
  pub valid : ValidSet n s
  pub items : items_at n s ≡ xs

-- what `ValidSet` says of a list of the right length, as a test
unfoldable pub valid_set : ℕ → List ℕ → Bool
valid_set n s = leb (get_or s n 0) n && packed unused n (get_or s n 0) (part 0 n s)

-- the words of the set of xs
unfoldable pub section : ℕ → List ℕ → List ℕ
section n xs = pad 0 n xs ++ (length xs ∷ [])

-- ---- as a contract says it, of the parameters themselves

-- the first n places of a column become f of their words, and zeroes follow
abbrev pub ChangesColumn : ℕ → (List ℕ → List ℕ) → Lent → Type 0
ChangesColumn n f s = s.exit.now ≡ pad 0 (length s.entry.now) (f (take n s.entry.now))

-- the set becomes f of its items
abbrev pub ChangesSet : ℕ → (List ℕ → List ℕ) → Lent → Type 0
ChangesSet n f s = HoldsSet n s.exit.now (f (items_at n s.entry.now))

-- the working set becomes xs
abbrev pub BecomesSet : Lent → List ℕ → Type 0
BecomesSet t xs = HoldsSet working_places t.exit.now xs
