-- Document 01, "Random choices", with 02, S-6: what a list of draws decides, and how many of them that takes.
-- Draws that are not there count as 0; who takes them first sees that they are there.
-- Assumes nothing.
use Rattle.std.specs.Prelude.{ℕ, zero, suc, ◌+◌, ◌-◌, ◌%◌, Bool, List, [], ◌∷◌, length, drop, get_or, eqb, ltb}
use Rattle.base_lists.specs.Lists.{choose, swap}

-- how many draws there are: 2^32, since a draw has 32 bits
abbrev pub all_draws : ℕ
all_draws = 4294967296

-- 02, S-6: the largest multiple of n not above 2^32
unfoldable pub kept_end : ℕ → ℕ
kept_end n = all_draws - all_draws % n

-- a draw is kept for n items if it is below that multiple; any other is passed over
unfoldable pub is_kept : ℕ → ℕ → Bool
is_kept n d = ltb d (kept_end n)

-- how many draws come before the first that is kept for n items; all of them where none is
unfoldable pub passed_over : ℕ → List ℕ → ℕ
passed_over n [] = 0
passed_over n (d ∷ ds) = choose (is_kept n d) 0 (suc (passed_over n ds))

-- how many draws the choice of one of n items takes: none where n is 0; else those passed over, which count as used, and the one kept, also where n is 1
unfoldable pub pick_draws : ℕ → List ℕ → ℕ
pick_draws n ds = choose (eqb n 0) 0 (passed_over n ds + 1)

-- "One of n items": the place that the first draw kept decides
unfoldable pub pick : ℕ → List ℕ → ℕ
pick n ds = get_or ds (passed_over n ds) 0 % n

-- places i and (one of i + 1) exchanged, for i down to 1
unfoldable pub shuffle_down : ℕ → List ℕ → List ℕ → List ℕ
shuffle_down zero ds xs = xs
shuffle_down (suc i) ds xs = shuffle_down i (drop (pick_draws (i + 2) ds) ds) (swap (suc i) (pick (i + 2) ds) xs)

-- how many draws that takes
unfoldable pub draws_down : ℕ → List ℕ → ℕ
draws_down zero ds = 0
draws_down (suc i) ds = pick_draws (i + 2) ds + draws_down i (drop (pick_draws (i + 2) ds) ds)

-- "Shuffle": the items in the order that the draws ds decide
unfoldable pub shuffle : List ℕ → List ℕ → List ℕ
shuffle ds xs = shuffle_down (length xs - 1) ds xs

-- how many draws a shuffle takes, whatever is cut off after it
unfoldable pub shuffle_draws : List ℕ → List ℕ → ℕ
shuffle_draws ds xs = draws_down (length xs - 1) ds

-- the most items that a station chooses among
abbrev pub most_items : ℕ
most_items = 32

-- 02, S-6: a draw below this is kept for every number of items up to these: the remainder of 2^32 is below it
abbrev pub sure_end : ℕ
sure_end = all_draws - most_items

-- how many draws of a list are below it
unfoldable pub sure : List ℕ → ℕ
sure [] = 0
sure (d ∷ ds) = choose (ltb d sure_end) 1 0 + sure ds
