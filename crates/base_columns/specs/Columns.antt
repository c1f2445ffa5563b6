-- Maps by peer as sections of one list of words: columns of n places in rising order of the peers, and then the count of those in use.
-- Assumes nothing.
use Rattle.std.specs.Prelude.{ℕ, ◌+◌, ◌≤◌, ◌≡◌, Bool, ◌&&◌, List, [], ◌∷◌, ◌++◌, map, length, take, get_or, leb}
use Rattle.base_lists.specs.Array.{pad}
use Rattle.base_lists.specs.Lists.{Rising, rising}
use Rattle.base_lists.specs.Maps.{keys, values, zip}
use Rattle.base_lists.specs.Tests.{All, every, packed}
use Rattle.base_lists.specs.Bytes.{le, read_le}
use Rattle.base_lists.specs.Lent.{Lent, Seen}
use Rattle.base_peer.specs.Maps.{DataEntry, entry_bytes, ValidEntry, valid_entry}
use Rattle.base_scan.specs.Words.{unused}
use Rattle.base_util.specs.Section.{part, working_places, Filled, items_at}

-- the places of the active view, and of the peers of both views and of the requests together
abbrev pub active_places : ℕ
active_places = 8

abbrev pub known_places : ℕ
known_places = active_places + working_places + working_places

-- ---- a map of numbers: n peers, their n numbers, and then the count

unfoldable pub numbers_at : ℕ → List ℕ → List (ℕ × ℕ)
numbers_at n m = zip (take (get_or m (n + n) 0) (part 0 n m)) (take (get_or m (n + n) 0) (part n n m))

-- the count is at most n, zeroes past both columns, and the peers rise. The third follows from the others, and stands here so that bounds on the map are bounds in the code.
pub record ValidNumbers (n : ℕ) (m : List ℕ) : Type 0 where
  pub long : length m ≡ n + n + 1
  pub fits : get_or m (n + n) 0 ≤ n
  pub counted : length (numbers_at n m) ≡ get_or m (n + n) 0
  pub keyed : Filled (part 0 n m) (get_or m (n + n) 0)
  pub filled : Filled (part n n m) (get_or m (n + n) 0)
  pub rises : Rising (keys (numbers_at n m))

-- m is valid and stands for l, which determines m
pub record HoldsNumbers (n : ℕ) (m : List ℕ) (l : List (ℕ × ℕ)) : Type 0 where
  pub valid : ValidNumbers n m
  pub items : numbers_at n m ≡ l

-- what `ValidNumbers` says of a list of the right length, as a test
unfoldable pub valid_numbers : ℕ → List ℕ → Bool
valid_numbers n m =
    leb (get_or m (n + n) 0) n
    && (packed unused n (get_or m (n + n) 0) (part 0 n m)
    && (packed unused n (get_or m (n + n) 0) (part n n m) && rising (keys (numbers_at n m))))

-- the words of the map l
unfoldable pub numbers_section : ℕ → List (ℕ × ℕ) → List ℕ
numbers_section n l = pad 0 n (keys l) ++ pad 0 n (values l) ++ (length l ∷ [])

-- ---- a map of data: n peers, n lengths, n low words, n high words, and then the count

-- two columns of n places hold xs and ys
pub record Two (n : ℕ) (r xs ys : List ℕ) : Type 0 where
  pub long : length r ≡ n + n
  pub first : part 0 n r ≡ pad 0 n xs
  pub second : part n n r ≡ pad 0 n ys

-- words have 64 bits
abbrev pub words_end : ℕ
words_end = 18446744073709551616

-- the bytes of a word
abbrev pub word_length : ℕ
word_length = 8

-- 16 bytes in two words
unfoldable pub word_bytes : ℕ → ℕ → List ℕ
word_bytes w x = le word_length w ++ le word_length x

abbrev pub row : ℕ → ℕ → ℕ → DataEntry
row l w x = record { len = l; bytes = word_bytes w x }

-- the entries of their lengths and words
unfoldable pub rows : List ℕ → List ℕ → List ℕ → List DataEntry
rows [] ws xs = []
rows (l ∷ ls) [] xs = []
rows (l ∷ ls) (w ∷ ws) [] = []
rows (l ∷ ls) (w ∷ ws) (x ∷ xs) = row l w x ∷ rows ls ws xs

-- the halves of a section: peers and lengths, and the words
unfoldable pub head_of : ℕ → List ℕ → List ℕ
head_of n m = part 0 (n + n) m

unfoldable pub tail_of : ℕ → List ℕ → List ℕ
tail_of n m = part (n + n) (n + n) m

abbrev pub count_of : ℕ → List ℕ → ℕ
count_of n m = get_or m (n + n + (n + n)) 0

unfoldable pub entries_at : ℕ → List ℕ → List DataEntry
entries_at n m = rows (part n n (head_of n m)) (part 0 n (tail_of n m)) (part n n (tail_of n m))

unfoldable pub data_map_at : ℕ → List ℕ → List (ℕ × List ℕ)
data_map_at n m = zip (take (count_of n m) (part 0 n (head_of n m))) (map entry_bytes (take (count_of n m) (entries_at n m)))

-- the count is at most n, zeroes past all columns, each entry is valid, and the peers rise; the third as in `ValidNumbers`
pub record ValidDataWords (n : ℕ) (m : List ℕ) : Type 0 where
  pub long : length m ≡ n + n + (n + n) + 1
  pub fits : count_of n m ≤ n
  pub counted : length (data_map_at n m) ≡ count_of n m
  pub keyed : Filled (part 0 n (head_of n m)) (count_of n m)
  pub lens : Filled (part n n (head_of n m)) (count_of n m)
  pub lows : Filled (part 0 n (tail_of n m)) (count_of n m)
  pub highs : Filled (part n n (tail_of n m)) (count_of n m)
  pub each : All ValidEntry (take (count_of n m) (entries_at n m))
  pub rises : Rising (keys (data_map_at n m))

-- m is valid and stands for l, which determines m where its words fit 64 bits
pub record HoldsDataWords (n : ℕ) (m : List ℕ) (l : List (ℕ × List ℕ)) : Type 0 where
  pub valid : ValidDataWords n m
  pub items : data_map_at n m ≡ l

-- what `ValidDataWords` says of a list of the right length, as a test
unfoldable pub valid_data_words : ℕ → List ℕ → Bool
valid_data_words n m =
    leb (count_of n m) n
    && ((packed unused n (count_of n m) (part 0 n (head_of n m)) && packed unused n (count_of n m) (part n n (head_of n m)))
    && ((packed unused n (count_of n m) (part 0 n (tail_of n m)) && packed unused n (count_of n m) (part n n (tail_of n m)))
    && (every valid_entry (take (count_of n m) (entries_at n m)) && rising (keys (data_map_at n m)))))

-- the words of at most 16 bytes
unfoldable pub low_word : List ℕ → ℕ
low_word b = read_le word_length (pad 0 16 b) 0

unfoldable pub high_word : List ℕ → ℕ
high_word b = read_le word_length (pad 0 16 b) word_length

-- the words of the map l
unfoldable pub data_section : ℕ → List (ℕ × List ℕ) → List ℕ
data_section n l =
    pad 0 n (keys l) ++ pad 0 n (map length (values l)) ++ pad 0 n (map low_word (values l)) ++ pad 0 n (map high_word (values l)) ++ (length l ∷ [])

-- ---- as a contract says it, of the parameters themselves

-- the first k places of two columns of n become f and g of their words, and zeroes follow
abbrev pub ChangesTwo : ℕ → ℕ → (List ℕ → List ℕ) → (List ℕ → List ℕ) → Lent → Type 0
ChangesTwo n k f g s =
    Two n s.exit.now (f (take k (part 0 n s.entry.now))) (g (take k (part n n s.entry.now)))

-- the map becomes f of itself: of numbers, and of data
abbrev pub ChangesNumbers : ℕ → (List (ℕ × ℕ) → List (ℕ × ℕ)) → Lent → Type 0
ChangesNumbers n f m = HoldsNumbers n m.exit.now (f (numbers_at n m.entry.now))

abbrev pub ChangesData : ℕ → (List (ℕ × List ℕ) → List (ℕ × List ℕ)) → Lent → Type 0
ChangesData n f m = HoldsDataWords n m.exit.now (f (data_map_at n m.entry.now))

-- the peers of both views and of the requests, whose data may be held
abbrev pub known_peers : Seen → Seen → Seen → List ℕ
known_peers active passive requests =
    items_at active_places active.entry.now
    ++ (items_at working_places passive.entry.now ++ keys (numbers_at working_places requests.entry.now))
