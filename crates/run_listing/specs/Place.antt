-- What the functions over a run say of the place that they reach, and of the lent bytes.
-- Assumes nothing.
use Rattle.std.specs.Prelude.{ℕ, ◌≡◌, List, [], length, leb, ltb, eqb, Option, Some, None}
use Rattle.io.specs.Counts.{IsPrefixLen}
use Rattle.base_lists.specs.Lists.{choose}
use Rattle.base_lists.specs.Bytes.{overwrite}
use Rattle.record.specs.Format.{header_length}
use Rattle.record.specs.Read.{header_of}
use Rattle.run_text.specs.Lines.{record_line}
use Rattle.run_listing.specs.declared.Lined.{Lined}

-- bytes that suffice for the line that ends an event, and for the line of a record, with twenty digits for each number
abbrev pub end_line_space : ℕ
end_line_space = 44

abbrev pub record_line_space : ℕ
record_line_space = 168

-- the text w stands at the front of o, n bytes of it, and the bytes of out behind it
pub record Fronts (w out : List ℕ) (n : ℕ) (o : List ℕ) : Type 0 where
  pub size : n ≡ length w
  pub counts : IsPrefixLen n o
  pub bytes : o ≡ overwrite out 0 w

-- the line of the first record of an output, and no text where none stands there
unfoldable pub first_line : ℕ → List ℕ → List ℕ
first_line i b = choose (ltb (length b) header_length) [] (choose (eqb (header_of b).size 0) [] (record_line i (header_of b)))

-- how many bytes that record has, and 0 where none stands there
unfoldable pub first_size : List ℕ → ℕ
first_size b = choose (ltb (length b) header_length) 0 (header_of b).size

-- the bytes of a line and of its record, and none where there is no line
abbrev pub size_in : Option Lined → ℕ
size_in None = 0
size_in (Some l) = l.size

abbrev pub taken_in : Option Lined → ℕ
taken_in None = 0
taken_in (Some l) = l.taken

-- r has the sizes of that line, which stands at the front of o, and of its record, and is None just where no record stands there
pub record Lines (i : ℕ) (b out : List ℕ) (r : Option Lined) (o : List ℕ) : Type 0 where
  pub line : Fronts (first_line i b) out (size_in r) o
  pub taken : taken_in r ≡ first_size b
  pub none : first_size b ≡ 0 → r ≡ None

-- what is answered of a text of n bytes where `room` bytes are lent
unfoldable pub fitting : ℕ → ℕ → Option ℕ
fitting n room = choose (leb n room) (Some n) None
