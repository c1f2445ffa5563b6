-- Document 01, "A station's whole history": the records of an output, which the ledger, the tally, the run program's lines, the trace and the timer queue all take alike.
-- Assumes nothing.
use Rattle.std.specs.Prelude.{ℕ, zero, suc, List, [], ◌∷◌, map, length, get_or, drop, ltb, eqb}
use Rattle.base_lists.specs.Lists.{choose}
use Rattle.base_lists.specs.Bytes.{read_le}
use Rattle.base_lists.specs.Lent.{Slice}
use Rattle.record.specs.Format.{header_length, peer_length}
use Rattle.record.specs.Read.{header_of}
use Rattle.record.specs.declared.Header.{Header}

-- what a book reads of an event or of an output record: kind, message, peer and whole length
unfoldable pub kind_in : List ℕ → ℕ
kind_in b = get_or b 0 0

unfoldable pub message_in : List ℕ → ℕ
message_in b = get_or b 1 0

unfoldable pub peer_in : List ℕ → ℕ
peer_in b = read_le peer_length b 4

unfoldable pub whole_length : List ℕ → ℕ
whole_length b = (header_of b).size

-- "Then the output's records are taken in order, each by its whole length, until that is 0 or no header fits.": each with the bytes behind it.
-- Each takes a byte or more, so that n, the output's length, is never used up before.
unfoldable pub records_from : ℕ → List ℕ → List (List ℕ)
records_from zero b = []
records_from (suc n) b =
    choose (ltb (length b) header_length) []
    (choose (eqb (whole_length b) 0) [] (b ∷ records_from n (drop (whole_length b) b)))

unfoldable pub records_in : List ℕ → List (List ℕ)
records_in out = records_from (length out) out

-- their headers
unfoldable pub headers : List ℕ → List Header
headers out = map header_of (records_in out)

-- each with its header
abbrev pub with_header : List ℕ → Header × List ℕ
with_header b = (header_of b, b)

unfoldable pub with_headers : List ℕ → List (Header × List ℕ)
with_headers out = map with_header (records_in out)

-- a record as the code has it, whose bytes are lent
abbrev pub record_seen : Header × Slice → Header × List ℕ
record_seen p = (p.0, p.1.now)

-- what x becomes when each record in order changes it by f
unfoldable pub walk : {X : Type 0} → (List ℕ → X → X) → List (List ℕ) → X → X
walk f [] x = x
walk f (b ∷ bs) x = walk f bs (f b x)
