-- What the readers answer: the answers of the code, by the definitions of `Read`.
-- Assumes nothing.
use Rattle.std.specs.Prelude.{ℕ, ◌≡◌, true, List, Option, Some, None, Result, Ok, Err}
use Rattle.base_lists.specs.Lists.{choose}
use Rattle.record.specs.Refusals.{refusal_code}
use Rattle.record.specs.Read.{header_of, well_formed, rec_of, Reading, refused, event, read_event}
use Rattle.record.specs.declared.Header.{Header}
use Rattle.record.specs.declared.Refusal.{Refusal}

-- the header of a record, or that the bytes are none
unfoldable pub answer : List ℕ → Option Header
answer b = choose (well_formed b) (Some (header_of b)) None

-- what an answer with the header h says of the bytes
pub record Found (b : List ℕ) (h : Header) : Type 0 where
  pub well : well_formed b ≡ true
  pub header : h ≡ header_of b

-- an answer with its refusal's code, which determines the answer
unfoldable pub coded : Result Header Refusal → Result Header ℕ
coded (Ok h) = Ok h
coded (Err r) = Err (refusal_code r)

-- the code's answer to bytes that read so: the code of a refusal, or their header
unfoldable pub answer_to : List ℕ → Reading → Result Header ℕ
answer_to b (refused k) = Err k
answer_to b (event e) = Ok (header_of b)

unfoldable pub event_answer : List ℕ → Result Header ℕ
event_answer b = answer_to b (read_event b)

-- what an answer about the bytes b stands for: the code of a refusal, or the record that b says
unfoldable pub event_in : List ℕ → Result Header Refusal → Reading
event_in b (Ok h) = event (rec_of b)
event_in b (Err r) = refused (refusal_code r)

-- r is the answer to b, which stands for what b reads as
pub record EventIs (b : List ℕ) (r : Result Header Refusal) : Type 0 where
  pub is : coded r ≡ event_answer b
  pub reads : event_in b r ≡ read_event b
