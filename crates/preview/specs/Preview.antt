-- Document 02, S-9: what an event would cost, told before it is done.
-- Assumes nothing.
use Rattle.std.specs.Prelude.{ℕ, ◌+◌, true, ◌≡◌, List, [], ◌∷◌, length, eqb}
use Rattle.base_lists.specs.Lists.{choose}
use Rattle.record.specs.Kinds.{Message, kind_byte}
use Rattle.record.specs.Format.{Rec}
use Rattle.record.specs.Walk.{kind_in, whole_length, records_in, walk}
use Rattle.spec_hyparview.specs.Rules.{all_under}
use Rattle.spec_hyparview.specs.Sides.{Side}
use Rattle.spec_hyparview.specs.Station.{draws_end}
use Rattle.spec_hyparview.specs.Written.{encode_all, WrittenOut}
use Rattle.hyparview.specs.Room.{output_room}
use Rattle.hyparview.specs.Handled.{Outcome, handled_from}
use Rattle.preview.specs.declared.Count.{Count}
use Rattle.preview.specs.declared.Price.{Price}

-- one message more, where a record is of kind 0
unfoldable pub add_message : ℕ → ℕ → ℕ
add_message k n = choose (eqb k (kind_byte Message)) (n + 1) n

-- a record, and its bytes
unfoldable pub add : List ℕ → Count → Count
add b n = record { messages = add_message (kind_in b) n.messages; bytes = n.bytes + whole_length b }

-- the messages among an output's records, and the bytes of all its records
unfoldable pub priced_records : List ℕ → Count
priced_records out = walk add (records_in out) (record { messages = 0; bytes = 0 })

-- of a refused call: its code and three zeroes
unfoldable pub no_price : ℕ → Price
no_price code = record { code = code; messages = 0; bytes = 0; draws = 0 }

-- of a call that has been done
unfoldable pub price : Outcome → Price
price o =
    choose (eqb o.code 0)
    (record { code = o.code; messages = (priced_records o.output).messages; bytes = (priced_records o.output).bytes; draws = o.draws })
    (no_price o.code)

-- of the event b from a side at the words xs: what the call does on a copy of them, with 8,192 bytes of output
unfoldable pub preview : List ℕ → Side → List ℕ → List ℕ → Price
preview xs side b ds = price (handled_from side xs b ds output_room)

-- What is claimed of it

-- "9 never occurs", whatever the words, the side, the event's bytes and the draws
abbrev pub NeverNine : Type 0
NeverNine = (xs : List ℕ) (side : Side) (b ds : List ℕ) → all_under 256 b ≡ true → (preview xs side b ds).code ≡ 9 → ⊥

-- how many of the records are messages
unfoldable pub messages_of : List Rec → ℕ
messages_of [] = 0
messages_of (e ∷ es) = add_message e.kind (messages_of es)

-- a price p tells of an output the records written to it: the messages among them, and all their bytes, without the zeroes behind
pub record PriceTells (out : List ℕ) (p : Price) : Type 0 where
  pub written : WrittenOut out
  pub messages : p.messages ≡ messages_of written.records
  pub bytes : p.bytes ≡ length (encode_all written.records)

-- of every accepted call; an event is bytes, and draws have 32 bits
abbrev pub PriceTellsWritten : Type 0
PriceTellsWritten =
    (xs : List ℕ) (side : Side) (b ds : List ℕ) → all_under 256 b ≡ true → all_under draws_end ds ≡ true
    → (preview xs side b ds).code ≡ 0 → PriceTells (handled_from side xs b ds output_room).output (preview xs side b ds)
