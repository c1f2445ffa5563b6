-- Document 01, "A station's whole history": the ledger, a plain book that is fed with each event, its code and its output, and with no state.
-- Assumes nothing.
use Rattle.std.specs.Prelude.{ℕ, ◌+◌, List, [], eqb}
use Rattle.base_lists.specs.Lists.{choose, without, push_new}
use Rattle.record.specs.Kinds.{Message, Quit, NeighborUp, NeighborDown, kind_byte, output_byte, event_kind}
use Rattle.record.specs.Walk.{kind_in, message_in, peer_in, records_in, walk}
use Rattle.spec_hyparview.specs.Numbers.{kind_number}

-- "It keeps a set of peers, the messages sent so far and an allowance"; "its numbers have no top"
pub record Ledger : Type 0 where
  pub up : List ℕ
  pub sent : ℕ
  pub allowance : ℕ

-- "at first empty, 0 and 0"
unfoldable pub empty_ledger : Ledger
empty_ledger = record { up = []; sent = 0; allowance = 0 }

-- "A message adds 1 to the messages."
unfoldable pub count_message : Ledger → Ledger
count_message l = record { up = l.up; sent = l.sent + 1; allowance = l.allowance }

-- "An up notice puts its peer into the set, .. where that is so already, nothing changes."
unfoldable pub note_up : ℕ → Ledger → Ledger
note_up p l = record { up = push_new p l.up; sent = l.sent; allowance = l.allowance }

-- "a down notice takes it out"
unfoldable pub note_down : ℕ → Ledger → Ledger
note_down p l = record { up = without p l.up; sent = l.sent; allowance = l.allowance }

-- one record of kind k, for peer p: "Other kinds change nothing."
unfoldable pub note_record : ℕ → ℕ → Ledger → Ledger
note_record k p l =
    choose (eqb k (kind_byte Message)) (count_message l)
    (choose (eqb k (output_byte NeighborUp)) (note_up p l) (choose (eqb k (output_byte NeighborDown)) (note_down p l) l))

-- "Then the output's records are taken in order"
unfoldable pub read_records : List ℕ → Ledger → Ledger
read_records out l = walk (λ b. note_record (kind_in b) (peer_in b)) (records_in out) l

-- "the event's number from demand 3"
unfoldable pub number_of : ℕ → List ℕ → ℕ
number_of a b = kind_number a (message_in b) (event_kind (kind_in b))

-- "a Quit first empties the set, and the event's number from demand 3 is added to the allowance"
unfoldable pub open_event : ℕ → List ℕ → Ledger → Ledger
open_event a b l =
    record { up = choose (eqb (kind_in b) (kind_byte Quit)) [] l.up; sent = l.sent; allowance = l.allowance + number_of a b }

-- one event b with its code and its output: "A nonzero code changes nothing."
unfoldable pub feed : ℕ → List ℕ → ℕ → List ℕ → Ledger → Ledger
feed a b code out l = choose (eqb code 0) (read_records out (open_event a b l)) l
