-- The tally of document 01: "It counts the messages sent, one count for each value of byte 1."
-- Assumes nothing.
use Rattle.std.specs.Prelude.{ℕ, ◌+◌, Bool, List, ltb, eqb}
use Rattle.base_lists.specs.Lists.{choose}
use Rattle.record.specs.Kinds.{Message, kind_byte}
use Rattle.record.specs.Walk.{kind_in, message_in, records_in, walk}
use Rattle.tally.specs.declared.Tally.{Tally}

-- 2^64 - 1
abbrev pub top : ℕ
top = 18446744073709551615

-- one more where the test holds; "a count at 2^64 - 1 stays there"
unfoldable pub counted : Bool → ℕ → ℕ
counted test n = choose test (choose (ltb n top) (n + 1) n) n

-- a message with m in byte 1
unfoldable pub raise_one : ℕ → Tally → Tally
raise_one m t = record {
  join = counted (eqb m 0) t.join;
  forward_join = counted (eqb m 1) t.forward_join;
  shuffle = counted (eqb m 2) t.shuffle;
  shuffle_reply = counted (eqb m 3) t.shuffle_reply;
  neighbor = counted (eqb m 4) t.neighbor;
  disconnect = counted (eqb m 5) t.disconnect;
}

-- a record of kind k with m in byte 1
unfoldable pub enter : ℕ → ℕ → Tally → Tally
enter k m t = choose (eqb k (kind_byte Message)) (raise_one m t) t

-- the records of an output, taken in order
unfoldable pub raise_records : List ℕ → Tally → Tally
raise_records out t = walk (λ b. enter (kind_in b) (message_in b)) (records_in out) t

-- "raised once an event is accepted; .. a refusal changes none"
unfoldable pub raised : ℕ → List ℕ → Tally → Tally
raised code out t = choose (eqb code 0) (raise_records out t) t
