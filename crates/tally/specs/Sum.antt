-- The six counts together, and the outputs of which they count every message.
-- Assumes nothing.
use Rattle.std.specs.Prelude.{ℕ, ◌+◌, Bool, true, List, ltb, eqb}
use Rattle.base_lists.specs.Lists.{choose}
use Rattle.base_lists.specs.Tests.{every}
use Rattle.record.specs.Kinds.{Message, kind_byte}
use Rattle.record.specs.Walk.{kind_in, message_in, records_in}
use Rattle.tally.specs.declared.Tally.{Tally}

-- all six counts
unfoldable pub total : Tally → ℕ
total t = t.join + t.forward_join + t.shuffle + t.shuffle_reply + t.neighbor + t.disconnect

-- whether a record that is a message has one of the six values in byte 1
unfoldable pub has_count : List ℕ → Bool
has_count b = choose (eqb (kind_in b) (kind_byte Message)) (ltb (message_in b) 6) true

-- whether every message in an output has one of the six values in byte 1
unfoldable pub all_have : List ℕ → Bool
all_have out = every has_count (records_in out)
