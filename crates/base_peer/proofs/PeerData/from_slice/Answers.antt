-- The lent bytes with the zeroes behind them are the bytes, filled up to 16.
use Rattle.base_peer.specs.Held.{data_in}
use Rattle.base_peer.proofs.Data.{packed_bytes, taken_bytes, not_taken}
use borrow.Author.Rules.{rules}
use Rattle.base_peer.proofs.PeerData.from_slice.Goals as goal

pub returns-then-n-gt-BYTES : goal.returns-then-n-gt-BYTES
unfolding data_in
returns-then-n-gt-BYTES c = not_taken _ c.if-n-gt-BYTES.true

pub invariant_of-result : goal.invariant_of-result
invariant_of-result c = record { fits = search rules; packed = search (packed_bytes, rules) }

pub returns : goal.returns
unfolding data_in
returns c = search (taken_bytes, rules)
