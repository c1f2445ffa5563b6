-- Steps that are not lent the words, of crate work.
-- Assumes nothing.
pub use Rattle.work.proofs.Any.{required_at, told_at, one_of_at, then_drawn, then_one_of, then_shuffle, then_tell_any}
