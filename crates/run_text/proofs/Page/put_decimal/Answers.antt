-- The digits that `decimal` made are the number's, and `put_bytes` puts them, by `put_digits`.
use native.Mathlib.Omega.{arith}
use Rattle.run_text.proofs.Spelled.{put_digits}
use Rattle.run_text.proofs.Page.put_decimal.Goals as goal

pub returns : goal.returns
returns c = let d = c.decimal-k.ensures in put_digits _ _ _ _ _ (omega arith) d.len d.digits c.put_bytes.ensures
