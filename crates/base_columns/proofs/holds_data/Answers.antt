-- Without the key nothing is held; with it, equal length and equal words mean equal bytes, since words and bytes determine each other.
use Prim.Native.Nat.{◌+◌}
use native.Mathlib.Omega.{arith}
use Rattle.base_columns.proofs.Holding.{holds_none, holds_all}
use Rattle.base_columns.proofs.holds_data.Goals as goal

pub returns-then-i-n : goal.returns-then-i-n
returns-then-i-n c = search holds_none

pub returns : goal.returns
returns c =
    holds_all _ _ c.requires _ _ c.find-i.ensures.0 _ c.if-i-n.false _ _ c.word_at-low.ensures.0 c.word_at-high.ensures.0 c.word_at-low.ensures.1 c.word_at-high.ensures.1 (omega (arith, c.type_inv.m (c.args.cap + c.args.cap + c.find-i.result))) (omega (arith, c.type_inv.m (c.args.cap + c.args.cap + c.args.cap + c.find-i.result)))
