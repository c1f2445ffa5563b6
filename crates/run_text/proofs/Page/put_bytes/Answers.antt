-- One byte more is written in each turn, and at the end all are.
use lib.Seq.{take_all}
use native.Mathlib.Omega.{arith}
use Rattle.run_text.proofs.Written.{nothing, named, bytes_next}
use Rattle.run_text.proofs.Page.put_bytes.Goals as goal

pub loop-x-init : goal.loop-x-init
loop-x-init c = nothing

pub loop-x-preserved : goal.loop-x-preserved
loop-x-preserved c = bytes_next _ _ _ _ _ c.loop-x.invariant (omega arith) c.put.ensures

pub returns : goal.returns
returns c = named (take_all _ _ (omega arith)) c.loop-x.invariant
