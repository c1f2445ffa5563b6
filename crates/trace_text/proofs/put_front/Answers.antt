-- Each byte is two digits, and at the end all of the front are written.
use mathlib.Core.Path.{refl, ap}
use native.Mathlib.Omega.{arith}
use Prim.Native.Nat.{◌<◌}
use lib.ListN.{take, get_or, length-take}
use lib.Seq.{get_or-take}
use Rattle.trace_text.proofs.Writing.{hex_next, hex_end}
use Rattle.trace_text.proofs.put_front.Goals as goal

-- An element of the front is a byte.
fits : (c : goal.After-put-in-loop-x) → get_or (take c.min.result c.args.bytes.now) c.loop-x.x-index 0 < 256
fits c = let q = get_or-take c.min.result c.args.bytes.now c.loop-x.x-index 0 (omega (arith, length-take c.min.result c.args.bytes.now)) in omega (arith, q, c.type_inv.bytes c.loop-x.x-index)

pub loop-x-preserved : goal.loop-x-preserved
loop-x-preserved c = hex_next _ _ _ _ c.loop-x.invariant _ _ _ _ (omega arith) (fits c) refl refl c.put-in-loop-x.ensures c.put.ensures

pub returns : goal.returns
returns c = hex_end _ _ _ _ c.loop-x.invariant _ _ (ap (λ n. take n c.args.bytes.now) c.min.ensures) (omega arith)
