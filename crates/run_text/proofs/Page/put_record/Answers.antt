-- The numbers before the last are written one by one, and then the last.
use native.Mathlib.Omega.{arith}
use Rattle.run_text.proofs.Laws.{spacing_start, spacing_next, record_put}
use Rattle.run_text.proofs.Page.put_record.Goals as goal

pub loop-n-init : goal.loop-n-init
loop-n-init c = spacing_start _

pub loop-n-preserved : goal.loop-n-preserved
loop-n-preserved c = spacing_next _ _ _ _ _ c.loop-n.invariant (omega arith) c.put_field.ensures

pub returns : goal.returns
returns c = record_put _ _ _ _ _ _ (omega arith) c.put_field-2.ensures c.loop-n.invariant
