-- By cases: fewer bytes than that, none, or a record, each as the definition chooses.
use Rattle.std.proofs.Common.{arith}
use Rattle.timer_events.proofs.Inserting.{short_start, read_there, read_start, no_record}
use Rattle.timer_events.proofs.schedule_of.Goals as goal

pub returns-in_err-get : goal.returns-in_err-get
returns-in_err-get c = let h = c.in_err-get.ensures.lookup in rw c.from_residual.ensures (short_start _ _ (omega (arith, h.0)))

pub returns-in_err-h : goal.returns-in_err-h
returns-in_err-h c =
    rw c.from_residual-in_err-h.ensures (no_record _ _ c.read.result c.in_ok-get.ensures.lookup.0.1 (read_there _ _ _ _ c.in_ok-get.ensures.lookup.0.2 c.read.ensures) c.in_err-h.was)

pub returns : goal.returns
returns c =
    read_start _ _ _ c.read.result _ c.in_ok-get.ensures.lookup.0.1 (read_there _ _ _ _ c.in_ok-get.ensures.lookup.0.2 c.read.ensures) c.in_ok-h.was c.from.ensures
