-- Putting the timers that are left into the queue so far ends as the whole does.
use mathlib.Core.Path.{refl}
use Rattle.std.proofs.lemmas.Result.{err_from_is_err_and}
use Rattle.record.proofs.Walk.{next_record, next_header, no_record_left}
use Rattle.timer_map.proofs.Ways.{some_number}
use Rattle.timer_events.proofs.Inserting.{inserting_end, inserting_refused, inserting_next}
use Rattle.timer_events.proofs.insert_all.Goals as goal

pub insert_record-requires-clause-h_value : goal.insert_record-requires-clause-h_value
insert_record-requires-clause-h_value c = next_header _ _ _ _ c.in-Some.ensures.steps

pub loop-h-preserved : goal.loop-h-preserved
loop-h-preserved c = record {
  can = tt;
  finite = tt;
  inserting = inserting_next _ _ _ _ c.loop-h.invariant.inserting _ _ (next_record _ _ _ _ c.in-Some.ensures.steps) 0 _ c.in_ok-insert_record.ensures refl;
}

pub returns-in_err-insert_record : goal.returns-in_err-insert_record
returns-in_err-insert_record c =
    let p = err_from_is_err_and c.from_residual.result c.from_residual.ensures.1 in
    rw (p.1, p.2) (inserting_refused _ _ _ _ c.loop-h.invariant.inserting _ _ (next_record _ _ _ _ c.in-Some.ensures.steps) _ _ c.in_err-insert_record.ensures (some_number _))

pub returns : goal.returns
returns c = inserting_end _ _ _ _ c.loop-h.invariant.inserting (no_record_left _ c.in-None.ensures.steps.0)
