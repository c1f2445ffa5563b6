-- What came before is counted, and the records that are left are to come.
use borrow.Author.Rules.{rules}
use Rattle.record.proofs.Walk.{next_record, next_header, no_record_left}
use Rattle.preview.proofs.Laws.{counting_start, counting_next, counting_end}
use Rattle.preview.proofs.priced_records.Goals as goal

pub loop-h-init : goal.loop-h-init
loop-h-init c = record {
  can = tt;
  finite = tt;
  counting = counting_start _ _ _ (λ i. (c.type_inv.out i).fits) c.default-count.ensures.0 c.default-count.ensures.1 (search rules);
}

pub loop-h-preserved : goal.loop-h-preserved
loop-h-preserved c = record {
  can = tt;
  finite = tt;
  counting = rw c.from.ensures
      (counting_next _ _ _ c.loop-h.invariant.counting _ _ _ (next_record _ _ _ _ c.in-Some.ensures.steps) (next_header _ _ _ _ c.in-Some.ensures.steps));
}

pub returns : goal.returns
returns c = counting_end _ _ _ c.loop-h.invariant.counting (no_record_left _ c.in-None.ensures.steps.0)
