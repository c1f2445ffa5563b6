-- What came before is counted, and the records that are left are to come.
use Rattle.preview.proofs.Laws.{Counting}
use Rattle.preview.proofs.priced_records.Given as goal

abbrev pub invariant-loop-h : goal.invariant-loop-h
invariant-loop-h l = record {
  can : (goal.iterator-loop-h).can_next l.h-iterator;
  finite : (goal.iterator-loop-h).is_finite l.h-iterator;
  counting : Counting l.out l.count l.h-iterator.rest.now;
}
