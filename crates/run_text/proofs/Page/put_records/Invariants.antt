-- What is left of the output is to be listed.
use Rattle.run_text.proofs.Laws.{Listing}
use Rattle.record.specs.Walk.{headers}
use Rattle.run_text.specs.Lines.{record_lines}
use Rattle.run_text.proofs.Page.put_records.Given as goal

abbrev pub invariant-loop-h : goal.invariant-loop-h
invariant-loop-h l = record {
  can : (goal.iterator-loop-h).can_next l.h-iterator;
  finite : (goal.iterator-loop-h).is_finite l.h-iterator;
  listing : Listing l.i (record_lines l.i (headers l.records)) l.initial.self l.self l.h-iterator.rest.now;
}
