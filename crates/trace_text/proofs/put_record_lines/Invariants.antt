-- What is left of the output is to be written.
use Rattle.record.specs.Walk.{records_in}
use Rattle.trace_text.specs.Hex.{hex_lines}
use Rattle.trace_text.proofs.Writing.{Writing}
use Rattle.trace_text.proofs.put_record_lines.Given as goal

abbrev pub invariant-loop-h : goal.invariant-loop-h
invariant-loop-h l = record {
  can : (goal.iterator-loop-h).can_next l.h-iterator;
  finite : (goal.iterator-loop-h).is_finite l.h-iterator;
  writing : Writing (hex_lines (records_in l.records)) l.initial.t l.t (hex_lines (records_in l.h-iterator.rest.now));
}
