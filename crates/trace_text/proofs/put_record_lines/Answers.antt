-- Each record gives one line, and where none is left the lines are whole.
use mathlib.Core.Path.{ap, sym}
use borrow.Author.Rules.{rules}
use Rattle.record.proofs.Walk.{next_record, next_header, no_record_left}
use Rattle.trace_text.proofs.Writing.{writing_start, lines_next, lines_end}
use Rattle.trace_text.proofs.put_record_lines.Goals as goal

pub loop-h-init : goal.loop-h-init
loop-h-init c = record { can = tt; finite = tt; writing = search (writing_start, rules) }

pub loop-h-preserved : goal.loop-h-preserved
loop-h-preserved c = record {
  can = tt;
  finite = tt;
  writing = lines_next _ _ _ _ c.loop-h.invariant.writing _ _ _ _ _ (next_record _ _ _ _ c.in-Some.ensures.steps) (next_header _ _ _ _ c.in-Some.ensures.steps) c.put.ensures c.put_front.ensures;
}

pub returns : goal.returns
returns c = lines_end _ _ _ _ c.loop-h.invariant.writing (no_record_left _ c.in-None.ensures.steps.0)
