-- By cases on whether the text was cut: from place 0 on, `full` says exactly whether it is longer than the lent bytes.
use borrow.Author.Rules.{rules}
use mathlib.Core.Path.{◌∙◌}
use Rattle.run_listing.proofs.Laws.{run_cut, run_fits}
use Rattle.run_listing.proofs.run.Goals as goal

pub returns-then-t-clause-value : goal.returns-then-t-clause-value
returns-then-t-clause-value c = (run_cut _ _ _ _ c.new-t.ensures c.put_run.ensures c.if-t.true).0

pub returns-then-t-clause-out_after : goal.returns-then-t-clause-out_after
returns-then-t-clause-out_after c = search rules ∙ (run_cut _ _ _ _ c.new-t.ensures c.put_run.ensures c.if-t.true).1

pub returns-clause-value : goal.returns-clause-value
returns-clause-value c = (run_fits _ _ _ _ c.new-t.ensures c.put_run.ensures c.if-t.false).0

pub returns-clause-out_after : goal.returns-clause-out_after
returns-clause-out_after c = search rules ∙ (run_fits _ _ _ _ c.new-t.ensures c.put_run.ensures c.if-t.false).1
