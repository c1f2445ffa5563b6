-- By cases on the code: a refusal changes nothing, and otherwise each record is entered in order.
use Rattle.std.proofs.Common.{rules, tests, ap, ◌∙◌}
use Rattle.std.proofs.lemmas.Iterator.Consumers.{YieldsList-from_first, fold_from_yields_List}
use Rattle.record.specs.Walk.{record_seen, with_headers}
use Rattle.tally.proofs.Laws.{refused, entered, accepted}
use Rattle.tally.proofs.raised.Goals as goal

pub returns-then-code-ne0 : goal.returns-then-code-ne0
returns-then-code-ne0 c = search refused

pub returns : goal.returns
returns c =
    fold_from_yields_List _ entered _ c.fold.result c.fold.ensures.ran (YieldsList-from_first record_seen (λ s. with_headers s.rest.now) (with_headers c.args.out.now) (ap with_headers c.of.ensures)) (λ a x b q k. search (rules, tests))
    ∙ accepted _ _ _ c.if-code-ne0.false
