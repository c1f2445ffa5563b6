-- By cases in the order of the refusals: too short, too many nodes, a record of the form, and otherwise malformed.
use mathlib.Core.Path.{sym, ◌∙◌}
use Rattle.record_convert.proofs.Laws.{short_answer, crowded_answer, bad_answer, tested}
use Rattle.record_convert.proofs.answer.Goals as goal

pub returns-then-b-place-clause-code : goal.returns-then-b-place-clause-code
returns-then-b-place-clause-code c = short_answer _ _ _ _ _ c.place.ensures.0 c.if-b-place.true

pub returns-then-b-gt-MOST_NODES-clause-code : goal.returns-then-b-gt-MOST_NODES-clause-code
returns-then-b-gt-MOST_NODES-clause-code c = crowded_answer _ _ _ _ _ c.place.ensures.0 c.if-b-place.false c.if-b-gt-MOST_NODES.true

pub other_form-requires : goal.other_form-requires
other_form-requires c = sym (tested _ _ _ _ c.well_formed-2.ensures c.kind_in_form.ensures) ∙ c.if-well_formed-kind_in_form.true

pub returns-clause-code : goal.returns-clause-code
returns-clause-code c =
    bad_answer _ _ _ _ _ c.place.ensures.0 c.if-b-place.false c.if-b-gt-MOST_NODES.false
    (sym (tested _ _ _ _ c.well_formed-2.ensures c.kind_in_form.ensures) ∙ c.if-well_formed-kind_in_form.false)
