-- By cases on the two tests, which are the definition's, regrouped.
use mathlib.Core.Path.{sym, ◌∙◌}
use Rattle.base_lists.proofs.Choice.{choose_yes, choose_no}
use Rattle.record.proofs.Laws.{count_known}
use Rattle.record.proofs.Header.count_ok.Goals as goal

pub returns-then-one : goal.returns-then-one
returns-then-one c =
    sym (choose_yes _ _ _ c.if-one.true)
    ∙ count_known _ _ _ _ _ _ _ c.is_message.ensures c.is_message-2.ensures c.is_message-3.ensures c.is_data.ensures c.is_message-4.ensures c.is_message-5.ensures

pub returns-then-some : goal.returns-then-some
returns-then-some c =
    sym (choose_no _ _ _ c.if-one.false ∙ choose_yes _ _ _ c.if-some.true)
    ∙ count_known _ _ _ _ _ _ _ c.is_message.ensures c.is_message-2.ensures c.is_message-3.ensures c.is_data.ensures c.is_message-4.ensures c.is_message-5.ensures

pub returns-else-some : goal.returns-else-some
returns-else-some c =
    sym (choose_no _ _ _ c.if-one.false ∙ choose_no _ _ _ c.if-some.false)
    ∙ count_known _ _ _ _ _ _ _ c.is_message.ensures c.is_message-2.ensures c.is_message-3.ensures c.is_data.ensures c.is_message-4.ensures c.is_message-5.ensures
