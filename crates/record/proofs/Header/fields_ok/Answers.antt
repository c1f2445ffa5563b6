-- The definition's tests of the three fields, regrouped.
use Rattle.record.proofs.Laws.{fields_known}
use Rattle.record.proofs.Header.fields_ok.Goals as goal

pub returns : goal.returns
returns c = fields_known _ _ _ _ c.is_message-shuffle.ensures c.is_timer.ensures c.is_message-forward.ensures
