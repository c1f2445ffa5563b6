-- The definition's five tests, each known from its call, regrouped.
use Rattle.record.proofs.Laws.{header_known}
use Rattle.record.proofs.Header.is_ok.Goals as goal

pub returns : goal.returns
returns c = header_known _ _ _ _ _ _ c.kind_ok.ensures c.flags_ok.ensures c.count_ok.ensures c.peer_ok.ensures c.fields_ok.ensures
