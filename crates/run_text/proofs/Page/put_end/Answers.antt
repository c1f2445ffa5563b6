-- Two bytes and two fields put one after the other are the line, by `end_put`.
use Rattle.run_text.proofs.Laws.{end_put}
use Rattle.run_text.proofs.Page.put_end.Goals as goal

pub returns : goal.returns
returns c = end_put _ _ _ _ _ _ _ c.put_field-2.ensures c.put_field.ensures c.put-2.ensures c.put.ensures
