-- Three fields put one after the other are the line, by `line_put`.
use Rattle.run_stories.proofs.Laws.{line_put}
use Rattle.run_stories.proofs.put_line.Goals as goal

pub returns : goal.returns
returns c = line_put _ _ _ _ _ _ _ c.put_field-3.ensures c.put_field-2.ensures c.put_field.ensures
