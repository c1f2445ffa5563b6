-- Four lines put one after the other are the whole text, by `ends_put`.
use Rattle.run_stories.proofs.Laws.{ends_put}
use Rattle.run_stories.proofs.put_ends.Goals as goal

pub returns : goal.returns
returns c = ends_put _ _ _ _ _ _ c.put_line-4.ensures c.put_line-3.ensures c.put_line-2.ensures c.put_line.ensures
