-- From place 0 on, the place reached is the text's length or where the lent bytes end.
use mathlib.Core.Path.{◌∙◌}
use borrow.Author.Rules.{rules}
use Rattle.run_stories.proofs.Laws.{told, told_inside, bytes_told}
use Rattle.run_stories.proofs.tell.Goals as goal

pub returns-clause-value : goal.returns-clause-value
returns-clause-value c = (told _ _ _ _ c.new-t.ensures c.put_ends.ensures, told_inside _ _ _ _ c.new-t.ensures c.put_ends.ensures)

pub returns-clause-out_after : goal.returns-clause-out_after
returns-clause-out_after c = search rules ∙ bytes_told _ _ _ _ c.new-t.ensures c.put_ends.ensures
