-- A line written from place 0 into enough space stands whole at the front, and the place reached is its length.
use borrow.Author.Rules.{rules}
use Rattle.run_listing.proofs.Stream.{end_fronts}
use Rattle.run_listing.proofs.end_line.Goals as goal

pub returns : goal.returns
returns c = end_fronts _ _ _ _ _ _ c.requires c.new-t.ensures c.put_end.ensures (search rules)
