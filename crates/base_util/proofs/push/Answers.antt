-- x is stored at the first unused place and the count grows, which puts x at the end of the items, by `pushed`.
use lib.ListN.{length-set}
use Rattle.base_util.proofs.Sets.{pushed}
use borrow.Author.Rules.{rules}
use Rattle.base_util.proofs.push.Goals as goal

pub bounds-s-cap-2 : goal.bounds-s-cap-2
bounds-s-cap-2 c = simp length-set (search rules)

pub returns : goal.returns
returns c = search pushed
