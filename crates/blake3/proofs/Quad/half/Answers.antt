-- `half` meets its contract: each word is the definition's of the words before it.
use borrow.Author.Rules.{rules}
use Rattle.blake3.proofs.Laws.{halved}
use Rattle.blake3.proofs.Quad.half.Goals as goal

pub returns : goal.returns
returns c =
    halved c.args.j c.args.k c.args.x c.args.self _ _ c.requires.j_nonzero c.requires.k_nonzero (search rules) (search rules) c.rotate_right-b.ensures c.rotate_right-d.ensures
