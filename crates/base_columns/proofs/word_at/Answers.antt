-- The eight bytes are those of the number that they make.
use mathlib.Core.Path.{◌≡◌}
use lib.ListN.{take, drop}
use borrow.Author.Rules.{rules}
use Rattle.base_columns.proofs.Words.{word_read}
use Rattle.base_columns.proofs.word_at.Goals as goal

pub returns : goal.returns
returns c =
    let e : c.unwrap.result.now ≡ take 8 (drop c.args.at c.args.b) = search rules in
    (word_read _ _ _ _ e (search rules) c.requires (search rules) c.from_le_bytes.ensures, search rules)
