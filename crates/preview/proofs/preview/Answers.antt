-- By cases: another number of words, a refused call on the copy, an accepted one whose output is priced_records.
use Rattle.preview.proofs.Done.{other_length, refused, accepted, on_copy}
use borrow.Author.Rules.{rules}
use Rattle.preview.proofs.preview.Goals as goal

pub returns-then-st-ne-LENGTH : goal.returns-then-st-ne-LENGTH
returns-then-st-ne-LENGTH c = search other_length

pub returns-then-code-ne0 : goal.returns-then-code-ne0
returns-then-code-ne0 c =
    on_copy _ _ _ _ _ _ _ _ (search rules) (search rules) c.handle_from-d.ensures (refused _ _ c.no_price-then-code-ne0.ensures (search rules))

pub returns : goal.returns
returns c =
    on_copy _ _ _ _ _ _ _ _ (search rules) (search rules) c.handle_from-d.ensures (accepted _ _ c.priced_records-n.ensures (search rules))
