-- By cases: the input is refused, its settings are refused, or it has events, each as the definition chooses.
use borrow.Author.Rules.{rules}
use Rattle.run_listing.proofs.Laws.{open_unset, open_events, open_refused, open_whole}
use Rattle.run_listing.proofs.open.Goals as goal

pub returns-then-m-ne0 : goal.returns-then-m-ne0
returns-then-m-ne0 c = search (open_whole, open_unset, rules)

pub returns-in_default : goal.returns-in_default
returns-in_default c = search (open_refused, rules)

pub returns : goal.returns
returns c = search (open_whole, open_events, rules)
