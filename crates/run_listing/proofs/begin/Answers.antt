-- By the contract of `State::new` and with both places at 0, by `begins_at`.
use borrow.Author.Rules.{rules}
use Rattle.run_listing.proofs.Laws.{begins_at}
use Rattle.run_listing.proofs.begin.Goals as goal

pub returns : goal.returns
returns c = search (begins_at, rules)
