-- Packed words have well formed sets, and their maps rise, so the three tests are the definition's rule, by `order_is`.
use Rattle.base_util.specs.Section.{part}
use Rattle.hyparview_rules.proofs.Shape.{of_ok}
use Rattle.hyparview_rules.proofs.Held.{order_is}
use borrow.Author.Rules.{rules}
use Rattle.hyparview_rules.proofs.order_rule.Goals as goal

pub is_rising-requires : goal.is_rising-requires
unfolding part
is_rising-requires c = search (of_ok, rules)

pub is_rising-requires-2 : goal.is_rising-requires-2
unfolding part
is_rising-requires-2 c = search (of_ok, rules)

pub is_rising-requires-3 : goal.is_rising-requires-3
unfolding part
is_rising-requires-3 c = search (of_ok, rules)

pub returns : goal.returns
unfolding part
returns c = search order_is
