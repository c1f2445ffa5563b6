-- Packed words have well formed sets, so the four tests are the definition's rule, by `repeats_is`.
use Rattle.base_util.specs.Section.{part}
use Rattle.hyparview_rules.proofs.Shape.{of_ok}
use Rattle.hyparview_rules.proofs.Held.{repeats_is}
use borrow.Author.Rules.{rules}
use Rattle.hyparview_rules.proofs.repeats_rule.Goals as goal

pub is_distinct-requires : goal.is_distinct-requires
unfolding part
is_distinct-requires c = search (of_ok, rules)

pub is_distinct-requires-2 : goal.is_distinct-requires-2
unfolding part
is_distinct-requires-2 c = search (of_ok, rules)

pub is_distinct-requires-3 : goal.is_distinct-requires-3
unfolding part
is_distinct-requires-3 c = search (of_ok, rules)

pub is_distinct-requires-4 : goal.is_distinct-requires-4
unfolding part
is_distinct-requires-4 c = search (of_ok, rules)

pub returns : goal.returns
unfolding part
returns c = search repeats_is
