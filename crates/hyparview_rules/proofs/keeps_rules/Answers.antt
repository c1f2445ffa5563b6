-- Of packed words each test is its rule, and all of them are the definition's.
use Rattle.base_util.specs.Section.{part}
use Rattle.hyparview_rules.proofs.Shape.{of_ok}
use Rattle.hyparview_rules.proofs.Held.{tests_are}
use borrow.Author.Rules.{rules}
use Rattle.hyparview_rules.proofs.keeps_rules.Goals as goal

pub repeats_rule-requires : goal.repeats_rule-requires
repeats_rule-requires c = search rules

pub order_rule-requires : goal.order_rule-requires
order_rule-requires c = search rules

pub joins_rule-requires : goal.joins_rule-requires
joins_rule-requires c = search rules

pub numbers_rule-requires : goal.numbers_rule-requires
numbers_rule-requires c = search rules

pub contains_data-requires : goal.contains_data-requires
unfolding part
contains_data-requires c = search (of_ok, rules)

pub views_rule-requires : goal.views_rule-requires
views_rule-requires c = search rules

pub pins_rule-requires : goal.pins_rule-requires
pins_rule-requires c = search rules

pub returns : goal.returns
unfolding part
returns c =
    tests_are _ c.requires _ _ _ _ _ _ _ _ c.settings_rule.ensures c.repeats_rule.ensures c.order_rule.ensures
    c.joins_rule.ensures c.numbers_rule.ensures c.contains_data.ensures c.views_rule.ensures c.pins_rule.ensures
