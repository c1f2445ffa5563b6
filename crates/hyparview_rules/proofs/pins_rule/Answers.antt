-- Counts of packed words are within their places, so the parts lent are the lists, and the comparison is the definition's, by `pins_are`.
use Rattle.base_util.specs.Section.{part}
use Rattle.hyparview_rules.proofs.Held.{few_pinned, few_active, pins_are}
use borrow.Author.Rules.{rules}
use Rattle.hyparview_rules.proofs.pins_rule.Goals as goal

pub overflow_add-pins : goal.overflow_add-pins
overflow_add-pins c = let few = few_pinned _ c.requires in search rules

pub overflow_add-active : goal.overflow_add-active
overflow_add-active c = let few = few_active _ c.requires in search rules

pub slice_bounds-subset-end : goal.slice_bounds-subset-end
slice_bounds-subset-end c = let few = few_pinned _ c.requires in search rules

pub slice_bounds-subset-end-2 : goal.slice_bounds-subset-end-2
slice_bounds-subset-end-2 c = let few = few_active _ c.requires in search rules

pub returns : goal.returns
unfolding part
returns c = search pins_are
