-- Counts of packed words are within their places, so the parts lent are the lists; with no join open the rule holds of itself.
use Rattle.base_util.specs.Section.{part}
use Rattle.hyparview_rules.proofs.Held.{few_joins, few_bootstrap, few_active, none_joined, joins_are}
use borrow.Author.Rules.{rules}
use Rattle.hyparview_rules.proofs.joins_rule.Goals as goal

pub returns-then-n-eq0 : goal.returns-then-n-eq0
returns-then-n-eq0 c = search none_joined

pub overflow_add-joins : goal.overflow_add-joins
overflow_add-joins c = let few = few_joins _ c.requires in search rules

pub overflow_add-bootstrap : goal.overflow_add-bootstrap
overflow_add-bootstrap c = let few = few_bootstrap _ c.requires in search rules

pub overflow_add-active : goal.overflow_add-active
overflow_add-active c = let few = few_active _ c.requires in search rules

pub slice_bounds-subset-end : goal.slice_bounds-subset-end
slice_bounds-subset-end c = let few = few_joins _ c.requires in search rules

pub slice_bounds-subset-end-2 : goal.slice_bounds-subset-end-2
slice_bounds-subset-end-2 c = let few = few_bootstrap _ c.requires in search rules

pub slice_bounds-disjoint-end : goal.slice_bounds-disjoint-end
slice_bounds-disjoint-end c = let few = few_joins _ c.requires in search rules

pub slice_bounds-disjoint-end-2 : goal.slice_bounds-disjoint-end-2
slice_bounds-disjoint-end-2 c = let few = few_active _ c.requires in search rules

pub slice_bounds-is_in-end : goal.slice_bounds-is_in-end
slice_bounds-is_in-end c = let few = few_joins _ c.requires in search rules

pub returns : goal.returns
unfolding part
returns c = search joins_are
