-- Counts of packed words are within their places, so the parts lent are the lists, and the five tests are the three rules.
use Rattle.base_util.specs.Section.{part}
use Rattle.hyparview_rules.proofs.Shape.{ok_active, ok_passive, ok_requests, ok_peer_data}
use Rattle.hyparview_rules.proofs.Held.{few_active, few_passive, few_alive, views_are}
use borrow.Author.Rules.{rules}
use Rattle.hyparview_rules.proofs.views_rule.Goals as goal

pub overflow_add-active : goal.overflow_add-active
overflow_add-active c = let few = few_active _ c.requires in search rules

pub overflow_add-passive : goal.overflow_add-passive
overflow_add-passive c = let few = few_passive _ c.requires in search rules

pub overflow_add-alive : goal.overflow_add-alive
overflow_add-alive c = let few = few_alive _ c.requires in search rules

pub slice_bounds-disjoint-end : goal.slice_bounds-disjoint-end
slice_bounds-disjoint-end c = let few = few_active _ c.requires in search rules

pub slice_bounds-disjoint-end-2 : goal.slice_bounds-disjoint-end-2
slice_bounds-disjoint-end-2 c = let few = few_passive _ c.requires in search rules

pub slice_bounds-is_in-end : goal.slice_bounds-is_in-end
slice_bounds-is_in-end c = let few = few_active _ c.requires in search rules

pub slice_bounds-is_in-end-2 : goal.slice_bounds-is_in-end-2
slice_bounds-is_in-end-2 c = let few = few_passive _ c.requires in search rules

pub slice_bounds-subset-end : goal.slice_bounds-subset-end
slice_bounds-subset-end c =
    let few = few_alive _ c.requires in
    let others = few_passive _ c.requires in
    search rules

pub slice_bounds-subset-end-2 : goal.slice_bounds-subset-end-2
slice_bounds-subset-end-2 c = let few = few_passive _ c.requires in search rules

pub data_known-requires-clause-valid_data_words : goal.data_known-requires-clause-valid_data_words
unfolding part
data_known-requires-clause-valid_data_words c = ok_peer_data _ c.requires

pub data_known-requires-clause-valid_set : goal.data_known-requires-clause-valid_set
unfolding part
data_known-requires-clause-valid_set c = ok_active _ c.requires

pub data_known-requires-clause-valid_set_2 : goal.data_known-requires-clause-valid_set_2
unfolding part
data_known-requires-clause-valid_set_2 c = ok_passive _ c.requires

pub data_known-requires-clause-valid_numbers : goal.data_known-requires-clause-valid_numbers
unfolding part
data_known-requires-clause-valid_numbers c = ok_requests _ c.requires

pub returns : goal.returns
unfolding part
returns c =
    views_are _ c.requires _ _ _ _ _ c.disjoint.ensures c.is_in.ensures c.is_in-2.ensures c.subset.ensures c.data_known.ensures
