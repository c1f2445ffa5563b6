-- The keys of the requests, less the neighbors, are the definition's list.
use Rattle.base_util.specs.Section.{part}
use Rattle.hyparview_state.proofs.Access.{of_packed}
use Rattle.step_refill.proofs.Asking.{outside_held}
use borrow.Author.Rules.{rules}
use Rattle.step_refill.proofs.asked_outside.Goals as goal

pub keys_into-requires-clause-valid_numbers : goal.keys_into-requires-clause-valid_numbers
unfolding part
keys_into-requires-clause-valid_numbers c = search (of_packed, rules)

pub without_all-requires-clause-valid_set : goal.without_all-requires-clause-valid_set
unfolding part
without_all-requires-clause-valid_set c = search (of_packed, rules)

pub without_all-requires-clause-valid_set_2 : goal.without_all-requires-clause-valid_set_2
unfolding part
without_all-requires-clause-valid_set_2 c = search (of_packed, rules)

pub returns : goal.returns
unfolding part
returns c = search outside_held
