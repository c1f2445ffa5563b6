-- The active view, less the pins, is the definition's list.
use Rattle.base_util.specs.Section.{part}
use Rattle.hyparview_state.proofs.Access.{of_packed}
use Rattle.step_active.proofs.Leaving.{free_held}
use borrow.Author.Rules.{rules}
use Rattle.step_active.proofs.without_pin.Goals as goal

pub copy_into-requires-clause-valid_set : goal.copy_into-requires-clause-valid_set
unfolding part
copy_into-requires-clause-valid_set c = search (of_packed, rules)

pub without_all-requires-clause-valid_set : goal.without_all-requires-clause-valid_set
unfolding part
without_all-requires-clause-valid_set c = search (of_packed, rules)

pub without_all-requires-clause-valid_set_2 : goal.without_all-requires-clause-valid_set_2
unfolding part
without_all-requires-clause-valid_set_2 c = search (of_packed, rules)

pub returns : goal.returns
unfolding part
returns c = search free_held
