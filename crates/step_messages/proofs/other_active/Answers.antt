-- The copy holds the view's items, and without p it holds the definition's list.
use Rattle.base_util.specs.Section.{part}
use Rattle.hyparview_state.specs.Unpack.{unpack, station_of}
use Rattle.hyparview_state.proofs.Access.{of_packed}
use Rattle.step_messages.proofs.Laws.{others_held}
use borrow.Author.Rules.{rules}
use Rattle.step_messages.proofs.other_active.Goals as goal

pub copy_into-requires-clause-valid_set : goal.copy_into-requires-clause-valid_set
unfolding part
copy_into-requires-clause-valid_set c = search (of_packed, rules)

pub copy_into-requires-clause-cap_le_working_places : goal.copy_into-requires-clause-cap_le_working_places
unfolding part
copy_into-requires-clause-cap_le_working_places c = search rules

pub copy_into-requires-clause-t_len : goal.copy_into-requires-clause-t_len
unfolding part
copy_into-requires-clause-t_len c = search rules

pub returns : goal.returns
unfolding part unpack station_of
returns c = search others_held
