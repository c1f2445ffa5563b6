-- By cases: words that keep the rules are packed, so the three lists answer; by any others no connection is wanted.
use Rattle.hyparview.proofs.Asked.{ok_packed, wanted_is, wanted, wanted_not}
use Rattle.base_util.specs.Section.{part}
use Rattle.hyparview_state.proofs.Access.{of_packed}
use borrow.Author.Rules.{rules}
use Rattle.hyparview.proofs.wants_connection.Goals as goal

pub returns-in_default : goal.returns-in_default
returns-in_default c = wanted_not _ c.in_default.ensures _

pub in_active-requires : goal.in_active-requires
in_active-requires c = record { packed_state = ok_packed _ _ c.in-Some.ensures }

pub is_requested-requires : goal.is_requested-requires
is_requested-requires c = record { packed_state = ok_packed _ _ c.in-Some.ensures }

pub contains_number-requires : goal.contains_number-requires
unfolding part
contains_number-requires c = let p = ok_packed _ _ c.in-Some.ensures in search (of_packed, rules)

pub returns : goal.returns
unfolding part
returns c = wanted _ _ c.in-Some.ensures _ _ (wanted_is _ _ _ _ _ c.in_active.ensures c.is_requested.ensures c.contains_number.ensures)
