-- By cases of the loss and of the mark or the flag: the peer at the place becomes passive or is forgotten, after the same first step.
use mathlib.Core.Path.{◌≡◌}
use lib.ListN.{get_or}
use Rattle.base_util.specs.Section.{part}
use Rattle.hyparview_state.specs.Unpack.{unpack, station_of}
use Rattle.hyparview_state.proofs.Access.{of_packed}
use Rattle.step_active.proofs.Leaving.{fine_told, loose_known, by_index, closed_marked, closed_other, settled_closed, settled_alive, settled_gone}
use borrow.Author.Rules.{rules}
use Rattle.step_active.proofs.remove_active_by_index.Goals as goal
use Rattle.step_active.proofs.remove_active_by_index.Goals.{After-get_index-p}

-- The neighbor that leaves, as it was read.
leaver : (c : After-get_index-p) → c.get_index-p.result ≡ get_or (unpack c.args.st.now).active c.args.i 0
unfolding part unpack station_of
leaver c = c.get_index-p.ensures

pub get_index-p-requires-clause-valid_set : goal.get_index-p-requires-clause-valid_set
unfolding part unpack station_of
get_index-p-requires-clause-valid_set c = search (of_packed, rules)

pub get_index-p-requires-clause-i_in_bounds : goal.get_index-p-requires-clause-i_in_bounds
unfolding part unpack station_of
get_index-p-requires-clause-i_in_bounds c = search rules

pub drop_active-a-requires-clause-p_value : goal.drop_active-a-requires-clause-p_value
drop_active-a-requires-clause-p_value c = leaver (goal.at.drop_active-a-requires-clause-p_value c).After-get_index-p

pub demote-requires-in-DisconnectReceived-true-clause-meets : goal.demote-requires-in-DisconnectReceived-true-clause-meets
demote-requires-in-DisconnectReceived-true-clause-meets c =
    λ _. loose_known _ _ _ _ _ _ _ _ _ c.requires.meets c.requires.i_in_bounds (leaver (goal.at.demote-requires-in-DisconnectReceived-true-clause-meets c).After-get_index-p) c.drop_active-a.ensures

pub returns-in-ConnectionClosed : goal.returns-in-ConnectionClosed
returns-in-ConnectionClosed c =
    let told = c.drop_active-a.ensures in
    let fine = fine_told _ _ _ _ _ _ _ c.requires.given told in
    by_index _ _ _ _ _ _ _ _ _ _ _ _ _ c.requires.given (leaver (goal.at.returns-in-ConnectionClosed c).After-get_index-p)
    (settled_closed _ _ _ _ _ _ _ c.in-ConnectionClosed.is (closed_marked _ _ _ _ _ _ fine c.is_marked.ensures _ _ _ _ _ c.if-is_marked.true c.demote.ensures c.drop_mark-b.ensures)) told

pub returns-in-DisconnectReceived-true : goal.returns-in-DisconnectReceived-true
returns-in-DisconnectReceived-true c =
    by_index _ _ _ _ _ _ _ _ _ _ _ _ _ c.requires.given (leaver (goal.at.returns-in-DisconnectReceived-true c).After-get_index-p)
    (settled_alive _ _ _ _ _ _ _ _ c.in-DisconnectReceived-true.is c.in-DisconnectReceived-true.field-0-test c.demote-in-DisconnectReceived-true.ensures) c.drop_active-a.ensures

pub returns-in-ConnectionClosed-2 : goal.returns-in-ConnectionClosed-2
returns-in-ConnectionClosed-2 c =
    let told = c.drop_active-a.ensures in
    let fine = fine_told _ _ _ _ _ _ _ c.requires.given told in
    by_index _ _ _ _ _ _ _ _ _ _ _ _ _ c.requires.given (leaver (goal.at.returns-in-ConnectionClosed-2 c).After-get_index-p)
    (settled_closed _ _ _ _ _ _ _ c.in-ConnectionClosed-2.is (closed_other _ _ _ _ _ _ fine c.is_marked.ensures _ _ c.if-is_marked.false c.forget_peer.ensures)) told

pub returns-in-DisconnectReceived-false : goal.returns-in-DisconnectReceived-false
returns-in-DisconnectReceived-false c =
    let told = c.drop_active-a.ensures in
    let fine = fine_told _ _ _ _ _ _ _ c.requires.given told in
    by_index _ _ _ _ _ _ _ _ _ _ _ _ _ c.requires.given (leaver (goal.at.returns-in-DisconnectReceived-false c).After-get_index-p)
    (settled_gone _ _ _ _ _ _ _ _ _ fine c.in-DisconnectReceived-false.is c.in-DisconnectReceived-false.field-0-test c.forget_peer-in-DisconnectReceived-false.ensures) told
