-- By cases: no request was open, no room for a 33rd peer (code 7), or the peer goes into the refused ones in order.
use Rattle.base_util.specs.Section.{part}
use Rattle.hyparview_state.specs.Unpack.{unpack, station_of}
use Rattle.hyparview_state.proofs.Access.{of_packed}
use Rattle.hyparview_state.proofs.Bridge.{on_passed, on_done}
use Rattle.spec_hyparview.specs.Messages.{add_refused}
use Rattle.hyparview_state.proofs.Fields.{put_refused}
use Rattle.step_messages.proofs.Laws.{fits_known, refused_place, refusal_noted, refusal_there, refusal_none}
use borrow.Author.Rules.{rules}
use Rattle.step_messages.proofs.note_refusal.Goals as goal

pub count-n-requires : goal.count-n-requires
unfolding part
count-n-requires c = search (of_packed, rules)

pub contains-requires : goal.contains-requires
unfolding part
contains-requires c = search (of_packed, rules)

pub returns-then-a-ne0 : goal.returns-then-a-ne0
unfolding part
returns-then-a-ne0 c =
    refusal_there _ _ _ _ c.if-requested.true
    (refusal_noted _ _ _ _ _ _ _ c.requires.packed_state (fits_known _ _ _ _ c.count-n.ensures.0 c.contains.ensures) (on_passed _ c.requires.packed_state _ (search rules)) c.require-a.ensures)

pub insert_sorted-requires-clause-valid_set : goal.insert_sorted-requires-clause-valid_set
unfolding part
insert_sorted-requires-clause-valid_set c = search (of_packed, rules)

pub insert_sorted-requires-clause-s_len_bound : goal.insert_sorted-requires-clause-s_len_bound
unfolding part
insert_sorted-requires-clause-s_len_bound c =
    refused_place _ _ _ _ _ c.requires.packed_state (fits_known _ _ _ _ c.count-n.ensures.0 c.contains.ensures) c.require-a.ensures (search rules)

pub returns-then-requested : goal.returns-then-requested
unfolding add_refused unpack station_of part
returns-then-requested c =
    refusal_there _ _ _ _ c.if-requested.true
    (refusal_noted _ _ _ _ _ _ _ c.requires.packed_state (fits_known c.args.st.now _ _ _ c.count-n.ensures.0 c.contains.ensures) (on_done _ c.requires.packed_state _ _ (search rules) (put_refused c.insert_sorted.ensures)) c.require-a.ensures)

pub returns : goal.returns
returns c = search refusal_none
