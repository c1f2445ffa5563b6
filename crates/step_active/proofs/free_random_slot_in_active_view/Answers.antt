-- By cases: with nobody to demote nothing happens; else one drawn of those without a pin leaves by its place in the view, is told, and becomes passive.
use borrow.Author.Tests.{eq-eqb, ne_eqb}
use native.Mathlib.Omega.{arith}
use Rattle.base_util.specs.Section.{part, working_places}
use Rattle.base_util.proofs.Sets.{empty_is_null}
use Rattle.hyparview_state.specs.Unpack.{unpack, station_of}
use Rattle.hyparview_state.proofs.Access.{of_packed}
use Rattle.step_sending.proofs.Told.{fine_drawn, room_drawn}
use Rattle.step_active.proofs.Leaving.{sent_loose, loose_picked, settled_random, by_index, picked_removed, picked_place, no_slot, one_slot}
use borrow.Author.Rules.{rules}
use Rattle.step_active.proofs.free_random_slot_in_active_view.Goals as goal

pub returns-then-n-eq0 : goal.returns-then-n-eq0
returns-then-n-eq0 c =
    let from = c.without_pin.ensures in
    no_slot _ _ _ _ _ _ from (empty_is_null working_places _ from.valid) c.requires.given (eq-eqb _ _ c.if-n-eq0.true)

pub position-i-requires : goal.position-i-requires
unfolding part
position-i-requires c = search (of_packed, rules)

pub drop_active-a-requires : goal.drop_active-a-requires
unfolding part unpack station_of
drop_active-a-requires c =
    let drawn = c.draw_one_of-t.ensures in
    let there = picked_place c.args.st.now _ _ _ c.without_pin.ensures drawn.index_value.1 c.position-i.ensures.0 in record {
      given_room = room_drawn _ _ _ _ _ c.requires.given drawn.draws_any;
      i_in_bounds = there.0;
      p_value = there.1;
    }

pub demote-requires : goal.demote-requires
unfolding part unpack station_of
demote-requires c =
    let drawn = c.draw_one_of-t.ensures in
    let from = c.without_pin.ensures in
    let there = picked_place c.args.st.now _ _ _ from drawn.index_value.1 c.position-i.ensures.0 in
    let loose = loose_picked _ _ _ _ _ _ _ _ _ _ _ c.requires.given c.requires.meets (omega (arith, from.valid.fits)) there c.drop_active-a.ensures drawn.draws_any in record {
      given = search rules;
      meets = λ _. sent_loose _ _ _ _ _ _ _ _ loose c.send_disconnect-b.ensures;
    }

pub returns : goal.returns
unfolding part unpack station_of
returns c =
    let from = c.without_pin.ensures in
    let drawn = c.draw_one_of-t.ensures in
    let there = picked_place c.args.st.now _ _ _ from drawn.index_value.1 c.position-i.ensures.0 in
    let gone = settled_random _ _ _ _ _ _ _ _ _ _ _ c.demote.ensures c.send_disconnect-b.ensures in
    let removed = by_index _ _ _ _ _ _ _ _ _ _ _ _ _ (fine_drawn _ _ _ _ _ c.requires.given drawn.draws_any) there.1 gone c.drop_active-a.ensures in
    let picked = picked_removed c.args.st.now _ _ _ from drawn.index_value.1 c.position-i.ensures.0 _ _ _ _ _ _ _ c.requires.given drawn.index_value.0 removed drawn.draws_any in
    one_slot _ _ _ _ _ _ from (empty_is_null working_places _ from.valid) _ _ _ (ne_eqb _ _ c.if-n-eq0.false) picked
