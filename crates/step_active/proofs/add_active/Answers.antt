-- By cases: the station itself, a neighbor, a full view with high or low priority, a free place; the data told before keeps the work calm.
use mathlib.Core.Path.{refl}
use Rattle.spec_hyparview.specs.Budgets.{freeing}
use Rattle.hyparview_state.specs.Work.{work_of, run, Fine}
use Rattle.step_active.specs.Sane.{Calm}
use Rattle.step_active.proofs.Leaving.{slot_free, fine_told}
use Rattle.step_active.proofs.Entering.{open_slot, full_high, full_low, new_full, new_open, admit_known, admit_other, add_me, add_other, informed}
use Rattle.step_active.proofs.add_active.Goals as goal
use Rattle.step_active.proofs.add_active.Goals.{After-insert_peer_info-a}

-- The data told before leaves the work fine, and calm enough to free a place.
fine : (c : After-insert_peer_info-a) → Fine (work_of c.insert_peer_info-a.result c.insert_peer_info-a.new.st) c.args.draws.now c.insert_peer_info-a.new.out
fine c = fine_told _ _ _ _ _ _ _ c.requires.given c.insert_peer_info-a.ensures

calm : (c : After-insert_peer_info-a) → Calm 0 freeing 40 (run (work_of c.insert_peer_info-a.result c.insert_peer_info-a.new.st) c.args.draws.now c.insert_peer_info-a.new.out)
calm c = informed _ _ _ _ _ _ _ _ _ c.requires.meets c.insert_peer_info-a.ensures

pub returns-then-is_me : goal.returns-then-is_me
returns-then-is_me c = search add_me

pub returns-then-in_active : goal.returns-then-in_active
returns-then-in_active c =
    add_other _ _ _ _ _ _ _ _ _ c.requires.given c.is_me.ensures _ _ _ _ _ _ c.if-is_me.false
    (admit_known _ _ _ _ _ _ _ _ _ _ _ (fine (goal.at.returns-then-in_active c).After-insert_peer_info-a) c.in_active.ensures c.if-in_active.true c.reply_neighbor.ensures) c.insert_peer_info-a.ensures

pub free_random_slot_in_active_view-b-requires-clause-meets : goal.free_random_slot_in_active_view-b-requires-clause-meets
free_random_slot_in_active_view-b-requires-clause-meets c = calm (goal.at.free_random_slot_in_active_view-b-requires-clause-meets c).After-insert_peer_info-a

pub add_active_unchecked-requires-clause-free_active : goal.add_active_unchecked-requires-clause-free_active
add_active_unchecked-requires-clause-free_active c =
    slot_free _ _ _ _ _ _ _ (calm (goal.at.add_active_unchecked-requires-clause-free_active c).After-insert_peer_info-a) c.free_random_slot_in_active_view-b.ensures

pub add_active_unchecked-requires-in-false-default-clause-free_active : goal.add_active_unchecked-requires-in-false-default-clause-free_active
add_active_unchecked-requires-in-false-default-clause-free_active c = open_slot _ _ _ c.in-false-default.ensures refl

pub returns-in-true-true : goal.returns-in-true-true
returns-in-true-true c =
    let high = full_high _ _ _ _ _ _ _ _ _ _ _ _ _ c.in-true-true.is-1 c.add_active_unchecked.ensures c.free_random_slot_in_active_view-b.ensures in
    let full = new_full _ _ _ _ _ _ _ _ _ _ _ c.in-true-true.ensures refl high in
    add_other _ _ _ _ _ _ _ _ _ c.requires.given c.is_me.ensures _ _ _ _ _ _ c.if-is_me.false
    (admit_other _ _ _ _ _ _ _ _ _ _ _ c.in_active.ensures c.if-in_active.false full) c.insert_peer_info-a.ensures

pub returns-in-true-false : goal.returns-in-true-false
returns-in-true-false c =
    let full = new_full _ _ _ _ _ _ _ _ _ _ _ c.in-true-false.ensures refl (full_low _ _ _ _ _ _ _ (fine (goal.at.returns-in-true-false c).After-insert_peer_info-a) c.in-true-false.is-1) in
    add_other _ _ _ _ _ _ _ _ _ c.requires.given c.is_me.ensures _ _ _ _ _ _ c.if-is_me.false
    (admit_other _ _ _ _ _ _ _ _ _ _ _ c.in_active.ensures c.if-in_active.false full) c.insert_peer_info-a.ensures

pub returns-in-false-default : goal.returns-in-false-default
returns-in-false-default c =
    let free = new_open _ _ _ _ _ _ _ _ _ _ _ (fine (goal.at.returns-in-false-default c).After-insert_peer_info-a) c.in-false-default.ensures refl c.add_active_unchecked-in-false-default.ensures in
    add_other _ _ _ _ _ _ _ _ _ c.requires.given c.is_me.ensures _ _ _ _ _ _ c.if-is_me.false
    (admit_other _ _ _ _ _ _ _ _ _ _ _ c.in_active.ensures c.if-in_active.false free) c.insert_peer_info-a.ensures
