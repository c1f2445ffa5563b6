-- Cases: count, backoff, a recent peer.
use Prim.Native.Nat.{ℕ, ◌+◌}
use mathlib.Core.List.{List}
use native.Mathlib.Omega.{arith}
use lib.ListN.{get_or, set}
use Rattle.base_util.specs.Section.{part}
use Rattle.spec_hyparview.specs.Timers.{rejoin_bootstrap, count_alone}
use Rattle.hyparview_state.specs.Layout.{passes_alone_at}
use Rattle.hyparview_state.specs.Work.{work_of, Changes, Tells, Fine}
use Rattle.hyparview_state.proofs.Access.{of_bootstrap, of_recent}
use Rattle.step_sending.proofs.Told.{room_of}
use Rattle.step_refill.proofs.Asking.{fine_after}
use Rattle.step_maintenance.proofs.Counted.{alone_refused, alone_left, alone_counted, others_are}
use Rattle.step_maintenance.proofs.Joins.{joins_start, joins_next, joins_end, no_recent, one_recent, fine_told, rejoined, rejoin_due, rejoin_not_due, alone_stopped, due_counted, passed_alone}
use Rattle.step_maintenance.proofs.pass_alone.Goals as goal
use Rattle.step_maintenance.proofs.pass_alone.Goals.{Else-a-ne0, After-loop-p}

-- The words with the pass counted.
abbrev after : List ℕ → List ℕ
after xs = set xs passes_alone_at (get_or xs passes_alone_at 0 + 1)

counted : (c : Else-a-ne0) → Changes count_alone (work_of c.args.w c.args.st.now) (work_of c.require-a.result (after c.args.st.now))
counted c = alone_counted _ _ _ c.requires.given.ready.packed c.require-a.ensures c.if-a-ne0.false

fine_counted : (c : Else-a-ne0) → Fine (work_of c.require-a.result (after c.args.st.now)) c.args.draws.now c.args.out.now
fine_counted c = fine_after _ _ _ _ _ _ c.requires.given (counted c)

-- The Joins to the bootstrap peers.
joined : (c : After-loop-p) → Tells rejoin_bootstrap (work_of c.require-a.result (after c.args.st.now)) (work_of c.loop-p.a (after c.args.st.now)) c.args.out.now c.loop-p.out
unfolding part
joined c = joins_end _ _ _ _ _ _ _ c.count-k.ensures.0 c.loop-p.invariant c.loop-p-test.false

fine_joined : (c : After-loop-p) → Fine (work_of c.loop-p.a (after c.args.st.now)) c.args.draws.now c.loop-p.out
fine_joined c =
    let counts = alone_counted _ _ _ c.requires.given.ready.packed c.require-a.ensures c.if-a-ne0.false in
    fine_told _ _ _ _ _ _ _ (fine_after _ _ _ _ _ _ c.requires.given counts) (joined c)

pub returns-then-a-ne0 : goal.returns-then-a-ne0
returns-then-a-ne0 c =
    alone_stopped _ _ _ _ _ c.requires.given c.if-a-ne0.true (alone_refused _ _ _ c.requires.given.ready.packed c.require-a.ensures c.if-a-ne0.true)

pub overflow_cast-passes : goal.overflow_cast-passes
overflow_cast-passes c = record { fits = omega (arith, alone_left _ _ _ c.requires.given.ready.packed c.require-a.ensures c.if-a-ne0.false) }

pub copy_into-requires-clause-valid_set : goal.copy_into-requires-clause-valid_set
unfolding part
copy_into-requires-clause-valid_set c = of_recent _ (fine_counted (goal.at.copy_into-requires-clause-valid_set c).Else-a-ne0).ready.packed

pub without_all-requires-clause-valid_set_2 : goal.without_all-requires-clause-valid_set_2
unfolding part
without_all-requires-clause-valid_set_2 c = of_bootstrap _ (fine_counted (goal.at.without_all-requires-clause-valid_set_2 c).Else-a-ne0).ready.packed

pub count-k-requires : goal.count-k-requires
unfolding part
count-k-requires c = of_bootstrap _ (fine_counted (goal.at.count-k-requires c).Else-a-ne0).ready.packed

pub loop-p-init : goal.loop-p-init
unfolding part
loop-p-init c = joins_start _ _ _ _ (room_of _ _ _ (fine_counted (goal.at.loop-p-init c).Else-a-ne0))

pub loop-p-preserved : goal.loop-p-preserved
unfolding part
loop-p-preserved c = search joins_next

pub returns-then-others-eq0 : goal.returns-then-others-eq0
unfolding part
returns-then-others-eq0 c =
    let there = goal.at.returns-then-others-eq0 c in
    passed_alone _ _ _ _ _ _ _ _ c.requires.given
    (rejoin_due _ _ _ _ _ (due_counted c.args.st.now _ _ c.requires.given.ready.packed c.backoff_due.ensures) _ _ c.if-backoff_due.true
    (rejoined _ _ _ _ _ _ _ _ _ (fine_counted there.Else-a-ne0) (others_are _ _ _ c.copy_into.ensures c.without_all.ensures)
    (no_recent _ _ _ _ _ _ (fine_joined there.After-loop-p) c.count-others.ensures.0 c.if-others-eq0.true) (joined there.After-loop-p)))
    (counted there.Else-a-ne0)

pub get_index-p-requires-clause-valid_set : goal.get_index-p-requires-clause-valid_set
get_index-p-requires-clause-valid_set c = c.without_all.ensures.valid

pub get_index-p-requires-clause-i_in_bounds : goal.get_index-p-requires-clause-i_in_bounds
get_index-p-requires-clause-i_in_bounds c = omega (arith, c.draw_one_of-c.ensures.index_value.1, c.count-others.ensures.0)

pub returns-then-backoff_due : goal.returns-then-backoff_due
unfolding part
returns-then-backoff_due c =
    let there = goal.at.returns-then-backoff_due c in
    passed_alone _ _ _ _ _ _ _ _ c.requires.given
    (rejoin_due _ _ _ _ _ (due_counted c.args.st.now _ _ c.requires.given.ready.packed c.backoff_due.ensures) _ _ c.if-backoff_due.true
    (rejoined _ _ _ _ _ _ _ _ _ (fine_counted there.Else-a-ne0) (others_are _ _ _ c.copy_into.ensures c.without_all.ensures)
    (one_recent _ _ _ _ _ _ (fine_joined there.After-loop-p) c.count-others.ensures.0 _ _ c.draw_one_of-c.ensures.index_value.0 c.get_index-p.ensures _ _ _ c.if-others-eq0.false c.join.ensures c.draw_one_of-c.ensures.draws_any)
    (joined there.After-loop-p)))
    (counted there.Else-a-ne0)

pub returns : goal.returns
returns c =
    let there = goal.at.returns c in
    passed_alone _ _ _ _ _ _ _ _ c.requires.given (rejoin_not_due _ _ _ _ _ (due_counted c.args.st.now _ _ c.requires.given.ready.packed c.backoff_due.ensures) (fine_counted there.Else-a-ne0) c.if-backoff_due.false) (counted there.Else-a-ne0)
