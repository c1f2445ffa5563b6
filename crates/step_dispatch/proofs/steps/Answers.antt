-- The first timers are started, or are not due; from either the work goes on, and the data of declined peers is forgotten last.
use native.Mathlib.Omega.{arith}
use borrow.Author.Tests.{eqb-true}
use Rattle.base_lists.proofs.Choice.{and_left}
use Rattle.step_refill.proofs.Asking.{fine_after}
use Rattle.step_dispatch.proofs.Laws.{noted, Timed, timed_rest, timed_start, stepped}
use borrow.Author.Rules.{rules}
use Rattle.step_dispatch.proofs.steps.Goals as goal
use Rattle.step_dispatch.proofs.steps.Goals.{Joined-a-st, then-a-st, else-a-st}

-- the first timers are started, or are not due
abbrev TimedAt : Joined-a-st → Type 0
TimedAt c = Timed c.dispatch-a.result c.dispatch-a.new.st c.args.draws.now c.dispatch-a.new.out c.if-a-st.a c.if-a-st.st c.if-a-st.out

timed : (c : Joined-a-st) → TimedAt c
timed c =
    let fine = c.dispatch-a.ensures.fine in
    elim c.if-a-st.branch [ then-a-st w ↦ timed_start _ _ _ _ fine _ _ _ _ _ _ _ _ w.st-is w.out-is w.a-is w.if-a-st.true (search rules) (search rules) w.schedule_maintenance-a.ensures w.schedule_shuffle-a.ensures | else-a-st w ↦ timed_rest _ _ _ _ fine _ _ _ w.st-is w.out-is w.a-is w.if-a-st.false ]

pub dispatch-a-requires : goal.dispatch-a-requires
dispatch-a-requires c = c.requires

pub schedule_shuffle-a-requires : goal.schedule_shuffle-a-requires
schedule_shuffle-a-requires c = record {
  given = fine_after _ _ _ _ _ _ c.dispatch-a.ensures.fine (noted _ _ _ _ c.dispatch-a.ensures.fine (eqb-true _ _ (and_left _ _ c.if-a-st.true)));
}

pub shape_of-out : goal.shape_of-out
shape_of-out c = omega (arith, (timed (goal.at.shape_of-out c).Joined-a-st).room, c.dispatch-a.auto)

pub returns : goal.returns
returns c =
    stepped _ _ _ _ _ _ _ _ _ c.forget_declined.ensures (timed (goal.at.returns c).Joined-a-st).does c.dispatch-a.ensures
