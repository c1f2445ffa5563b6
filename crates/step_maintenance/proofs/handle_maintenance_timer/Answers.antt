-- The measure is what is left.
use mathlib.Core.Path.{refl}
use Rattle.base_util.specs.Section.{part}
use Rattle.spec_hyparview.specs.Run.{on}
use Rattle.spec_hyparview.specs.Timers.{remember_all, maintain, handle_maintenance_timer, schedule_maintenance}
use Rattle.hyparview_state.specs.Work.{work_of, Changes}
use Rattle.hyparview_state.proofs.Access.{of_packed}
use Rattle.hyparview_state.proofs.Bridge.{on_passed, still, then, seq}
use Rattle.hyparview_state.proofs.Any.{then_tell_any}
use Rattle.step_maintenance.proofs.Counted.{renew_start, renew_packed, renew_below, renew_next, renew_end}
use Rattle.step_maintenance.proofs.Passes.{words_as}
use borrow.Author.Rules.{rules}
use Rattle.step_maintenance.proofs.handle_maintenance_timer.Goals as goal
use Rattle.step_maintenance.proofs.handle_maintenance_timer.Goals.{Joined-w-eq0, then-w-eq0+else-loop-i-test, else-w-eq0}

-- The neighbors are remembered, where the run goes on.
remembered : (c : Joined-w-eq0) → Changes (on remember_all) (work_of c.args.w c.args.st.now) (work_of c.args.w c.if-w-eq0.st)
remembered c =
    elim c.if-w-eq0.branch [ then-w-eq0+else-loop-i-test s ↦ words_as _ _ _ _ _ s.st-is (renew_end _ _ _ _ _ s.loop-i.invariant c.args.w refl s.loop-i-test.false) | else-w-eq0 s ↦ words_as _ _ _ _ _ s.st-is (on_passed _ c.requires.given.ready.packed _ s.if-w-eq0.false) ]

pub count-n-requires : goal.count-n-requires
unfolding part
count-n-requires c = search (of_packed, rules)

pub loop-i-init : goal.loop-i-init
unfolding part
loop-i-init c = search (renew_start, rules)

pub get_index-p-requires-clause-valid_set : goal.get_index-p-requires-clause-valid_set
unfolding part
get_index-p-requires-clause-valid_set c = search (of_packed, renew_packed, rules)

pub get_index-p-requires-clause-i_in_bounds : goal.get_index-p-requires-clause-i_in_bounds
unfolding part
get_index-p-requires-clause-i_in_bounds c = search renew_below

pub renew-requires-clause-valid_set : goal.renew-requires-clause-valid_set
unfolding part
renew-requires-clause-valid_set c = search (of_packed, renew_packed, rules)

pub loop-i-preserved : goal.loop-i-preserved
unfolding part
loop-i-preserved c = search renew_next

pub returns : goal.returns
unfolding handle_maintenance_timer schedule_maintenance
returns c =
    then_tell_any _ c.schedule_maintenance.ensures (seq maintain c.maintain-a.ensures (then (remembered (goal.at.returns c).Joined-w-eq0) (still c.requires.given)))
