-- Work with a code schedules nothing; else an interval in range doubles without overflow, and one draw gives the delay.
use native.Mathlib.Omega.{arith}
use Rattle.hyparview_state.proofs.Access.{of_interval}
use Rattle.step_timers.proofs.Shuffles.{setting_fits, doubled, not_scheduled, scheduled}
use Rattle.step_timers.proofs.schedule_shuffle.Goals as goal

pub returns-then-w-ne0 : goal.returns-then-w-ne0
returns-then-w-ne0 c = not_scheduled _ _ _ _ c.requires.given c.if-w-ne0.true

pub overflow_cast-x : goal.overflow_cast-x
overflow_cast-x c = record { fits = omega (arith, of_interval _ c.requires.given.ready.packed) }

pub overflow_mul-x : goal.overflow_mul-x
overflow_mul-x c = record { fits = omega (arith, of_interval _ c.requires.given.ready.packed) }

pub overflow_cast-st : goal.overflow_cast-st
overflow_cast-st c = record { fits = omega (arith, setting_fits _ c.requires.given.ready.packed) }

pub delay-delay-requires : goal.delay-delay-requires
delay-delay-requires c = of_interval _ c.requires.given.ready.packed

pub returns : goal.returns
returns c =
    let given = c.requires.given in
    scheduled _ _ _ _ _ _ _ _ _ _ _ given c.delay-delay.ensures c.draw-d.ensures.value_value c.schedule.ensures c.draw-d.ensures.draws_any (doubled _ _ _ given.ready.packed c.if-w-ne0.false c.shorter-next.ensures)
