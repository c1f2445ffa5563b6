-- By cases: no request is needed, or one is made, after a short station has its limit.
use native.Mathlib.Omega.{arith}
use Rattle.base_util.specs.Section.{part}
use Rattle.hyparview_state.proofs.Access.{of_active, count_active}
use Rattle.step_refill.proofs.Asking.{fine_after, none_needed, not_needed, needed}
use Rattle.step_refill.proofs.refill_active_from_passive.Goals as goal

pub overflow_add-st : goal.overflow_add-st
overflow_add-st c =
    let active = of_active _ c.requires.given.ready.packed in
    record { fits = omega (arith, count_active _ active, active.fits, active.counted, c.asked_outside.ensures.valid.fits) }

pub returns-then-st-t : goal.returns-then-st-t
unfolding part
returns-then-st-t c =
    not_needed _ _ _ _ _ _ c.requires.given (none_needed _ _ _ _ c.requires.given.ready.packed c.asked_outside.ensures c.limit_of.ensures c.is_spent.ensures) c.if-st-t.true

pub refill_limited-requires : goal.refill_limited-requires
refill_limited-requires c =
    let short = c.limit_short-a.ensures in record {
      given = fine_after _ _ _ _ _ _ c.requires.given short;
    }

pub returns : goal.returns
unfolding part
returns c =
    needed _ _ _ _ _ _ c.requires.given (none_needed _ _ _ _ c.requires.given.ready.packed c.asked_outside.ensures c.limit_of.ensures c.is_spent.ensures) _ _ _ _ _ c.if-st-t.false c.limit_short-a.ensures c.refill_limited.ensures
