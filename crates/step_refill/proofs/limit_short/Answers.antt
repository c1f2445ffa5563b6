-- By cases: work with a code, a station that is alone or not short, another limit, and the few requests.
use Rattle.hyparview_state.proofs.Bridge.{on_passed}
use Rattle.step_refill.proofs.Limits.{not_short, other_limit, limited}
use Rattle.step_refill.proofs.limit_short.Goals as goal

pub returns-then-w-ne0 : goal.returns-then-w-ne0
returns-then-w-ne0 c = search on_passed

pub returns-then-is_alone-is_short : goal.returns-then-is_alone-is_short
returns-then-is_alone-is_short c = not_short _ _ c.requires.packed_state _ _ c.is_alone.ensures c.is_short.ensures c.if-is_alone-is_short.true

pub returns-in-Automatic : goal.returns-in-Automatic
returns-in-Automatic c =
    limited _ _ c.requires.packed_state _ _ c.is_alone.ensures c.is_short.ensures _ c.limit_of.ensures _ _ c.if-w-ne0.false c.if-is_alone-is_short.false c.in-Automatic.is c.few_requests.ensures c.keep_limit.ensures

pub returns-in_default : goal.returns-in_default
returns-in_default c =
    other_limit _ _ c.requires.packed_state _ _ c.is_alone.ensures c.is_short.ensures _ c.limit_of.ensures c.in_default.not-Automatic
