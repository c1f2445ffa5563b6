-- By cases: with no candidate a recovery may end; else one drawn is asked, and one request of the limit is used.
use borrow.Author.Tests.{eq-eqb, ne_eqb}
use mathlib.Core.Path.{sym}
use native.Mathlib.Omega.{arith}
use Rattle.base_util.proofs.Sets.{empty_is_null, item_read}
use Rattle.step_refill.proofs.Asking.{one_picked, none_left, one_asked}
use Rattle.step_refill.proofs.refill_limited.Goals as goal

pub returns-then-n-eq0 : goal.returns-then-n-eq0
returns-then-n-eq0 c =
    let from = c.candidates.ensures in
    none_left _ _ _ _ _ _ _ from (empty_is_null 32 _ from.valid) _ _ c.requires.given (eq-eqb _ _ c.if-n-eq0.true) c.end_recovery.ensures

pub use_request-requires : goal.use_request-requires
use_request-requires c =
    let packed = c.send_neighbor-a.ensures.room.packed in record {
      packed_state = packed;
    }

pub returns : goal.returns
returns c =
    let from = c.candidates.ensures in
    let picked = one_picked _ _ _ _ _ _ _ _ _ _ _ _ _ _ _ c.requires.given c.is_alone-high.ensures (sym from.valid.counted) c.draw_one_of-t.ensures.index_value.0
    (item_read _ _ _ from.valid (omega (arith, c.draw_one_of-t.ensures.index_value.1, from.valid.counted))) c.use_request.ensures c.send_neighbor-a.ensures c.draw_one_of-t.ensures.draws_any in
    one_asked _ _ _ _ _ _ _ from (empty_is_null 32 _ from.valid) _ _ _ (ne_eqb _ _ c.if-n-eq0.false) picked
