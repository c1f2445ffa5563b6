-- The nodes are learned; then by cases nobody is asked, the spent limit begins anew, or the refill goes on with the limit it has.
use Rattle.step_shuffling.proofs.Laws.{stops_known, renews_known, refilled_few, refilled_same, reply_stopped, reply_refilled, reply_taken}
use Rattle.step_shuffling.proofs.on_shuffle_reply.Goals as goal

pub returns-then-requested-is_short : goal.returns-then-requested-is_short
returns-then-requested-is_short c =
    let stops = stops_known _ _ _ _ c.is_requested-requested.ensures c.is_short.ensures in
    reply_taken _ _ _ _ _ _ _ _ _ _ _ _ _ c.add_nodes-t.ensures.fresh_value (reply_stopped _ _ _ _ _ _ _ stops c.add_nodes-t.ensures.makes.fine c.if-requested-is_short.true) c.add_nodes-t.ensures.makes

pub returns-then-requested-t : goal.returns-then-requested-t
returns-then-requested-t c =
    let requested = c.is_requested-requested.ensures in
    let stops = stops_known _ _ _ _ requested c.is_short.ensures in
    let refilled = refilled_few _ _ _ _ _ _ _ _ _ c.if-requested-t.true c.few_requests-few.ensures c.start_refill.ensures in
    reply_taken _ _ _ _ _ _ _ _ _ _ _ _ _ c.add_nodes-t.ensures.fresh_value (reply_refilled _ _ _ _ _ _ _ stops _ _ _ _ c.if-requested-is_short.false (renews_known _ _ _ _ _ _ requested c.limit_of.ensures c.is_spent.ensures) refilled) c.add_nodes-t.ensures.makes

pub returns : goal.returns
returns c =
    let requested = c.is_requested-requested.ensures in
    let stops = stops_known _ _ _ _ requested c.is_short.ensures in
    let refilled = refilled_same _ _ _ _ _ _ _ _ c.if-requested-t.false c.refill_active_from_passive.ensures in
    reply_taken _ _ _ _ _ _ _ _ _ _ _ _ _ c.add_nodes-t.ensures.fresh_value (reply_refilled _ _ _ _ _ _ _ stops _ _ _ _ c.if-requested-is_short.false (renews_known _ _ _ _ _ _ requested c.limit_of.ensures c.is_spent.ensures) refilled) c.add_nodes-t.ensures.makes
