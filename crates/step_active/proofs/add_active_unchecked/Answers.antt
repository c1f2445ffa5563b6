-- Work that stopped at the notice adds nothing more; else entry, limit and count become one change, after which the reply is told.
use Rattle.step_active.proofs.Entering.{gained, not_added, entered, added_unchecked}
use borrow.Author.Rules.{rules}
use Rattle.step_active.proofs.add_active_unchecked.Goals as goal

pub returns-then-b-ne0 : goal.returns-then-b-ne0
returns-then-b-ne0 c = search not_added

pub reply_neighbor-requires : goal.reply_neighbor-requires
reply_neighbor-requires c =
    let gain = gained _ _ _ _ _ c.keep_limit.ensures c.unless_recovery-limit.ensures (search rules) c.limit_of-old.ensures in
    let enter = entered _ _ _ _ _ _ _ _ c.requires.given_room c.notify-b.ensures c.move_in-a.ensures _ c.if-b-ne0.false gain in record {
      given_room = enter.room;
    }

pub returns : goal.returns
returns c =
    let gain = gained _ _ _ _ _ c.keep_limit.ensures c.unless_recovery-limit.ensures (search rules) c.limit_of-old.ensures in
    let enter = entered _ _ _ _ _ _ _ _ c.requires.given_room c.notify-b.ensures c.move_in-a.ensures _ c.if-b-ne0.false gain in
    added_unchecked _ _ _ _ _ _ _ _ _ _ _ _ c.reply_neighbor.ensures enter
