-- By cases: no timer, refused, or put in; where nothing is refused, there is a free row.
use Rattle.std.proofs.lemmas.Result.{err_from_is_err_and}
use Rattle.timer_map.proofs.Ways.{put_refused, put_done, put_malformed, room_left}
use Rattle.timer_map.proofs.insert_ok.Goals as goal

pub returns-then-not-timer_ok : goal.returns-then-not-timer_ok
returns-then-not-timer_ok c = search put_malformed

pub returns-in_err-due : goal.returns-in_err-due
returns-in_err-due c =
    let p = err_from_is_err_and c.from_residual.result c.from_residual.ensures.1 in
    rw (p.1, p.2) (put_refused _ _ _ _ _ c.requires c.timer_ok.ensures c.if-not-timer_ok.false _ c.in_err-due.ensures.code)

pub push_entry-requires-clause-q_bound : goal.push_entry-requires-clause-q_bound
push_entry-requires-clause-q_bound c = room_left _ _ _ c.in_ok-due.ensures.code

pub returns : goal.returns
returns c = put_done _ _ _ _ _ c.requires c.timer_ok.ensures _ _ c.if-not-timer_ok.false c.in_ok-due.ensures.code c.in_ok-due.ensures.due c.push_entry.ensures
