-- By cases on the kind: a timer's record is put in by the contracts called, any other leaves the queue as it was.
use borrow.Author.Rules.{rules}
use Rattle.timer_events.proofs.Inserting.{put_timer, put_none, put_other}
use Rattle.timer_events.proofs.insert_record.Goals as goal

pub returns-in_default : goal.returns-in_default
returns-in_default c = put_none _ _ _ _ c.requires.sound_queue c.requires.h_value c.in_default.ensures (search rules)

pub returns-then-h : goal.returns-then-h
returns-then-h c = put_timer _ _ _ _ c.requires.sound_queue c.requires.h_value _ _ c.insert_ok.ensures c.in-Some.ensures (search rules)

pub returns : goal.returns
returns c = search put_other
