-- By cases: none due, no room for the event, or written and removed; a sound queue's entries pass the test that `fields` needs.
use Rattle.timer_map.proofs.Ways.{place_below}
use Rattle.timer_events.proofs.Taking.{entry_ok, took_none, took_full, took_event}
use Rattle.timer_events.proofs.pop_event_ok.Goals as goal

pub returns-in_default : goal.returns-in_default
returns-in_default c = search took_none

pub fields-requires : goal.fields-requires
fields-requires c = search entry_ok

pub remove_entry-requires-clause-i_bound : goal.remove_entry-requires-clause-i_bound
remove_entry-requires-clause-i_bound c = search place_below

pub returns-then-is_none : goal.returns-then-is_none
returns-then-is_none c = search took_full

pub returns : goal.returns
returns c = search took_event
