-- By cases on what `find_due` found: its place is below the count, so that entry is removed; otherwise nothing changes.
use Rattle.timer_map.proofs.Ways.{place_below, pop_taken, pop_none}
use Rattle.timer_map.proofs.pop_ok.Goals as goal

pub returns-in_default : goal.returns-in_default
returns-in_default c = search pop_none

pub remove_entry-requires-clause-i_bound : goal.remove_entry-requires-clause-i_bound
remove_entry-requires-clause-i_bound c = search place_below

pub returns : goal.returns
returns c = search pop_taken
