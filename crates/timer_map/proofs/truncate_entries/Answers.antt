-- Zeroes behind the first n rows and the count n pack the first n entries, by `truncate_law`.
use Rattle.timer_map.proofs.Pack.{truncate_law}
use Rattle.timer_map.proofs.truncate_entries.Goals as goal

pub returns : goal.returns
returns c = truncate_law _ _ _ c.requires.sound_queue c.requires.n_bound c.clear_rows.ensures
