-- A row stored behind the last and a greater count pack the entries with one more at the end, by `push_law`.
use mathlib.Core.Path.{◌∙◌}
use Rattle.timer_map.proofs.Pack.{push_law}
use Rattle.timer_map.proofs.push_entry.Goals as goal

pub returns : goal.returns
returns c = push_law _ _ _ c.requires.sound_queue c.requires.q_bound (c.copy_from_slice.ensures.after ∙ c.from-row.ensures)
