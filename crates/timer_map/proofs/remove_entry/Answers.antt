-- Rows moved down, the last cleared and a smaller count pack the entries without the i-th, by `remove_law`.
use Rattle.timer_map.proofs.Pack.{remove_law}
use Rattle.timer_map.proofs.remove_entry.Goals as goal

pub returns : goal.returns
returns c = remove_law _ _ _ _ c.requires.sound_queue c.requires.i_bound c.copy_within.ensures.after (c.fill.ensures.after (λ _ e. e))
