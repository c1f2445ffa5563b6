-- What is filled in stands behind the words that stay, by `cleared`.
use Rattle.timer_map.proofs.Pack.{cleared}
use Rattle.timer_map.proofs.clear_rows.Goals as goal

pub returns : goal.returns
returns c = cleared _ _ _ c.requires (c.fill.ensures.after (λ _ e. e))
