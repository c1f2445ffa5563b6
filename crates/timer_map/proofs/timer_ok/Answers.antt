-- The comparisons are the definition's, in its order.
use mathlib.Core.Path.{refl}
use Rattle.timer_map.specs.Entries.{timer_ok}
use Rattle.timer_map.proofs.timer_ok.Goals as goal

pub returns : goal.returns
unfolding timer_ok
returns c = let h = c.default.ensures in rw (c.eq-no_id.ensures, h.0, h.1.0, h.1.1.0, h.1.1.1) refl
