-- The delay of the lowest draw is three quarters of the interval, by arithmetic.
use Rattle.shuffle_times.proofs.Delays as D
use mathlib.Core.Path.{sym}
use Rattle.shuffle_times.proofs.least_delay.Goals as goal

pub returns : goal.returns
returns c = sym (D.least_delay _)
