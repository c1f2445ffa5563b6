-- The delay of the highest draw is five quarters of the interval, rounded up, less one, by arithmetic within the interval's range.
use Rattle.shuffle_times.proofs.Delays as D
use mathlib.Core.Path.{sym}
use native.Mathlib.Omega.{arith}
use Rattle.shuffle_times.proofs.most_delay.Goals as goal

pub returns : goal.returns
returns c = sym (D.most_delay _ (record { least = omega arith; most = omega arith }))
