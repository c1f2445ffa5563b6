-- The product at the longest interval and the largest draw bounds all others, so nothing overflows; the rest is the definition.
use Prim.Native.Nat.{ℕ, ◌+◌, ◌*◌, ◌≤◌, ◌<◌, ◌^◌}
use mathlib.Core.Path.{refl}
use native.Mathlib.Nat.{mul-le-mul}
use native.Mathlib.Omega.{arith}
use Rattle.base_timing.specs.Timing.{delay}
use Rattle.base_timing.proofs.delay.Goals as goal

-- the product at the longest interval and the largest draw bounds every other
product : (interval d : ℕ) → interval ≤ 3600000 → d < 2 ^ 32 → interval * (6442450944 + d) ≤ 38654705664000000
product interval d h w = let most : 6442450944 + d ≤ 10737418240 = omega arith in mul-le-mul h most

pub overflow_mul-scaled : goal.overflow_mul-scaled
overflow_mul-scaled c = let p = product c.args.interval c.args.d c.requires (omega arith) in record { fits = omega (arith, p) }

pub overflow_cast-result : goal.overflow_cast-result
overflow_cast-result c = let p = product c.args.interval c.args.d c.requires (omega arith) in record { fits = omega (arith, p) }

pub returns : goal.returns
unfolding delay
returns c = refl
