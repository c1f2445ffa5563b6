-- While i climbs, `ok` says whether the first i items rise.
use Prim.Native.Nat.{ℕ, ◌+◌, ◌-◌, ◌≤◌, ◌<◌}
use mathlib.Core.Path.{◌≡◌, subst}
use mathlib.Core.Bool.{Bool, ◌&&◌}
use mathlib.Core.List.{List}
use native.Mathlib.Omega.{arith}
use lib.ListN.{length, take, get_or}
use lib.Seq.{get_or-take, length-take-le}
use lib.Dec.{ltb}
use Rattle.base_lists.specs.Lists.{rising}
use Rattle.base_scan.proofs.Loops.{Climb, climb_start, climb_next, climb_end}
use borrow.Author.Rules.{rules}
use Rattle.base_util.proofs.rises.Goals as goal

module _ (n : ℕ) (s : List ℕ) (ok : Bool) (i : ℕ) (v : Climb (take n s) ok i) (l : n ≤ length s) where
  next : i < n → Climb (take n s) (ok && ltb (get_or s (i - 1) 0) (get_or s i 0)) (i + 1)
  next h =
      let a : get_or (take n s) (i - 1) 0 ≡ get_or s (i - 1) 0 = get_or-take n s (i - 1) 0 (omega arith) in
      let b : get_or (take n s) i 0 ≡ get_or s i 0 = get_or-take n s i 0 h in
      subst (λ (t : Bool). Climb (take n s) (ok && t) (i + 1)) (λ j. ltb (a j) (b j)) (climb_next (take n s) ok i v (omega (arith, length-take-le n s l)))

  end : n ≤ i → ok ≡ rising (take n s)
  end h = climb_end (take n s) ok i v (omega (arith, length-take-le n s l))

pub loop-i-init : goal.loop-i-init
loop-i-init c = (search rules, search climb_start)

pub loop-i-preserved : goal.loop-i-preserved
loop-i-preserved c = (search rules, search next)

pub returns : goal.returns
returns c = search end
