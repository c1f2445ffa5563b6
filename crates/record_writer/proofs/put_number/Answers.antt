-- What remains: the bytes of `rest` from place i on.
use Prim.Native.Nat.{ℕ, suc, ◌+◌, ◌/◌, ◌%◌, ◌<◌}
use mathlib.Core.Path.{◌≡◌}
use mathlib.Core.List.{List}
use native.Mathlib.Numerals.{add-one}
use native.Mathlib.Omega.{arith}
use borrow.Author.Rules.{rules}
use lib.ListN.{set}
use Rattle.base_lists.specs.Bytes.{le, overwrite}
use Rattle.record_writer.proofs.put_number.Invariants.{Inv}
use Rattle.record_writer.proofs.put_number.Goals as goal

start : (out : List ℕ) (at x k : ℕ) → Inv out at x k out x at
start out at x k = record { same = λ left e. let q : left ≡ k = omega arith in rw q }

module _ (out₀ : List ℕ) (at x k : ℕ) (out : List ℕ) (rest i : ℕ) (v : Inv out₀ at x k out rest i) where
  next : i < at + k → Inv out₀ at x k (set out i (rest % 256)) (rest / 256) (i + 1)
  unfolding overwrite le
  next h = record { same = λ left e. rw (add-one i) (v.same (suc left) (omega (arith, e))) }

  end : i ≡ at + k → out ≡ overwrite out₀ at (le k x)
  unfolding overwrite le
  end h = v.same 0 (omega (arith, h))

pub loop-i-init : goal.loop-i-init
loop-i-init c = start _ _ _ _

pub loop-i-preserved : goal.loop-i-preserved
loop-i-preserved c = next _ _ _ _ _ _ _ c.loop-i.invariant c.loop-i-test.true

pub returns : goal.returns
returns c = end _ _ _ _ _ _ _ c.loop-i.invariant (search rules)
