-- `rounds` meets its contract: a turn takes one round off those to come.
use Prim.Native.Nat.{ℕ, suc, ◌+◌, ◌-◌, ◌≤◌, ◌<◌}
use mathlib.Core.Path.{◌≡◌, sym, ap, ◌∙◌}
use mathlib.Core.List.{List}
use native.Mathlib.Omega.{arith}
use Rattle.blake3.specs.Blake3.{round, permute, rounds}
use Rattle.blake3.proofs.rounds.Goals as goal

module _ (v₀ m₀ v m : List ℕ) (i : ℕ) (same : rounds 7 m₀ v₀ ≡ rounds (7 - i) m v) where
  next : (w n : List ℕ) → i < 7 → n ≡ permute m → w ≡ round m v → rounds 7 m₀ v₀ ≡ rounds (7 - (i + 1)) n w
  unfolding rounds
  next w n l en ew =
      let e : 7 - i ≡ suc (7 - (i + 1)) = omega arith in
      same ∙ ap (λ (k : ℕ). rounds k m v) e ∙ (λ j. rounds (7 - (i + 1)) (sym en j) (sym ew j))

  end : 7 ≤ i → v ≡ rounds 7 m₀ v₀
  unfolding rounds
  end l = let e : 7 - i ≡ 0 = omega arith in sym (same ∙ ap (λ (k : ℕ). rounds k m v) e)

pub loop-turn-preserved : goal.loop-turn-preserved
loop-turn-preserved c = search next

pub returns : goal.returns
returns c = search end
