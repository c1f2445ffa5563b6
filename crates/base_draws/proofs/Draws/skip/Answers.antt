-- The lesser of the place n further on and the end is the definition's choice.
use Prim.Native.Nat.{ℕ, ◌+◌, ◌-◌, ◌^◌, ◌<◌, min}
use mathlib.Core.Path.{◌≡◌, ap}
use mathlib.Core.List.{List}
use native.Mathlib.Omega.{arith}
use lib.ListN.{length}
use lib.Dec.{ltb}
use borrow.Author.Tests.{ltb-true, ltb-false}
use borrow.Author.Rules.{rules}
use Rattle.base_lists.proofs.Choice.{by_choice}
use Rattle.base_draws.specs.Place.{past}
use Rattle.base_draws.specs.declared.Draws.{Draws}
use Rattle.base_draws.proofs.Draws.skip.Goals as goal

-- a sum that stops at what a word holds, which no length reaches
least : (l : List ℕ) (at n far m : ℕ) → far ≡ min (at + n) (2 ^ 64 - 1) → length l < 2 ^ 64 → m ≡ min far (length l) → m ≡ past l at n
unfolding past
least l at n far m e h q =
    by_choice (λ (k : ℕ). m ≡ k) (ltb (at + n) (length l)) (λ t. omega (arith, ltb-true (at + n) (length l) t)) (λ t. omega (arith, ltb-false (at + n) (length l) t))

pub returns : goal.returns
returns c =
    ap (λ (k : ℕ). let d : Draws = record { list = c.args.self.list; at = k } in d) (least c.args.self.list.now c.args.self.at c.args.n c.saturating_add.result c.min.result c.saturating_add.ensures (search rules) c.min.ensures)
