-- `initial` meets its contract: the chaining value is spelled out, and the rest computes.
use borrow.Author.Rules.{rules}
use mathlib.Core.Path.{ap}
use mathlib.Core.List.{List, [], ◌∷◌, ◌++◌}
use Prim.Native.Nat.{ℕ}
use lib.ListN.{take}
use Rattle.blake3.specs.Blake3.{iv, initial}
use Rattle.base_lists.proofs.Array.{spell, spelled}
use Rattle.blake3.proofs.initial.Goals as goal

pub returns : goal.returns
unfolding initial iv spell
returns c = ap (λ (l : List ℕ). l ++ (take 4 iv ++ (0 ∷ 0 ∷ c.args.len ∷ c.args.flags ∷ []))) (spelled 0 8 c.args.cv (search rules))
