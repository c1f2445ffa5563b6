-- `compress` meets its contract: the three calls are the three steps of the definition.
use mathlib.Core.Path.{ap, ◌∙◌}
use mathlib.Core.List.{List}
use Prim.Native.Nat.{ℕ}
use Rattle.blake3.specs.Blake3.{rounds, truncated, compress}
use Rattle.blake3.proofs.compress.Goals as goal

pub returns : goal.returns
unfolding compress
returns c =
    c.truncated.ensures
    ∙ ap (λ (v : List ℕ). truncated v) (c.rounds.ensures ∙ ap (rounds 7 c.args.m) c.initial.ensures)
