-- `read_quarters` meets its contract: four numbers in a row.
use mathlib.Core.List.{[], ◌∷◌}
use Rattle.blake3.specs.Blake3.{quarters}
use Rattle.blake3.proofs.read_quarters.Goals as goal

pub returns : goal.returns
unfolding quarters
returns c =
    λ k. c.read_number.ensures.0 k ∷ c.read_number-2.ensures.0 k ∷ c.read_number-3.ensures.0 k ∷ c.read_number-4.ensures.0 k ∷ []
