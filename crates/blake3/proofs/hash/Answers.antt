-- `hash` meets its contract: the words of the chunk, in pairs.
use Prim.Native.Nat.{ℕ}
use mathlib.Core.Path.{ap, ◌∙◌}
use mathlib.Core.List.{List}
use Rattle.blake3.specs.Blake3.{bytes_of_words, hash, quarters}
use Rattle.blake3.proofs.hash.Goals as goal

pub returns : goal.returns
unfolding hash
returns c = c.quarters.ensures ∙ ap (λ (h : List ℕ). quarters (bytes_of_words h)) c.chunk.ensures
