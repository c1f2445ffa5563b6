-- `inner_block` meets its contract: the words of the block are those of its bytes, as it is whole.
use Prim.Native.Nat.{ℕ}
use mathlib.Core.Path.{◌≡◌, sym, ap, ◌∙◌}
use mathlib.Core.List.{List}
use Rattle.blake3.specs.Blake3.{block_length, message_words, block_words, compress}
use Rattle.blake3.proofs.Laws.{block_at}
use Rattle.blake3.proofs.inner_block.Goals as goal

compressed : (cv l m r : List ℕ) (start : ℕ) → r ≡ compress cv m block_length start → m ≡ message_words l 0 → r ≡ compress cv (block_words l) block_length start
compressed cv l m r start p q = p ∙ ap (λ (t : List ℕ). compress cv t block_length start) (q ∙ sym (block_at l))

pub returns : goal.returns
returns c = search compressed
