-- `last_block` meets its contract: the bytes that are left, filled up, are the last block.
use Prim.Native.Nat.{ℕ, ◌+◌, ◌≤◌}
use mathlib.Core.Path.{◌≡◌, sym, ap, ◌∙◌}
use mathlib.Core.List.{List}
use lib.ListN.{length}
use Rattle.base_lists.specs.Array.{pad}
use Rattle.blake3.specs.Blake3.{chunk_end, root, block_length, message_words, block_words, compress, chunk}
use Rattle.blake3.proofs.Laws.{chunk_last}
use Rattle.blake3.proofs.last_block.Goals as goal

compressed : (cv l b m r : List ℕ) (start : ℕ) → length l ≤ block_length → r ≡ compress cv m (length l) (start + chunk_end + root) → m ≡ message_words b 0 → b ≡ pad 0 block_length l → r ≡ chunk cv start l
unfolding block_words
compressed cv l b m r start h p q e =
    p ∙ ap (λ (t : List ℕ). compress cv t (length l) (start + chunk_end + root)) (q ∙ ap (λ (t : List ℕ). message_words t 0) e) ∙ sym (chunk_last cv start l h)

pub returns : goal.returns
returns c = search compressed
