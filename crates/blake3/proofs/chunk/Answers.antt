-- `chunk` meets its contract: a turn takes one block off those to come. The measure is the bytes that are left.
use Prim.Native.Nat.{ℕ, ◌<◌}
use mathlib.Core.Path.{◌≡◌, refl, sym, ap, ◌∙◌}
use mathlib.Core.List.{List}
use native.Mathlib.Omega.{arith}
use lib.ListN.{length, take, drop}
use Rattle.blake3.specs.Blake3.{iv, chunk_start, block_length, compress, block_words, chunk}
use Rattle.blake3.proofs.Laws.{block_front, chunk_more}
use Rattle.blake3.proofs.chunk.Invariants.{Inv}
use Rattle.blake3.proofs.chunk.Goals as goal

start_of : (body : List ℕ) → Inv body iv chunk_start body
start_of body = record { flag = omega arith; same = refl }

next : (body cv : List ℕ) (start : ℕ) (rest block after r : List ℕ) → Inv body cv start rest → block_length < length rest
    → block ≡ take block_length rest → after ≡ drop block_length rest → r ≡ compress cv (block_words block) block_length start → Inv body r 0 after
next body cv start rest block after r inv h eb ea e =
    let same : r ≡ compress cv (block_words rest) block_length start = e ∙ ap (λ (ws : List ℕ). compress cv ws block_length start) (ap block_words eb ∙ block_front rest) in
    record { flag = omega arith; same = inv.same ∙ chunk_more cv start rest h ∙ (λ j. chunk (sym same j) 0 (sym ea j)) }

pub loop-rest-init : goal.loop-rest-init
unfolding iv
loop-rest-init c = start_of _

pub loop-rest-preserved : goal.loop-rest-preserved
loop-rest-preserved c = search next
