-- `quad_at` meets its contract: its four words are the definition's.
use Rattle.blake3.proofs.quad_at.Goals as goal

pub returns : goal.returns
returns c =
    λ i. record { a = c.message_word.ensures i; b = c.message_word-2.ensures i; c = c.message_word-3.ensures i; d = c.message_word-4.ensures i }
