-- What the place says of the draws that are left.
-- Assumes nothing.
use Prim.Native.Nat.{ℕ, ◌+◌}
use mathlib.Core.Path.{◌≡◌, sym, ◌∙◌}
use mathlib.Core.List.{List}
use lib.ListN.{length, drop, drop_of_length-le}
use lib.Seq.{drop-drop, drop-length}
use lib.Dec.{ltb}
use borrow.Author.Tests.{ltb-false}
use Rattle.base_lists.proofs.Choice.{by_choice}
use Rattle.base_draws.specs.Place.{past}

module _ (l : List ℕ) (at n : ℕ) where
  -- "Draws go on where the last accepted event stopped": after n draws, what is left is what was left without its first n
  pub past_rest : drop (past l at n) l ≡ drop n (drop at l)
  unfolding past
  past_rest =
      by_choice (λ (k : ℕ). drop k l ≡ drop n (drop at l)) (ltb (at + n) (length l)) (λ h. sym (drop-drop n at l))
      (λ h. drop-length l ∙ sym (drop-drop n at l ∙ drop_of_length-le l (ltb-false (at + n) (length l) h)))
