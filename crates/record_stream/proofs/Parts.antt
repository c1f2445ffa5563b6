-- The way that records go.
-- Assumes nothing.
use Prim.Native.Nat.{ℕ}
use mathlib.Core.Path.{◌≡◌, refl, sym, ap, ◌∙◌}
use mathlib.Core.List.{List, []}
use Rattle.std.specs.Prelude.{None}
use Rattle.record.specs.Format.{old_peer_length, peer_length}
use Rattle.record.specs.declared.Form.{Form}
use Rattle.record.specs.declared.Form.TheVariants.{Old, This}
use Rattle.record_convert.specs.declared.Progress.{Progress}
use Rattle.record_convert.specs.Walk.{progress_code, walked, converting, outcomes, outcomes_of}
use Rattle.record_stream.specs.Chunk.{walked_by, IsAnswered}

module _ (to : Form) (b o : List ℕ) (room : ℕ) (r : Progress) where
  pub went_back : to ≡ Old → outcomes_of r o ≡ outcomes (walked peer_length old_peer_length b room) room → outcomes_of r o ≡ outcomes (walked_by to b room) room
  unfolding walked_by
  went_back h e = e ∙ ap (λ (x : Form). outcomes (walked_by x b room) room) (sym h)

  pub went_on : to ≡ This → outcomes_of r o ≡ outcomes (walked old_peer_length peer_length b room) room → outcomes_of r o ≡ outcomes (walked_by to b room) room
  unfolding walked_by
  went_on h e = e ∙ ap (λ (x : Form). outcomes (walked_by x b room) room) (sym h)

  pub answered : outcomes_of r o ≡ outcomes (walked_by to b room) room → (progress_code r.refused ≡ (walked_by to b room).code) × (r.taken ≡ (walked_by to b room).taken)
  unfolding outcomes
  answered e = (λ i. (e i).code, λ i. (e i).taken)

-- no bytes are answered with no refusal
pub none_answered : (to : Form) → IsAnswered to None
unfolding walked_by walked converting
none_answered Old = record { bytes = []; room = 0; code = refl }
none_answered This = record { bytes = []; room = 0; code = refl }
