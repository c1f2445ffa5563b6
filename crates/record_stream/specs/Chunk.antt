-- How much of the input is held at once, and what becomes of it.
-- Assumes nothing.
use Rattle.std.specs.Prelude.{ℕ, ◌≡◌, List, Option, length}
use Rattle.base_lists.specs.Lent.{Lent, Seen}
use Rattle.record.specs.Format.{old_peer_length, peer_length}
use Rattle.record.specs.declared.Form.{Form}
use Rattle.record.specs.declared.Form.TheVariants.{Old, This}
use Rattle.record.specs.declared.Refusal.{Refusal}
use Rattle.record_convert.specs.declared.Progress.{Progress}
use Rattle.record_convert.specs.Walk.{Walked, walked, progress_code}

-- the most bytes that are held at once
abbrev pub chunk_bytes : ℕ
chunk_bytes = 65536

-- the records of b in the form they go to, from the other one
unfoldable pub walked_by : Form → List ℕ → ℕ → Walked
walked_by Old b room = walked peer_length old_peer_length b room
walked_by This b room = walked old_peer_length peer_length b room

-- the same of lent bytes, as a contract says it of the parameters
abbrev pub walked_in : Form → Seen → Lent → Walked
walked_in to b out = walked_by to b.entry.now (length out.entry.now)

-- the refusal and the place of p are those that the definition gives the lent bytes
abbrev pub AnswersBytes : Form → Seen → Lent → Progress → Type 0
AnswersBytes to b out p = (progress_code p.refused ≡ (walked_in to b out).code) × (p.taken ≡ (walked_in to b out).taken)

-- r is the answer to some bytes: the refusal that the definition gives them, or none
pub record IsAnswered (to : Form) (r : Option Refusal) : Type 0 where
  pub bytes : List ℕ
  pub room : ℕ
  pub code : progress_code r ≡ (walked_by to bytes room).code
