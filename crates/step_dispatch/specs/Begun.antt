-- What the steps of one event start from.
-- Assumes nothing.
use Rattle.std.specs.Prelude.{ℕ, ◌≡◌, true, List}
use Rattle.record.specs.Kinds.{Message, Quit, kind_byte}
use Rattle.record.specs.declared.Header.{Header}
use Rattle.record.specs.Read.{well_formed, header_of}
use Rattle.spec_hyparview.specs.Budgets.{arriving}
use Rattle.spec_hyparview.specs.Run.{Run}
use Rattle.step_messages.specs.Between.{Between}

-- b is a record, and h its header
pub record Headed (b : List ℕ) (h : Header) : Type 0 where
  pub formed : well_formed b ≡ true
  pub head : h ≡ header_of b

-- h is a message's
abbrev pub IsMessage : Header → Type 0
IsMessage h = h.kind ≡ kind_byte Message

-- an event of kind k starts at g: between events, with the bytes of an arrival and the 40 draws that a Join or a Neighbor may spend before its own records;
-- but for a Quit, which counts on nothing
pub record Opens (k : ℕ) (g : Run) : Type 0 where
  pub between : (k ≡ kind_byte Quit → ⊥) → Between 0 arriving 40 g
