-- An event that the reader took.
-- Assumes nothing.
use Rattle.std.specs.Prelude.{ℕ, ◌≤◌, ◌≡◌, true, List}
use Rattle.record.specs.declared.Header.{Header}
use Rattle.record.specs.Kinds.{is_event_kind}
use Rattle.record.specs.Format.{most_nodes}
use Rattle.record.specs.Read.{rec_of, event, read_event}
use Rattle.step_dispatch.specs.Begun.{Headed}

-- the reader takes b as an event, with the header h
pub record ReadAs (b : List ℕ) (h : Header) : Type 0 where
  pub headed : Headed b h
  pub known : is_event_kind h.kind ≡ true
  pub few : h.nodes ≤ most_nodes
  pub reads : event (rec_of b) ≡ read_event b
