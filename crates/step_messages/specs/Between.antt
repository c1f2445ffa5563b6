-- What a message counts on where it may change the active view: the definition's own invariant between events.
-- Assumes nothing.
use Rattle.std.specs.Prelude.{ℕ, ◌+◌}
use Rattle.spec_hyparview.specs.Run.{Run}
use Rattle.spec_hyparview.specs.Invariant.{Fixed, calm, Ok}

-- what holds between events, and m messages, b bytes and d draws may be spent
pub record Between (m b d : ℕ) (g : Run) : Type 0 where
  pub fixed : Fixed
  pub messages : ℕ
  pub bytes : ℕ
  pub draws : ℕ
  pub ok : Ok fixed calm (messages + m) (bytes + b) (draws + d) g
