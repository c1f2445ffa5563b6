-- What a step counts on before it adds to the active view or to the marks: a free place, or the definition's own invariant, from which one follows.
-- Assumes nothing.
use Rattle.std.specs.Prelude.{ℕ, ◌+◌, ◌≤◌, ◌<◌, ◌≡◌, List, [], ◌∷◌, length}
use Rattle.base_lists.specs.Lists.{insert}
use Rattle.spec_hyparview.specs.Station.{Station}
use Rattle.spec_hyparview.specs.Run.{Run}
use Rattle.spec_hyparview.specs.Active.{Reason, connection_closed, disconnect_received}
use Rattle.spec_hyparview.specs.Invariant.{Fixed, busy, Ok}
use Rattle.hyparview_state.specs.Layout.{alive_places}
use Rattle.step_active.specs.declared.Loss.{Loss}
use Rattle.step_active.specs.declared.Loss.TheVariants.{ConnectionClosed, DisconnectReceived}

-- the reason that a loss is
unfoldable pub reason_in : Loss → Reason
reason_in ConnectionClosed = connection_closed
reason_in (DisconnectReceived alive) = disconnect_received alive

-- unless a code is set, the active view has a free place
pub record FreeActive (code : ℕ) (s : Station) : Type 0 where
  pub free : code ≡ 0 → length s.active < s.config.active_view_capacity

-- unless a code is set, there is a place for the mark of p
pub record FreeMark (p code : ℕ) (s : Station) : Type 0 where
  pub free : code ≡ 0 → length (insert p s.alive) ≤ alive_places

-- nothing is half done, and m messages, b bytes and d draws may be spent
pub record Calm (m b d : ℕ) (g : Run) : Type 0 where
  pub fixed : Fixed
  pub guest : List ℕ
  pub barred : List ℕ
  pub messages : ℕ
  pub bytes : ℕ
  pub draws : ℕ
  pub ok : Ok fixed (busy guest barred [] 0 0) (messages + m) (bytes + b) (draws + d) g

-- the same, where p is just out of the active view
pub record Loose (p m b d : ℕ) (g : Run) : Type 0 where
  pub fixed : Fixed
  pub guest : List ℕ
  pub barred : List ℕ
  pub slots : ℕ
  pub messages : ℕ
  pub bytes : ℕ
  pub draws : ℕ
  pub ok : Ok fixed (busy guest barred (p ∷ []) slots 0) (messages + m) (bytes + b) (draws + d) g
