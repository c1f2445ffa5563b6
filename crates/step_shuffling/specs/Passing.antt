-- Who a Shuffle may be passed on to, of the words as they came.
-- Assumes nothing.
use Rattle.std.specs.Prelude.{ℕ, List, [], ◌∷◌}
use Rattle.base_lists.specs.Lists.{without_all}
use Rattle.base_lists.specs.Lent.{Seen}
use Rattle.base_peer.specs.Data.{Node}
use Rattle.spec_hyparview.specs.Run.{Run}
use Rattle.spec_hyparview.specs.Messages.{forward_shuffle}
use Rattle.hyparview_state.specs.Unpack.{unpack}

-- `forward_shuffle` among the neighbours but the sender and the origin, as `on_shuffle` has it
abbrev pub pass_shuffle : ℕ → ℕ → List Node → ℕ → Seen → Run → Run
pass_shuffle from origin ns ttl st =
    forward_shuffle (without_all (origin ∷ from ∷ []) (unpack st.entry.now).active) origin ns ttl
