-- The run of a station: the runs of crate work, at the state Station.
-- Assumes nothing.
use Rattle.std.specs.Prelude.{ℕ, List, [], ◌∷◌}
use Rattle.base_lists.specs.Maps.{lookup}
use Rattle.base_peer.specs.Data.{Node}
use Rattle.work.specs.Run as work
pub use Rattle.work.specs.Run.{with_station, with_used, with_out, with_code, node, message, timer, notice, node_notice, data_notice}
unfoldable pub use Rattle.work.specs.Run.{guard, on, emit, draw, require, drawn, to_draw, one_of, draw_one_of, picked, shuffled, draw_shuffle, emit_all, flag}
use Rattle.spec_hyparview.specs.Station.{Station}

abbrev pub Run : Type 0
Run = work.Run Station

-- peer_info
unfoldable pub peer_info : Station → ℕ → Node
peer_info s p = node p (lookup p s.peer_data)

unfoldable pub peer_infos : Station → List ℕ → List Node
peer_infos s [] = []
peer_infos s (p ∷ ps) = peer_info s p ∷ peer_infos s ps
