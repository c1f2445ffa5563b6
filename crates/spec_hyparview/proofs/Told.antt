-- The records that a run's bytes spell: how long they are.
-- Assumes nothing.
use mathlib.Core.Path.{◌≡◌, refl, ap}
use mathlib.Core.List.{List, [], ◌∷◌}
use mathlib.Core.Option.{none, some}
use Prim.Native.Nat.{ℕ, suc, ◌+◌, ◌*◌, ◌≤◌}
use native.Mathlib.Omega.{arith}
use lib.ListN.{length, length-append}
use Rattle.base_peer.specs.Data.{Data, Node, bytes_of}
use Rattle.record.specs.Format.{Rec, size, size_by, datas}
use Rattle.spec_hyparview.specs.Station.{Station}
use Rattle.spec_hyparview.specs.Run.{peer_info, peer_infos}
use Rattle.spec_hyparview.specs.Budgets.{bare, full_node}
use Rattle.base_lists.specs.Maps.{Each}
unfoldable pub use Rattle.spec_hyparview.specs.Invariant.{spell, note, up_after, sent_after}
pub use Rattle.spec_hyparview.specs.Invariant.{Sound, AllSound, no_more, one_more}
use Rattle.spec_hyparview.proofs.Law.{Short, ShortNodes}
use Rattle.spec_hyparview.proofs.Changes.{short_lookup}

-- a record of short data is short: 16 bytes at most with each entry of 8
length_data : (d : Data) → Short d → length (bytes_of d) ≤ 16
unfolding bytes_of Short
length_data none s = omega arith
length_data (some b) s = s

length_datas : (ns : List Node) → ShortNodes ns → length (datas ns) ≤ 16 * length ns
unfolding datas ShortNodes
length_datas [] h = omega arith
length_datas (n ∷ ns) h =
    omega (arith, length-append (bytes_of n.data_of) (datas ns), length_datas ns h.1, length_data n.data_of h.0)

pub size_short : (e : Rec) → ShortNodes e.nodes → size e ≤ bare + full_node * length e.nodes
unfolding size_by
size_short e h = omega (arith, length_datas e.nodes h)

-- what the station holds of a peer is short
pub short_infos : (s : Station) (ps : List ℕ) → Each (λ b. length b ≤ 16) s.peer_data → ShortNodes (peer_infos s ps)
unfolding peer_infos peer_info ShortNodes
short_infos s [] h = tt
short_infos s (p ∷ ps) h = (short_lookup p s.peer_data h, short_infos s ps h)

pub length_infos : (s : Station) (ps : List ℕ) → length (peer_infos s ps) ≡ length ps
unfolding peer_infos
length_infos s [] = refl
length_infos s (p ∷ ps) = ap suc (length_infos s ps)
