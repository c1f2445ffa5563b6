-- One more peer adds its node, with the data that is looked up of it; so many peers, so many nodes, and they are at most 32.
use Rattle.std.specs.Prelude as prelude
use Prim.Native.Nat.{ℕ, ◌+◌, ◌<◌}
use mathlib.Core.Path.{◌≡◌, refl, sym, ap, ◌∙◌}
use mathlib.Core.List.{List, [], ◌∷◌, ◌++◌}
use native.Mathlib.Omega.{arith}
use lib.ListN.{length, take, get_or, length-map}
use Rattle.std.proofs.lemmas.List.{take_more, length-take-le}
use Rattle.base_lists.specs.Maps.{lookup}
use Rattle.base_peer.specs.Held.{node_in, data_in}
use Rattle.base_peer.specs.declared.PeerData.{PeerData}
use Rattle.record_writer.specs.declared.nodes.Nodes.{Nodes}
use Rattle.record_writer.specs.Nodes.{nodes_in}
use Rattle.record_writer.specs.Blank.{blank}
use Rattle.record.specs.Format.{most_nodes}
use Rattle.base_lists.proofs.Array.{length_pad}
use Rattle.spec_hyparview.specs.Station.{Station}
use Rattle.spec_hyparview.specs.Run.{node, peer_info, peer_infos}
use Rattle.spec_hyparview.proofs.Told.{length_infos}
use Rattle.base_util.specs.Section.{part}
use Rattle.base_columns.specs.Columns.{data_map_at}
use Rattle.hyparview_state.specs.Layout.{peer_data_part, peer_data_places}
use Rattle.hyparview_state.specs.Unpack.{unpack, station_of}
use Rattle.hyparview_state.proofs.Access.{of_packed}
use borrow.Author.Rules.{rules}
use Rattle.step_sending.proofs.peer_infos.Goals as goal

infos_more : (s : Station) (ps : List ℕ) (p : ℕ) → peer_infos s (ps ++ (p ∷ [])) ≡ peer_infos s ps ++ (peer_info s p ∷ [])
unfolding peer_infos
infos_more s [] p = refl
infos_more s (q ∷ ps) p = ap (λ l. peer_info s q ∷ l) (infos_more s ps p)

long : (t : Nodes) → length (nodes_in t) ≡ t.len
unfolding nodes_in
long t = length-map (take t.len t.items) node_in ∙ length-take-le t.len t.items (omega (arith, t.fits, ap length t.packed ∙ length_pad blank most_nodes (take t.len t.items)))

count : (s : Station) (ps : List ℕ) (t : Nodes) (i : ℕ) → nodes_in t ≡ peer_infos s (take i ps) → i < length ps → t.len ≡ i
count s ps t i v h = sym (long t) ∙ ap length v ∙ length_infos s (take i ps) ∙ length-take-le i ps (omega arith)

next : (xs ps : List ℕ) (t r : Nodes) (i : ℕ) (d : prelude.Option PeerData) → nodes_in t ≡ peer_infos (unpack xs) (take i ps) → i < length ps → data_in d ≡ lookup (get_or ps i 0) (data_map_at peer_data_places (peer_data_part xs))
    → nodes_in r ≡ nodes_in t ++ (node_in (record { id = get_or ps i 0; «data» = d }) ∷ []) → nodes_in r ≡ peer_infos (unpack xs) (take (i + 1) ps)
unfolding peer_info node_in unpack station_of
next xs ps t r i d v h e k =
    k ∙ (λ j. v j ++ (node (get_or ps i 0) (e j) ∷ [])) ∙ sym (ap (peer_infos (unpack xs)) (take_more ps i 0 h) ∙ infos_more (unpack xs) (take i ps) (get_or ps i 0))

pub loop-p-init : goal.loop-p-init
unfolding peer_infos
loop-p-init c = c.new-t.ensures

pub get_data-data-requires : goal.get_data-data-requires
unfolding part
get_data-data-requires c = search (of_packed, rules)

pub push-requires : goal.push-requires
push-requires c = omega (arith, count _ _ _ _ c.loop-p.invariant c.loop-p-test.true, c.loop-p-test.true, c.requires.ids_len_bound)

pub loop-p-preserved : goal.loop-p-preserved
unfolding part
loop-p-preserved c = next _ _ _ _ _ _ c.loop-p.invariant c.loop-p-test.true c.get_data-data.ensures c.push.ensures
