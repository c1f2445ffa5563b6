-- Document 02, S-2: whom an event evicts from the passive view, in order, by the steps that add to it; and that an output names exactly these.
-- Assumes nothing.
use Rattle.std.specs.Prelude.{ℕ, ◌≡◌, Bool, true, false, List, [], ◌∷◌, ◌++◌, length, get_or, eqb}
use Rattle.std.proofs.Math.Option.{Option, none, some}
use Rattle.base_lists.specs.Lists.{choose, null, index_of}
use Rattle.base_lists.specs.Maps.{lookup}
use Rattle.base_peer.specs.Data.{Data, Node}
use Rattle.record.specs.Kinds.{Message, PeerDisconnected, Evicted, kind_byte, output_byte}
use Rattle.record.specs.Format.{Rec}
use Rattle.record.specs.Read.{rec_of}
use Rattle.spec_hyparview.specs.Station.{Station, draws_end, is_me, in_active, active_is_full, without_pin}
use Rattle.spec_hyparview.specs.Run.{Run, on, picked, draw_one_of}
use Rattle.spec_hyparview.specs.Peers.{insert_peer_info, drop_data, drop_mark, is_marked, add_passive, evicted_by}
use Rattle.spec_hyparview.specs.Sending.{send_disconnect}
use Rattle.spec_hyparview.specs.Active.{Reason, connection_closed, disconnect_received, random, drop_active}
use Rattle.spec_hyparview.specs.Messages.{drop_join, drop_request, drop_pending, forget_recent, ends_here, answers_shuffle}
use Rattle.spec_hyparview.specs.Rules.{all_under, station_ok}
use Rattle.spec_hyparview.specs.Handle.{first_node, first_data, is_high, says_alive, start, handle}
use Rattle.spec_hyparview.specs.Written.{WrittenOut}

-- The evictions of each step that reaches `add_passive`; no other step has any

unfoldable pub listed : Option ℕ → List ℕ
listed none = []
listed (some p) = p ∷ []

-- add_passive
unfoldable pub by_adding : ℕ → Data → Run → List ℕ
by_adding p d r = listed (evicted_by p d r)

-- add_nodes
unfoldable pub by_nodes : List Node → Run → List ℕ
by_nodes [] r = []
by_nodes (n ∷ ns) r = by_adding n.id n.data_of r ++ by_nodes ns (add_passive n.id n.data_of r)

-- demote
unfoldable pub by_demoting : ℕ → Run → List ℕ
by_demoting p r = by_adding p (lookup p r.station.peer_data) (on (drop_data p) r)

-- settle
unfoldable pub by_settling : Reason → ℕ → Run → List ℕ
by_settling connection_closed p r = choose (is_marked p r.station) (by_demoting p (on (drop_mark p) r)) []
by_settling (disconnect_received true) p r = by_demoting p r
by_settling (disconnect_received false) p r = []
by_settling random p r = by_demoting p (send_disconnect p true r)

-- remove_active_by_index
unfoldable pub by_removing_at : ℕ → Reason → Run → List ℕ
by_removing_at i why r = by_settling why (get_or r.station.active i 0) (drop_active i r)

-- remove_active
unfoldable pub by_removing : ℕ → Reason → Run → List ℕ
by_removing p why r = choose (in_active p r.station) (by_removing_at (index_of p r.station.active) why r) []

-- free_random_slot_in_active_view
unfoldable pub by_freeing : Run → List ℕ
by_freeing r =
    choose (null (without_pin r.station)) []
    (by_removing_at (index_of (picked (without_pin r.station) r) r.station.active) random (draw_one_of (length (without_pin r.station)) r))

-- admit: only a peer of high priority at a full view makes another leave
unfoldable pub by_admitting : ℕ → Bool → Run → List ℕ
by_admitting p high r =
    choose (in_active p r.station) [] (choose (active_is_full r.station) (choose high (by_freeing r) []) [])

-- add_active
unfoldable pub by_entering : ℕ → Data → Bool → Run → List ℕ
by_entering p d high r = choose (is_me p r.station) [] (by_admitting p high (insert_peer_info p d r))

-- on_forward_join
unfoldable pub by_walk : Node → ℕ → Run → List ℕ
by_walk n ttl r =
    choose (ends_here n.id ttl r.station) []
    (choose (eqb ttl r.station.config.passive_random_walk_length) (by_adding n.id n.data_of r) [])

-- on_shuffle
unfoldable pub by_shuffle : List Node → ℕ → Run → List ℕ
by_shuffle ns ttl r = choose (answers_shuffle ttl r.station) (by_nodes ns r) []

-- on_disconnect
unfoldable pub by_disconnect : ℕ → Bool → Run → List ℕ
by_disconnect p alive r =
    by_removing p (disconnect_received alive) (on (drop_request p) (forget_recent p alive (on (drop_join p) r)))

-- handle_message
unfoldable pub by_message : Rec → Run → List ℕ
by_message e r =
    choose (eqb e.message 0) (by_entering e.peer (first_data e) true (drop_pending e.peer r))
    (choose (eqb e.message 1) (by_walk (first_node e.nodes) e.ttl r)
    (choose (eqb e.message 2) (by_shuffle e.nodes e.ttl r)
    (choose (eqb e.message 3) (by_nodes e.nodes r)
    (choose (eqb e.message 4) (by_entering e.peer (first_data e) (is_high e) (drop_pending e.peer r))
    (by_disconnect e.peer (says_alive e) r)))))

-- an event's evictions, in order: only a message and a closed connection have any
unfoldable pub evictions : Rec → Run → List ℕ
evictions e r =
    choose (eqb e.kind (kind_byte Message)) (by_message e r)
    (choose (eqb e.kind (kind_byte PeerDisconnected)) (by_removing e.peer connection_closed (on (drop_request e.peer) r)) [])

-- the peers that records of kind 12 name
unfoldable pub named : List Rec → List ℕ
named [] = []
named (e ∷ es) = choose (eqb e.kind (output_byte Evicted)) (e.peer ∷ named es) (named es)

-- an output whose records of kind 12 name these peers, in this order
pub record Names (ps out : List ℕ) : Type 0 where
  pub written : WrittenOut out
  pub exactly : named written.records ≡ ps

-- "Other ways of forgetting give no such record": of every accepted call to a station that keeps the rules; an event is bytes, and draws have 32 bits
abbrev pub NamesEvictions : Type 0
NamesEvictions =
    (s : Station) → station_ok s ≡ true → (b : List ℕ) → all_under 256 b ≡ true → (ds : List ℕ) → all_under draws_end ds ≡ true
    → (room : ℕ) → (handle s b ds room).code ≡ 0 → Names (evictions (rec_of b) (start s ds room)) (handle s b ds room).output
