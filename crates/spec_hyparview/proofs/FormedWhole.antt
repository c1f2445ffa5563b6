-- One whole event in form keeps `Formed`, and names whom it evicts.
-- Assumes nothing.
use mathlib.Core.Path.{◌≡◌, refl, sym, ◌∙◌, subst}
use mathlib.Core.List.{List, [], ◌∷◌}
use mathlib.Core.Option.{Option, some}
use Prim.Native.Nat.{ℕ, ◌≤◌}
use native.Mathlib.Omega.{arith}
use lib.ListN.{length}
use borrow.Author.Tests.{eq-eqb, ne_eqb}
use Rattle.base_lists.proofs.Choice.{choose_yes, choose_no}
use Rattle.base_lists.specs.Tests.{All}
use Rattle.base_lists.proofs.Maps.{all_retain}
use Rattle.base_peer.specs.Data.{Node, bytes_of}
use Rattle.record.specs.Kinds.{EventKind, Message, DoShuffle, DoMaintenance, PendingNeighborRequest, RetryJoin, PeerDisconnected, RequestJoin, UpdatePeerData, Quit, Pin, kind_byte}
use Rattle.record.specs.Format.{Rec}
use Rattle.record.proofs.ByKind.{by_kind}
use Rattle.record.specs.InForm.{InForm, header_in}
use Rattle.spec_hyparview.specs.Station.{Station, data_peers}
use Rattle.spec_hyparview.specs.Run.{Run}
use Rattle.spec_hyparview.specs.Events.{handle_connection_closed}
use Rattle.spec_hyparview.specs.Handle as H
use Rattle.spec_hyparview.specs.Evictions.{by_message, evictions}
use Rattle.spec_hyparview.proofs.Narrow.{no_peer, no_data, HeldData, Named, form_nodes, Peer, Narrow, at, change, change_held}
use Rattle.spec_hyparview.proofs.Formed.{Formed, either, either_way, alter}
use Rattle.base_lists.proofs.Members.{each_retain}
use Rattle.spec_hyparview.proofs.Narrow as N
use Rattle.spec_hyparview.proofs.FormedEvents.{formed_on_join, formed_on_forward_join, formed_on_shuffle, formed_on_shuffle_reply, formed_on_neighbor, formed_on_disconnect, formed_handle_join, formed_closed, formed_update, formed_pin, formed_quit, formed_neighbor_timer, formed_retry_join, formed_schedule_shuffle, formed_schedule_maintenance, formed_shuffle_timer, formed_maintenance_timer}

first_named : (ns : List Node) → All Named ns → Named (H.first_node ns)
unfolding H.first_node All bytes_of
first_named [] a = record { id = no_peer; held = no_data }
first_named (n ∷ ns) a = a.0

declined_narrow : (s : Station) → Narrow s → Narrow (H.forget_declined s)
unfolding H.forget_declined
declined_narrow s w =
    change_held (change w N.peer_data _ (all_retain Peer (data_peers s) s.peer_data (at w N.peer_data))) (each_retain HeldData (data_peers s) s.peer_data w.held)

module _ (e : Rec) (f : InForm e) (few : length e.nodes ≤ 32) where
  nodes_named : All Named e.nodes
  nodes_named = form_nodes (header_in e) e.nodes f.nodes

  data_held : HeldData (bytes_of (H.first_data e))
  unfolding H.first_data
  data_held = (first_named e.nodes nodes_named).held

  formed_message : {ds : List ℕ} {r : Run} → Formed ds [] r → Formed ds (by_message e r) (H.handle_message e r)
  unfolding H.handle_message by_message
  formed_message k =
      either_way _ (formed_on_join _ _ f.peer data_held k)
      (either_way _ (formed_on_forward_join _ _ _ (first_named e.nodes nodes_named) f.ttl k)
      (either_way _ (formed_on_shuffle _ _ _ _ f.second few nodes_named f.ttl k)
      (either_way _ (formed_on_shuffle_reply _ _ nodes_named k)
      (either_way _ (formed_on_neighbor _ _ _ f.peer data_held k) (formed_on_disconnect _ _ f.peer k)))))

  module _ {ds : List ℕ} {r : Run} (k : Formed ds [] r) where
    -- a kind that evicts nobody
    quiet : (j : ℕ) → e.kind ≡ j → (j ≡ kind_byte Message → ⊥) → (j ≡ kind_byte PeerDisconnected → ⊥) → {x : Run} → Formed ds [] x → Formed ds (evictions e r) x
    unfolding evictions
    quiet j z n₀ n₅ {x} =
        subst (λ (l : List ℕ). Formed ds l x) (sym (choose_no _ _ _ (ne_eqb e.kind _ (λ y. n₀ (sym z ∙ y))) ∙ choose_no _ _ _ (ne_eqb e.kind _ (λ y. n₅ (sym z ∙ y)))))

    formed_kind : (j : EventKind) → e.kind ≡ kind_byte j → Formed ds (evictions e r) (H.handle_kind (some j) e r)
    unfolding H.handle_kind evictions
    formed_kind Message z = subst (λ (l : List ℕ). Formed ds l (H.handle_message e r)) (sym (choose_yes _ _ _ (eq-eqb _ _ z))) (formed_message k)
    formed_kind DoShuffle z = quiet _ z (λ y. omega arith) (λ y. omega arith) (formed_shuffle_timer k)
    formed_kind DoMaintenance z = quiet _ z (λ y. omega arith) (λ y. omega arith) (formed_maintenance_timer k)
    formed_kind PendingNeighborRequest z = quiet _ z (λ y. omega arith) (λ y. omega arith) (formed_neighbor_timer _ _ k)
    formed_kind RetryJoin z = quiet _ z (λ y. omega arith) (λ y. omega arith) (formed_retry_join _ _ f.peer k)
    formed_kind PeerDisconnected z =
        subst (λ (l : List ℕ). Formed ds l (handle_connection_closed e.peer r)) (sym (choose_no _ _ _ (ne_eqb e.kind 0 (λ y. omega (arith, z, y))) ∙ choose_yes _ _ _ (eq-eqb _ _ z))) (formed_closed _ k)
    formed_kind RequestJoin z = quiet _ z (λ y. omega arith) (λ y. omega arith) (formed_handle_join _ f.peer k)
    formed_kind UpdatePeerData z = quiet _ z (λ y. omega arith) (λ y. omega arith) (formed_update _ data_held k)
    formed_kind Quit z = quiet _ z (λ y. omega arith) (λ y. omega arith) (formed_quit k)
    formed_kind Pin z = quiet _ z (λ y. omega arith) (λ y. omega arith) (formed_pin _ f.peer k)

    formed_dispatch : Formed ds (evictions e r) (H.dispatch e r)
    unfolding H.dispatch
    formed_dispatch =
        by_kind (λ (o : Option EventKind). Formed ds (evictions e r) (H.handle_kind o e r)) e.kind
        (λ n. quiet e.kind refl (n Message) (n PeerDisconnected) k) formed_kind

  pub formed_steps : {ds : List ℕ} {r : Run} → Formed ds [] r → Formed ds (evictions e r) (H.steps e r)
  unfolding H.steps H.first_timers H.note_scheduled
  formed_steps k =
      let j = formed_dispatch k in
      alter H.forget_declined (declined_narrow _) (either _ j (formed_schedule_maintenance (formed_schedule_shuffle (alter H.note_scheduled (λ w. w) j))))
