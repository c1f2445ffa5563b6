-- 02, S-14: every step leaves the pin of a peer k, but for a Disconnect from it, its closed connection and a Quit; and an accepted Pin gives it one.
-- Assumes nothing.
use mathlib.Core.Path.{◌≡◌, refl, sym, ap, subst, ◌∙◌}
use mathlib.Core.Bool.{Bool, true, false, not, ◌&&◌}
use mathlib.Core.List.{List, [], ◌∷◌}
use mathlib.Core.Option.{Option, none, some}
use Prim.Native.Nat.{ℕ, zero, suc, ◌≤◌}
use lib.ListN.{length, get_or}
use lib.Dec.{leb, ltb, eqb}
use borrow.Author.Tests.{leb-true, eqb-true, eqb-false, eq-eqb}
use native.Mathlib.Omega.{arith}
use Rattle.base_lists.specs.Lists.{choose, null, count, mem, index_of, without_all, place, insert}
use Rattle.base_lists.proofs.Choice.{by_choice, by_test, choose_yes, and_left, and_right, clash}
use Rattle.base_lists.proofs.Count.{is_self, mem_true, count_at, count_place, index_at}
use Rattle.base_lists.proofs.Members.{null_no, mem_yes, mem_without_other, mem_insert}
use Rattle.base_lists.proofs.Skips.{count_skipped}
use Rattle.base_util.specs.Chances.{pick}
use Rattle.base_util.proofs.Chances.{pick_below}
use Rattle.base_peer.specs.Data.{Data, Node}
use Rattle.record.specs.Kinds.{EventKind, Message, DoShuffle, DoMaintenance, PendingNeighborRequest, RetryJoin, PeerDisconnected, RequestJoin, UpdatePeerData, Quit, Pin, kind_byte, event_kind}
use Rattle.record.proofs.ByKind.{kind_found, by_kind}
use Rattle.record.specs.Format.{Rec, most_nodes, header_length}
use Rattle.record.specs.Read.{Reading, fixed_size, kind_ok, header_ok, header_of, well_formed_by, well_formed, rec_of_by, rec_of, is_event, read_event}
use Rattle.spec_hyparview.specs.Station.{Station, Refill, in_active, without_pin}
use Rattle.spec_hyparview.specs.Run as R
use Rattle.spec_hyparview.specs.Run.{Run, guard, on, emit, draw, require, emit_all, to_draw, one_of, picked}
use Rattle.spec_hyparview.specs.Peers as P
use Rattle.spec_hyparview.specs.Sending as S
use Rattle.spec_hyparview.specs.Refill as F
use Rattle.spec_hyparview.specs.Active as A
use Rattle.spec_hyparview.specs.Messages as M
use Rattle.spec_hyparview.specs.Events as E
use Rattle.spec_hyparview.specs.Timers as T
use Rattle.spec_hyparview.specs.Handle as H
use Rattle.spec_hyparview.specs.Rules.{station_ok}
use Rattle.spec_hyparview.specs.Pins.{PinGiven, is_parting}
use Rattle.spec_hyparview.proofs.Keeping.{draw_station, one_of_station, emit_station}
use Rattle.spec_hyparview.proofs.Leaving.{free_active}

module _ (k : ℕ) where
  -- from run r to run w: the pin of k is still there
  pub record Keeps (r w : Run) : Type 0 where
    pub so : mem k r.station.pins ≡ true → mem k w.station.pins ≡ true

  same : (r : Run) → Keeps r r
  same r = record { so = λ m. m }

  then : {r w v : Run} → Keeps r w → Keeps w v → Keeps r v
  then g h = record { so = λ m. h.so (g.so m) }

  either : {r w v : Run} (b : Bool) → Keeps r w → Keeps r v → Keeps r (choose b w v)
  either {r} b g h = by_choice (Keeps r) b (λ e. g) (λ e. h)

  if_so : {r w v : Run} (b : Bool) → (b ≡ true → Keeps r w) → Keeps r v → Keeps r (choose b w v)
  if_so {r} b g h = by_choice (Keeps r) b g (λ e. h)

  if_else : {r w v : Run} (b : Bool) → Keeps r w → (b ≡ false → Keeps r v) → Keeps r (choose b w v)
  if_else {r} b g h = by_choice (Keeps r) b (λ e. g) h

  emits : (e : Rec) (r : Run) → Keeps r (emit e r)
  emits e r = record { so = λ m. subst (λ (s : Station). mem k s.pins ≡ true) (sym (emit_station e r)) m }

  draws : (n : ℕ) (r : Run) → Keeps r (draw n r)
  draws n r = record { so = λ m. subst (λ (s : Station). mem k s.pins ≡ true) (sym (draw_station n r)) m }

  chooses : (n : ℕ) (r : Run) → Keeps r (R.draw_one_of n r)
  unfolding R.draw_one_of
  chooses n r = draws _ r

  -- a change of the station that keeps the pin of k, and one that leaves the pins
  alters : (f : Station → Station) (r : Run) → (mem k r.station.pins ≡ true → mem k (f r.station).pins ≡ true) → Keeps r (on f r)
  unfolding on guard
  alters f r h = by_choice (Keeps r) (eqb r.code 0) (λ e. record { so = h }) (λ e. same r)

  changes : (f : Station → Station) → ((s : Station) → (f s).pins ≡ s.pins) → (r : Run) → Keeps r (on f r)
  changes f h r = alters f r (λ m. ap (mem k) (h r.station) ∙ m)

  requires : (c : ℕ) (test : Bool) (r : Run) → Keeps r (require c test r)
  unfolding require guard
  requires c test r = by_choice (Keeps r) (eqb r.code 0) (λ e. by_choice (Keeps r) test (λ f. same r) (λ f. record { so = λ m. m })) (λ e. same r)

  emits_all : (f : ℕ → Rec) (ps : List ℕ) (r : Run) → Keeps r (emit_all f ps r)
  unfolding emit_all
  emits_all f [] r = same r
  emits_all f (p ∷ ps) r = then (emits (f p) r) (emits_all f ps (emit (f p) r))

  -- whoever is picked has no pin
  unpicked : (r : Run) → null (without_pin r.station) ≡ false → mem k r.station.pins ≡ true → get_or r.station.active (index_of (picked (without_pin r.station) r) r.station.active) 0 ≡ k → ⊥
  unfolding picked one_of without_pin
  unpicked r e m q =
      let free = without_all r.station.pins r.station.active in
      let i = pick (length free) (to_draw r) in
      let l = pick_below (length free) (to_draw r) (null_no free e) in
      let there = count_at free i l in
      let none = subst (λ (x : ℕ). count x free ≡ 0) (sym q ∙ index_at (get_or free i 0) r.station.active (free_active r.station i l)) (count_skipped k r.station.pins r.station.active (mem_true k r.station.pins m)) in
      omega (arith, there, none)

  only_five : (m : ℕ) → m ≤ 5 → (m ≡ 0 → ⊥) → (m ≡ 1 → ⊥) → (m ≡ 2 → ⊥) → (m ≡ 3 → ⊥) → (m ≡ 4 → ⊥) → m ≡ 5
  only_five zero l n₀ n₁ n₂ n₃ n₄ = absurd (n₀ refl)
  only_five (suc zero) l n₀ n₁ n₂ n₃ n₄ = absurd (n₁ refl)
  only_five (suc (suc zero)) l n₀ n₁ n₂ n₃ n₄ = absurd (n₂ refl)
  only_five (suc (suc (suc zero))) l n₀ n₁ n₂ n₃ n₄ = absurd (n₃ refl)
  only_five (suc (suc (suc (suc zero)))) l n₀ n₁ n₂ n₃ n₄ = absurd (n₄ refl)
  only_five (suc (suc (suc (suc (suc m))))) l n₀ n₁ n₂ n₃ n₄ = omega (arith, l)

  -- which events are partings
  disconnect_parting : (e : Rec) → is_parting k e ≡ false → e.message ≤ 5 → e.kind ≡ kind_byte Message → eqb e.message 0 ≡ false → eqb e.message 1 ≡ false → eqb e.message 2 ≡ false → eqb e.message 3 ≡ false → eqb e.message 4 ≡ false → e.peer ≡ k → ⊥
  unfolding is_parting
  disconnect_parting e n l z e₀ e₁ e₂ e₃ e₄ q =
      let five : e.message ≡ 5 = only_five e.message l (eqb-false _ _ e₀) (eqb-false _ _ e₁) (eqb-false _ _ e₂) (eqb-false _ _ e₃) (eqb-false _ _ e₄) in
      clash _ (rw (z, five, q, eq-eqb k k refl) refl) n

  closed_parting : (e : Rec) → is_parting k e ≡ false → e.kind ≡ kind_byte PeerDisconnected → e.peer ≡ k → ⊥
  unfolding is_parting
  closed_parting e n z q = clash _ (rw (z, q, eq-eqb k k refl) refl) n

  quit_parting : (e : Rec) → is_parting k e ≡ false → e.kind ≡ kind_byte Quit → ⊥
  unfolding is_parting
  quit_parting e n z = clash _ (rw z refl) n

  -- what is held of other peers
  insert_peer_info : (p : ℕ) (d : Data) (r : Run) → Keeps r (P.insert_peer_info p d r)
  unfolding P.insert_peer_info P.insert_data P.keep_data P.announce_data P.store_data
  insert_peer_info p none r = same r
  insert_peer_info p (some b) r =
      either _ (same r) (then (either _ (same r) (emits _ r)) (then (requires _ _ _) (changes _ (λ s. refl) _)))

  forget_peer : (p : ℕ) (r : Run) → Keeps r (P.forget_peer p r)
  unfolding P.forget_peer P.drop_traces P.drop_mark P.drop_data
  forget_peer p r = either _ (same r) (changes _ (λ s. refl) r)

  tell_evicted : (x : Option ℕ) (r : Run) → Keeps r (P.tell_evicted x r)
  unfolding P.tell_evicted
  tell_evicted none r = same r
  tell_evicted (some p) r = emits _ r

  make_room : (r : Run) → Keeps r (P.make_room r)
  unfolding P.make_room P.evict P.evict_at P.shift_passive
  make_room r =
      then (either _ (then (chooses _ r) (then (changes _ (λ s. refl) _) (forget_peer _ _))) (same r)) (tell_evicted (P.evicted r) _)

  enter_passive : (p : ℕ) (r : Run) → Keeps r (P.enter_passive p r)
  unfolding P.enter_passive P.push_passive
  enter_passive p r = either _ (then (make_room r) (changes _ (λ s. refl) _)) (same r)

  add_passive : (p : ℕ) (d : Data) (r : Run) → Keeps r (P.add_passive p d r)
  unfolding P.add_passive
  add_passive p d r = then (insert_peer_info p d r) (enter_passive p _)

  add_nodes : (ns : List Node) (r : Run) → Keeps r (P.add_nodes ns r)
  unfolding P.add_nodes
  add_nodes [] r = same r
  add_nodes (n ∷ ns) r = then (add_passive n.id n.data_of r) (add_nodes ns _)

  drop_passive : (p : ℕ) (r : Run) → Keeps r (P.drop_passive p r)
  unfolding P.drop_passive P.remove_passive
  drop_passive p r = then (changes _ (λ s. refl) r) (forget_peer p _)

  -- what is sent
  join : (p : ℕ) (r : Run) → Keeps r (S.join p r)
  unfolding S.join S.join_to
  join p r = emits _ r

  send_shuffle_reply : (to len : ℕ) (r : Run) → Keeps r (S.send_shuffle_reply to len r)
  unfolding S.send_shuffle_reply S.reply_with S.send_filled S.send_nodes R.draw_shuffle
  send_shuffle_reply to len r = then (draws _ r) (either _ (then (draws _ _) (emits _ _)) (emits _ _))

  send_disconnect : (p : ℕ) (alive : Bool) (r : Run) → Keeps r (S.send_disconnect p alive r)
  unfolding S.send_disconnect
  send_disconnect p alive r = then (send_shuffle_reply _ _ r) (emits _ _)

  send_neighbor : (p : ℕ) (high : Bool) (r : Run) → Keeps r (S.send_neighbor p high r)
  unfolding S.send_neighbor S.tell_request S.open_request S.count_request S.note_request S.neighbor_to
  send_neighbor p high r =
      either _ (same r) (then (requires _ _ r) (then (requires _ _ _) (then (changes _ (λ s. refl) _) (then (emits _ _) (emits _ _)))))

  reply_neighbor : (reply : Bool) (p : ℕ) (high : Bool) (r : Run) → Keeps r (S.reply_neighbor reply p high r)
  unfolding S.reply_neighbor
  reply_neighbor reply p high r = either _ (send_neighbor p high r) (same r)

  -- refills
  refill : (skip : List ℕ) (r : Run) → Keeps r (F.refill_active_from_passive skip r)
  unfolding F.refill_active_from_passive F.refill_limited F.ask_one F.ask_picked F.limit_short F.end_recovery F.use_request
  refill skip r =
      either _ (same r) (then (changes _ (λ s. refl) r)
      (either _ (changes _ (λ s. refl) _) (then (chooses _ _) (then (send_neighbor _ _ _) (changes _ (λ s. refl) _)))))

  start_refill : (limit : Refill) (skip : List ℕ) (r : Run) → Keeps r (F.start_refill limit skip r)
  unfolding F.start_refill F.begin_refill
  start_refill limit skip r = then (changes _ (λ s. refl) r) (refill skip _)

  -- the active view
  demote : (p : ℕ) (r : Run) → Keeps r (A.demote p r)
  unfolding A.demote P.drop_data
  demote p r = then (changes _ (λ s. refl) r) (add_passive p _ _)

  demote_alive : (p : ℕ) (r : Run) → Keeps r (A.demote_alive p r)
  unfolding A.demote_alive A.mark_alive
  demote_alive p r = then (demote p r) (changes _ (λ s. refl) _)

  settle : (why : A.Reason) (p : ℕ) (r : Run) → Keeps r (A.settle why p r)
  unfolding A.settle A.settle_closed P.drop_mark
  settle A.connection_closed p r = either _ (then (changes _ (λ s. refl) r) (demote p _)) (forget_peer p r)
  settle (A.disconnect_received true) p r = demote_alive p r
  settle (A.disconnect_received false) p r = forget_peer p r
  settle A.random p r = then (send_disconnect p true r) (demote_alive p _)

  remove_at : (i : ℕ) (why : A.Reason) (r : Run) → (mem k r.station.pins ≡ true → get_or r.station.active i 0 ≡ k → ⊥) → Keeps r (A.remove_active_by_index i why r)
  unfolding A.remove_active_by_index A.drop_active A.swap_active A.leave_active
  remove_at i why r n =
      then (alters _ r (λ m. mem_without_other k _ r.station.pins (λ e. n m (sym e)) ∙ m)) (then (emits _ _) (settle why _ _))

  remove_active : (p : ℕ) → (p ≡ k → ⊥) → (why : A.Reason) (r : Run) → Keeps r (A.remove_active p why r)
  unfolding A.remove_active A.refill_after A.clear_refused in_active
  remove_active p n why r =
      if_so _ (λ e. then (remove_at _ why r (λ m q. n (sym (index_at p r.station.active e) ∙ q))) (then (changes _ (λ s. refl) _) (start_refill _ _ _))) (same r)

  -- whoever is picked has no pin
  free_slot : (r : Run) → Keeps r (A.free_random_slot_in_active_view r)
  unfolding A.free_random_slot_in_active_view A.remove_picked
  free_slot r =
      if_else _ (same r) (λ e. then (chooses _ r) (remove_at _ _ _ (λ m q. unpicked r e (subst (λ (s : Station). mem k s.pins ≡ true) (one_of_station _ r) m)
      (subst (λ (s : Station). get_or s.active (index_of (picked (without_pin r.station) r) r.station.active) 0 ≡ k) (one_of_station _ r) q))))

  add_unchecked : (p : ℕ) (high reply : Bool) (r : Run) → Keeps r (A.add_active_unchecked p high reply r)
  unfolding A.add_active_unchecked A.enter_active A.move_in A.remember_neighbor A.push_active P.drop_mark P.remove_passive A.gain_neighbor
  add_unchecked p high reply r =
      then (changes _ (λ s. refl) r) (then (emits _ _) (then (changes _ (λ s. refl) _) (reply_neighbor reply p high _)))

  add_active : (p : ℕ) (d : Data) (high reply : Bool) (r : Run) → Keeps r (A.add_active p d high reply r)
  unfolding A.add_active A.admit A.admit_new A.admit_full
  add_active p d high reply r =
      either _ (same r) (then (insert_peer_info p d r) (either _ (reply_neighbor reply p high _)
      (either _ (either _ (then (free_slot _) (add_unchecked p high reply _)) (same _)) (add_unchecked p high reply _))))

  -- messages
  drop_pending : (p : ℕ) (r : Run) → Keeps r (M.drop_pending p r)
  unfolding M.drop_pending M.drop_join M.drop_request
  drop_pending p r = then (changes _ (λ s. refl) r) (changes _ (λ s. refl) _)

  on_join : (p : ℕ) (d : Data) (r : Run) → Keeps r (M.on_join p d r)
  unfolding M.on_join M.forward_joins M.forward_join_to
  on_join p d r = then (drop_pending p r) (then (add_active p d true true _) (emits_all _ _ _))

  on_forward_join : (from : ℕ) (n : Node) (ttl : ℕ) (r : Run) → Keeps r (M.on_forward_join from n ttl r)
  unfolding M.on_forward_join M.ask_joiner M.walk_on M.learn_joiner M.forward_join_on M.forward_join_to
  on_forward_join from n ttl r =
      either _ (then (insert_peer_info _ _ r) (send_neighbor _ _ _))
      (then (either _ (add_passive _ _ r) (same r)) (either _ (same _) (then (chooses _ _) (emits _ _))))

  on_shuffle : (from origin : ℕ) (ns : List Node) (ttl : ℕ) (r : Run) → Keeps r (M.on_shuffle from origin ns ttl r)
  unfolding M.on_shuffle M.answer_shuffle M.forward_shuffle
  on_shuffle from origin ns ttl r =
      either _ (then (add_nodes ns r) (send_shuffle_reply _ _ _)) (either _ (same r) (then (chooses _ r) (emits _ _)))

  on_shuffle_reply : (from : ℕ) (ns : List Node) (r : Run) → Keeps r (M.on_shuffle_reply from ns r)
  unfolding M.on_shuffle_reply M.after_reply M.refill_with
  on_shuffle_reply from ns r = then (add_nodes ns r) (either _ (same _) (either _ (start_refill _ _ _) (refill _ _)))

  on_neighbor : (p : ℕ) (d : Data) (high : Bool) (r : Run) → Keeps r (M.on_neighbor p d high r)
  unfolding M.on_neighbor M.answer_neighbor M.refuse_neighbor
  on_neighbor p d high r =
      then (drop_pending p r) (either _ (add_active p d high _ _) (then (add_active p d high _ _) (then (send_disconnect p true _) (forget_peer p _))))

  on_disconnect : (p : ℕ) → (p ≡ k → ⊥) → (alive : Bool) (r : Run) → Keeps r (M.on_disconnect p alive r)
  unfolding M.on_disconnect M.disconnected M.disconnect_other M.left_topic M.mark_passive M.note_refusal M.note_refused M.add_refused M.forget_recent M.drop_recent M.drop_join M.drop_request A.mark_alive
  on_disconnect p n alive r =
      then (changes _ (λ s. refl) r) (then (either _ (same _) (changes _ (λ s. refl) _)) (then (changes _ (λ s. refl) _)
      (either _ (remove_active p n _ _) (either _
      (then (either _ (then (requires _ _ _) (changes _ (λ s. refl) _)) (same _)) (either _ (changes _ (λ s. refl) _) (same _)))
      (either _ (then (drop_passive p _) (refill _ _)) (drop_passive p _))))))

  handle_message : (e : Rec) → (eqb e.message 0 ≡ false → eqb e.message 1 ≡ false → eqb e.message 2 ≡ false → eqb e.message 3 ≡ false → eqb e.message 4 ≡ false → e.peer ≡ k → ⊥) → (r : Run) → Keeps r (H.handle_message e r)
  unfolding H.handle_message
  handle_message e n r =
      if_else _ (on_join _ _ r) (λ e₀. if_else _ (on_forward_join _ _ _ r) (λ e₁. if_else _ (on_shuffle _ _ _ _ r)
      (λ e₂. if_else _ (on_shuffle_reply _ _ r) (λ e₃. if_else _ (on_neighbor _ _ _ r) (λ e₄. on_disconnect _ (n e₀ e₁ e₂ e₃ e₄) _ r)))))

  -- the station's own side
  handle_join : (p : ℕ) (r : Run) → Keeps r (E.handle_join p r)
  unfolding E.handle_join E.push_bootstrap E.drop_oldest_join E.join_new E.join_other E.await_join E.open_join E.note_join
  handle_join p r =
      then (changes _ (λ s. refl) r) (either _ (same _) (either _ (join p _)
      (then (join p _) (then (requires _ _ _) (then (changes _ (λ s. refl) _) (emits _ _))))))

  lose_passive : (p : ℕ) (r : Run) → Keeps r (E.lose_passive p r)
  unfolding E.lose_passive E.drop_dead P.drop_data P.remove_passive P.drop_mark
  lose_passive p r = either _ (changes _ (λ s. refl) r) (changes _ (λ s. refl) r)

  connection_closed : (p : ℕ) → (p ≡ k → ⊥) → (r : Run) → Keeps r (E.handle_connection_closed p r)
  unfolding E.handle_connection_closed E.lose E.lose_other M.drop_request
  connection_closed p n r =
      then (changes _ (λ s. refl) r)
      (either _ (remove_active p n _ _) (either _ (then (lose_passive p _) (refill _ _)) (lose_passive p _)))

  handle_pin : (p : ℕ) (r : Run) → Keeps r (E.handle_pin p r)
  unfolding E.handle_pin E.require_neighbor E.pin_neighbor E.note_pin
  handle_pin p r = then (requires _ _ r) (then (requires _ _ _) (alters _ _ (λ m. mem_insert k p _ m)))

  -- the other timers
  neighbor_timer : (p id : ℕ) (r : Run) → Keeps r (T.handle_pending_neighbor_timer p id r)
  unfolding T.handle_pending_neighbor_timer T.request_failed M.drop_request
  neighbor_timer p id r = either _ (then (changes _ (λ s. refl) r) (then (drop_passive p _) (refill _ _))) (same r)

  retry_join : (p id : ℕ) (r : Run) → Keeps r (T.retry_join p id r)
  unfolding T.retry_join M.drop_join
  retry_join p id r = either _ (then (changes _ (λ s. refl) r) (join p _)) (same r)

  pass_alone : (r : Run) → Keeps r (T.pass_alone r)
  unfolding T.pass_alone T.count_alone T.add_alone T.rejoin_if_due T.rejoin T.rejoin_bootstrap T.rejoin_recent S.join_to
  pass_alone r =
      then (requires _ _ r) (then (changes _ (λ s. refl) _)
      (either _ (then (emits_all _ _ _) (either _ (same _) (then (chooses _ _) (join _ _)))) (same _)))

  pass_short : (r : Run) → Keeps r (T.pass_short r)
  unfolding T.pass_short T.count_short T.add_short T.refill_if_due T.refill_anew A.clear_refused
  pass_short r =
      either _ (same r) (then (requires _ _ r) (then (changes _ (λ s. refl) _)
      (either _ (then (changes _ (λ s. refl) _) (start_refill _ _ _)) (same _))))

  pub schedule_maintenance : (r : Run) → Keeps r (T.schedule_maintenance r)
  unfolding T.schedule_maintenance
  schedule_maintenance r = emits _ r

  maintenance_timer : (r : Run) → Keeps r (T.handle_maintenance_timer r)
  unfolding T.handle_maintenance_timer T.remember_all T.maintain T.pass_known T.pass_neighbors T.not_alone F.end_recovery A.clear_refused
  maintenance_timer r =
      then (changes _ (λ s. refl) r)
      (then (either _ (pass_alone _) (then (changes _ (λ s. refl) _)
      (either _ (start_refill _ _ _) (either _ (pass_short _) (changes _ (λ s. refl) _)))))
      (schedule_maintenance _))

  -- a shuffle timer, before it schedules the next
  pub shuffle_any : (r : Run) → Keeps r (T.shuffle_any r)
  unfolding T.shuffle_any T.shuffle_with T.shuffle_passive T.send_shuffle R.draw_shuffle
  shuffle_any r = either _ (same r) (then (chooses _ r) (then (draws _ _) (then (draws _ _) (emits _ _))))

  shuffle_timer : (r : Run) → Keeps r (T.handle_shuffle_timer r)
  unfolding T.handle_shuffle_timer T.schedule_shuffle T.double_interval
  shuffle_timer r = then (shuffle_any r) (then (changes _ (λ s. refl) _) (then (draws _ _) (emits _ _)))

  -- what follows every event
  end : (r : Run) → Keeps r (on H.forget_declined (H.first_timers r))
  unfolding H.first_timers H.forget_declined H.note_scheduled T.schedule_shuffle T.double_interval
  end r =
      then (either _ (same _) (then (changes _ (λ s. refl) _) (then (then (changes _ (λ s. refl) _) (then (draws _ _) (emits _ _))) (schedule_maintenance _))))
      (changes _ (λ s. refl) _)

  -- an event that is no parting of its own
  module _ (e : Rec) (l : e.kind ≡ kind_byte Message → e.message ≤ 5) (n : is_parting k e ≡ false) where
    by_each : (j : EventKind) → e.kind ≡ kind_byte j → (r : Run) → Keeps r (H.handle_kind (some j) e r)
    unfolding H.handle_kind E.update_own_data
    by_each Message z r = handle_message e (λ e₀ e₁ e₂ e₃ e₄ q. disconnect_parting e n (l z) z e₀ e₁ e₂ e₃ e₄ q) r
    by_each DoShuffle z r = shuffle_timer r
    by_each DoMaintenance z r = maintenance_timer r
    by_each PendingNeighborRequest z r = neighbor_timer _ _ r
    by_each RetryJoin z r = retry_join _ _ r
    by_each PeerDisconnected z r = connection_closed _ (λ q. closed_parting e n z q) r
    by_each RequestJoin z r = handle_join _ r
    by_each UpdatePeerData z r = changes _ (λ s. refl) r
    by_each Quit z r = absurd (quit_parting e n z)
    by_each Pin z r = handle_pin _ r

    pub steps_keep : (r : Run) → Keeps r (H.steps e r)
    unfolding H.steps H.dispatch
    steps_keep r =
        then (by_kind (λ (o : Option EventKind). Keeps r (H.handle_kind o e r)) e.kind (λ _. same r) (λ j z. by_each j z r)) (end _)

-- a message that was read is one of the six
few_messages : (b : List ℕ) → well_formed b ≡ true → (rec_of b).kind ≡ kind_byte Message → (rec_of b).message ≤ 5
unfolding well_formed_by header_ok kind_ok rec_of_by
few_messages b e z =
    let ok = and_right (leb header_length (length b)) _ e in
    let known = and_right (not (eqb (fixed_size (header_of b).kind) 0)) _ (and_left _ _ (and_left (header_ok (header_of b)) _ ok)) in
    leb-true _ 5 (sym (choose_yes (eqb (header_of b).kind (kind_byte Message)) _ _ (eq-eqb _ _ z)) ∙ known)

-- 02, S-14: the pin stays through every call but those partings, accepted or refused
pub pin_kept : (k : ℕ) (s : Station) (b ds : List ℕ) (room : ℕ) → is_parting k (rec_of b) ≡ false → mem k s.pins ≡ true → mem k (H.handle s b ds room).state.pins ≡ true
unfolding H.handle H.handle_reading read_event H.finish H.accepted H.refusal
pin_kept k s b ds room n m =
    let P : H.Result → Type 0 = (λ x. mem k x.state.pins ≡ true) in
    let Q : Reading → Type 0 = (λ x. mem k (H.handle_reading x s ds room).state.pins ≡ true) in
    by_choice P (station_ok s)
    (λ _. by_choice Q (ltb (length b) header_length) (λ _. m)
    (λ _. by_choice Q (ltb most_nodes (get_or b 3 0)) (λ _. m)
    (λ _. by_choice Q (well_formed b && is_event (header_of b))
    (λ e. by_choice P (eqb (H.steps (rec_of b) (H.start s ds room)).code 0)
    (λ _. (steps_keep k (rec_of b) (few_messages b (and_left (well_formed b) _ e)) n (H.start s ds room)).so m) (λ _. m)) (λ _. m))))
    (λ _. m)

-- ---- a pin that was accepted is there

-- a step that ends with 0 began with 0
guarded : (r after : Run) → (guard r after).code ≡ 0 → r.code ≡ 0
unfolding guard
guarded r after = by_choice (λ (w : Run). w.code ≡ 0 → r.code ≡ 0) (eqb r.code 0) (λ e z. eqb-true _ _ e) (λ e z. z)

end_code : (r : Run) → (on H.forget_declined (H.first_timers r)).code ≡ 0 → r.code ≡ 0
unfolding H.first_timers T.schedule_maintenance T.schedule_shuffle on emit draw
end_code r z =
    by_choice (λ (w : Run). w.code ≡ 0 → r.code ≡ 0) r.station.scheduled (λ e y. y)
    (λ e y. guarded r _ (guarded _ _ (guarded _ _ (guarded _ _ (guarded _ _ y))))) (guarded (H.first_timers r) _ z)

in_itself : (p : ℕ) (xs : List ℕ) → mem p (insert p xs) ≡ true
unfolding insert
in_itself p xs = by_test (λ (l : List ℕ). mem p l ≡ true) (mem p xs) (λ e. e) (λ e. mem_yes p (place p xs) (omega (arith, count_place p p xs, is_self p)))

noted_pin : (p : ℕ) (q : Run) → (on (E.note_pin p) q).code ≡ 0 → mem p (on (E.note_pin p) q).station.pins ≡ true
unfolding E.note_pin on guard
noted_pin p q =
    by_choice (λ (w : Run). w.code ≡ 0 → mem p w.station.pins ≡ true) (eqb q.code 0) (λ e z. in_itself p q.station.pins) (λ e z. absurd (eqb-false _ _ e z))

handled_pin : (p : ℕ) (r : Run) → (E.handle_pin p r).code ≡ 0 → mem p (E.handle_pin p r).station.pins ≡ true
unfolding E.handle_pin E.pin_neighbor
handled_pin p r = noted_pin p _

pin_step : (e : Rec) (r : Run) → e.kind ≡ kind_byte Pin → H.dispatch e r ≡ E.handle_pin e.peer r
unfolding H.dispatch H.handle_kind
pin_step e r k = ap (λ (j : ℕ). H.handle_kind (event_kind j) e r) k ∙ ap (λ (o : Option EventKind). H.handle_kind o e r) (kind_found Pin)

given : (e : Rec) (r : Run) → e.kind ≡ kind_byte Pin → (H.steps e r).code ≡ 0 → mem e.peer (H.steps e r).station.pins ≡ true
unfolding H.steps
given e r k z =
    let P : Run → Type 0 = (λ w. w.code ≡ 0 → mem e.peer w.station.pins ≡ true) in
    (end e.peer _).so (subst P (sym (pin_step e r k)) (handled_pin e.peer r) (end_code _ z))

pub pin_given : PinGiven
unfolding H.handle H.handle_reading read_event H.finish H.accepted H.refusal
pin_given s b ds room k =
    let P : H.Result → Type 0 = (λ x. x.code ≡ 0 → mem (rec_of b).peer x.state.pins ≡ true) in
    let Q : Reading → Type 0 = (λ x. P (H.handle_reading x s ds room)) in
    by_choice P (station_ok s)
    (λ _. by_choice Q (ltb (length b) header_length) (λ _ z. absurd (omega (arith, z)))
    (λ _. by_choice Q (ltb most_nodes (get_or b 3 0)) (λ _ z. absurd (omega (arith, z)))
    (λ _. by_choice Q (well_formed b && is_event (header_of b))
    (λ _. by_choice P (eqb (H.steps (rec_of b) (H.start s ds room)).code 0)
    (λ t _. given (rec_of b) (H.start s ds room) k (eqb-true _ _ t)) (λ t z. absurd (eqb-false _ _ t z))) (λ _ z. absurd (omega (arith, z))))))
    (λ _ z. absurd (omega (arith, z)))
