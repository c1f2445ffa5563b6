-- Code 8 is not met: what each step may add to the data held, and a bound on it that the views and the open requests give.
-- Assumes nothing.
use mathlib.Core.Path.{◌≡◌, refl}
use mathlib.Core.Bool.{Bool, true, false, ◌||◌}
use mathlib.Core.List.{List, [], ◌∷◌}
use mathlib.Core.Option.{Option, none, some}
use Prim.Native.Nat.{ℕ, ◌+◌, ◌≤◌}
use native.Mathlib.Omega.{arith}
use lib.ListN.{length}
use lib.Dec.{ltb, eqb}
use borrow.Author.Tests.{eqb-true, lt-ltb}
use Rattle.base_lists.specs.Lists.{choose}
use Rattle.base_lists.specs.Maps.{has, put}
use Rattle.base_lists.proofs.Choice.{by_choice, choose_yes}
use Rattle.base_lists.proofs.Maps.{length_cut, length_put, length_retain}
use Rattle.base_peer.specs.Data.{Data, Node}
use Rattle.record.specs.Format.{Rec}
use Rattle.spec_hyparview.specs.Station.{Station, Refill}
use Rattle.spec_hyparview.specs.Run as R
use Rattle.spec_hyparview.specs.Run.{Run, guard, on, emit, draw, require, emit_all}
use Rattle.spec_hyparview.specs.Peers as P
use Rattle.spec_hyparview.specs.Sending as S
use Rattle.spec_hyparview.specs.Refill as F
use Rattle.spec_hyparview.specs.Active as A
use Rattle.spec_hyparview.specs.Active.{Reason, connection_closed, disconnect_received, random}
use Rattle.spec_hyparview.specs.Messages as M
use Rattle.spec_hyparview.specs.Events as E
use Rattle.spec_hyparview.specs.Timers as T
use Rattle.spec_hyparview.specs.Handle as H

-- the run is not refused with 8; and where it is not refused, k more entries fit
pub record Fits (k : ℕ) (r : Run) : Type 0 where
  pub clear : r.code ≡ 8 → ⊥
  pub left : r.code ≡ 0 → length r.station.peer_data + k ≤ 80

-- a change of the station that adds no entry
abbrev Keeps : (Station → Station) → Type 0
Keeps f = (s : Station) → length (f s).peer_data ≤ length s.peer_data

pub or_so : (a b : Bool) → b ≡ true → (a || b) ≡ true
or_so true b e = refl
or_so false b e = e

module _ {k : ℕ} where
  pub fit_either : (test : Bool) {x y : Run} → Fits k x → Fits k y → Fits k (choose test x y)
  fit_either test f g = by_choice (Fits k) test (λ e. f) (λ e. g)

  pub fit_guard : {r after : Run} → Fits k r → (r.code ≡ 0 → Fits k after) → Fits k (guard r after)
  unfolding guard
  fit_guard {r} h f = by_choice (Fits k) (eqb r.code 0) (λ e. f (eqb-true r.code 0 e)) (λ e. h)

  pub fit_on : (f : Station → Station) {r : Run} → Keeps f → Fits k r → Fits k (on f r)
  unfolding on
  fit_on f {r} l h = fit_guard h (λ z. record { clear = h.clear; left = λ y. omega (arith, l r.station, h.left z) })

  fit_require : (c : ℕ) → (c ≡ 8 → ⊥) → (c ≡ 0 → ⊥) → (test : Bool) {r : Run} → Fits k r → Fits k (require c test r)
  unfolding require
  fit_require c n m test h = fit_guard h (λ z. fit_either test h (record { clear = n; left = λ y. absurd (m y) }))

  pub fit_draw : (n : ℕ) {r : Run} → Fits k r → Fits k (draw n r)
  unfolding draw
  fit_draw n h = fit_guard h (λ z. fit_either _ (record { clear = h.clear; left = h.left }) (record { clear = λ y. omega arith; left = λ y. absurd (omega arith) }))

  pub fit_draw_one_of : (n : ℕ) {r : Run} → Fits k r → Fits k (R.draw_one_of n r)
  unfolding R.draw_one_of
  fit_draw_one_of n h = fit_draw _ h

  fit_draw_shuffle : (xs : List ℕ) {r : Run} → Fits k r → Fits k (R.draw_shuffle xs r)
  unfolding R.draw_shuffle
  fit_draw_shuffle xs h = fit_draw _ h

  pub fit_emit : (e : Rec) {r : Run} → Fits k r → Fits k (emit e r)
  unfolding emit
  fit_emit e h = fit_guard h (λ z. fit_either _ (record { clear = h.clear; left = h.left }) (record { clear = λ y. omega arith; left = λ y. absurd (omega arith) }))

  fit_emit_all : (f : ℕ → Rec) (ps : List ℕ) {r : Run} → Fits k r → Fits k (emit_all f ps r)
  unfolding emit_all
  fit_emit_all f [] h = h
  fit_emit_all f (p ∷ ps) h = fit_emit_all f ps (fit_emit (f p) h)

  pub fit_less : {j : ℕ} {r : Run} → k ≤ j → Fits j r → Fits k r
  fit_less l h = record { clear = h.clear; left = λ z. omega (arith, h.left z) }

-- one more entry at most, and no refusal where one fits
pub put_one : (p : ℕ) (b : List ℕ) (m : List (ℕ × List ℕ)) → length (put p b m) ≤ length m + 1
put_one p b m = length_put p (length m + 1) b m (or_so (has p m) _ (lt-ltb (length m) (length m + 1) (omega arith))) (omega arith)

fit_keep : {k : ℕ} (p : ℕ) (b : List ℕ) {r : Run} → Fits (k + 1) r → Fits k (P.keep_data p b r)
unfolding P.keep_data P.store_data P.data_fits require guard on
fit_keep {k} p b {r} h =
    let s = r.station in
    by_choice (λ (w : Run). Fits k (on (P.store_data p b) w)) (eqb r.code 0)
    (λ e. let z = eqb-true r.code 0 e in
    rw (choose_yes (has p s.peer_data || ltb (length s.peer_data) 80) r (R.with_code 8 r) (or_so (has p s.peer_data) _ (lt-ltb (length s.peer_data) 80 (omega (arith, h.left z)))))
    (fit_guard (fit_less (omega arith) h) (λ y. record { clear = h.clear; left = λ i. omega (arith, h.left z, put_one p b s.peer_data) })))
    (λ e. fit_guard (fit_less (omega arith) h) (λ y. record { clear = h.clear; left = λ i. omega (arith, h.left y, put_one p b s.peer_data) }))

module _ {k : ℕ} where
  pub fit_insert_peer_info : (p : ℕ) (d : Data) {r : Run} → Fits (k + 1) r → Fits k (P.insert_peer_info p d r)
  unfolding P.insert_peer_info P.insert_data P.announce_data
  fit_insert_peer_info p none h = fit_less (omega arith) h
  fit_insert_peer_info p (some b) h = fit_either _ (fit_less (omega arith) h) (fit_keep p b (fit_either _ h (fit_emit _ h)))

  -- what is held of a peer, and the passive view
  fit_drop_data : (p : ℕ) {r : Run} → Fits k r → Fits k (on (P.drop_data p) r)
  unfolding P.drop_data
  fit_drop_data p h = fit_on (P.drop_data p) (λ s. length_cut p s.peer_data) h

  pub fit_forget : (p : ℕ) {r : Run} → Fits k r → Fits k (P.forget_peer p r)
  unfolding P.forget_peer P.drop_traces P.drop_mark P.drop_data
  fit_forget p h = fit_either _ h (fit_on (P.drop_traces p) (λ s. length_cut p s.peer_data) h)

  fit_tell_evicted : (x : Option ℕ) {r : Run} → Fits k r → Fits k (P.tell_evicted x r)
  unfolding P.tell_evicted
  fit_tell_evicted none h = h
  fit_tell_evicted (some p) h = fit_emit _ h

  fit_make_room : {r : Run} → Fits k r → Fits k (P.make_room r)
  unfolding P.make_room P.evict P.evict_at P.shift_passive
  fit_make_room {r} h =
      fit_tell_evicted (P.evicted r) (fit_either _ (fit_forget _ (fit_on (P.shift_passive _) (λ s. omega arith) (fit_draw_one_of _ h))) h)

  fit_enter_passive : (p : ℕ) {r : Run} → Fits k r → Fits k (P.enter_passive p r)
  unfolding P.enter_passive P.push_passive
  fit_enter_passive p h = fit_either _ (fit_on (P.push_passive p) (λ s. omega arith) (fit_make_room h)) h

  fit_drop_passive : (p : ℕ) {r : Run} → Fits k r → Fits k (P.drop_passive p r)
  unfolding P.drop_passive P.remove_passive
  fit_drop_passive p h = fit_forget p (fit_on (P.remove_passive p) (λ s. omega arith) h)

  -- messages sent
  pub fit_send_shuffle_reply : (to len : ℕ) {r : Run} → Fits k r → Fits k (S.send_shuffle_reply to len r)
  unfolding S.send_shuffle_reply S.reply_with S.send_filled S.send_nodes
  fit_send_shuffle_reply to len h =
      let j = fit_draw_shuffle _ h in fit_either _ (fit_emit _ (fit_draw_shuffle _ j)) (fit_emit _ j)

  fit_send_disconnect : (p : ℕ) (alive : Bool) {r : Run} → Fits k r → Fits k (S.send_disconnect p alive r)
  unfolding S.send_disconnect
  fit_send_disconnect p alive h = fit_emit _ (fit_send_shuffle_reply p _ h)

  fit_send_neighbor : (p : ℕ) (high : Bool) {r : Run} → Fits k r → Fits k (S.send_neighbor p high r)
  unfolding S.send_neighbor S.tell_request S.open_request S.count_request S.note_request
  fit_send_neighbor p high h =
      fit_either _ h (fit_emit _ (fit_emit _ (fit_on (S.note_request p) (λ s. omega arith)
      (fit_require 6 (λ e. omega arith) (λ e. omega arith) _ (fit_require 10 (λ e. omega arith) (λ e. omega arith) _ h)))))

  fit_reply_neighbor : (reply : Bool) (p : ℕ) (high : Bool) {r : Run} → Fits k r → Fits k (S.reply_neighbor reply p high r)
  unfolding S.reply_neighbor
  fit_reply_neighbor reply p high h = fit_either _ (fit_send_neighbor p high h) h

  fit_join : (p : ℕ) {r : Run} → Fits k r → Fits k (S.join p r)
  unfolding S.join
  fit_join p h = fit_emit _ h

  -- refills
  pub fit_refill : (skip : List ℕ) {r : Run} → Fits k r → Fits k (F.refill_active_from_passive skip r)
  unfolding F.refill_active_from_passive F.refill_limited F.ask_one F.ask_picked F.limit_short F.end_recovery F.use_request
  fit_refill skip h =
      let j = fit_on F.limit_short (λ s. omega arith) h in
      fit_either _ h (fit_either _ (fit_on F.end_recovery (λ s. omega arith) j) (fit_on F.use_request (λ s. omega arith) (fit_send_neighbor _ _ (fit_draw_one_of _ j))))

  pub fit_start_refill : (limit : Refill) (skip : List ℕ) {r : Run} → Fits k r → Fits k (F.start_refill limit skip r)
  unfolding F.start_refill F.begin_refill
  fit_start_refill limit skip h = fit_refill skip (fit_on (F.begin_refill limit) (λ s. omega arith) h)

  fit_clear_refused : {r : Run} → Fits k r → Fits k (on A.clear_refused r)
  unfolding A.clear_refused
  fit_clear_refused h = fit_on A.clear_refused (λ s. omega arith) h

  -- what was open with a peer
  fit_drop_join : (p : ℕ) {r : Run} → Fits k r → Fits k (on (M.drop_join p) r)
  unfolding M.drop_join
  fit_drop_join p h = fit_on (M.drop_join p) (λ s. omega arith) h

  fit_drop_request : (p : ℕ) {r : Run} → Fits k r → Fits k (on (M.drop_request p) r)
  unfolding M.drop_request
  fit_drop_request p h = fit_on (M.drop_request p) (λ s. omega arith) h

  fit_drop_pending : (p : ℕ) {r : Run} → Fits k r → Fits k (M.drop_pending p r)
  unfolding M.drop_pending
  fit_drop_pending p h = fit_drop_request p (fit_drop_join p h)

  -- into the active view
  fit_enter : (p : ℕ) (high reply : Bool) {r : Run} → Fits k r → Fits k (A.add_active_unchecked p high reply r)
  unfolding A.add_active_unchecked A.enter_active A.gain_neighbor A.move_in A.remember_neighbor A.push_active P.drop_mark P.remove_passive
  fit_enter p high reply h =
      fit_reply_neighbor reply p high (fit_on A.gain_neighbor (λ s. omega arith) (fit_emit _ (fit_on (A.move_in p) (λ s. omega arith) h)))

module _ {k : ℕ} where
  -- out of the active view: the data of the one that leaves is taken out and put in again
  fit_demote : (p : ℕ) {r : Run} → Fits (k + 1) r → Fits k (A.demote p r)
  unfolding A.demote P.add_passive
  fit_demote p h = fit_enter_passive p (fit_insert_peer_info p _ (fit_drop_data p h))

  fit_demote_alive : (p : ℕ) {r : Run} → Fits (k + 1) r → Fits k (A.demote_alive p r)
  unfolding A.demote_alive A.mark_alive
  fit_demote_alive p h = fit_on (A.mark_alive p) (λ s. omega arith) (fit_demote p h)

  fit_settle : (why : Reason) (p : ℕ) {r : Run} → Fits (k + 1) r → Fits k (A.settle why p r)
  unfolding A.settle A.settle_closed P.drop_mark
  fit_settle connection_closed p h = fit_either _ (fit_demote p (fit_on (P.drop_mark p) (λ s. omega arith) h)) (fit_forget p (fit_less (omega arith) h))
  fit_settle (disconnect_received true) p h = fit_demote_alive p h
  fit_settle (disconnect_received false) p h = fit_forget p (fit_less (omega arith) h)
  fit_settle random p h = fit_demote_alive p (fit_send_disconnect p true h)

  fit_remove_at : (i : ℕ) (why : Reason) {r : Run} → Fits (k + 1) r → Fits k (A.remove_active_by_index i why r)
  unfolding A.remove_active_by_index A.drop_active A.swap_active A.leave_active
  fit_remove_at i why h = fit_settle why _ (fit_emit _ (fit_on (A.swap_active i) (λ s. omega arith) h))

  fit_remove_active : (p : ℕ) (why : Reason) {r : Run} → Fits (k + 1) r → Fits k (A.remove_active p why r)
  unfolding A.remove_active A.refill_after
  fit_remove_active p why h = fit_either _ (fit_start_refill _ _ (fit_clear_refused (fit_remove_at _ why h))) (fit_less (omega arith) h)

  fit_free_slot : {r : Run} → Fits (k + 1) r → Fits k (A.free_random_slot_in_active_view r)
  unfolding A.free_random_slot_in_active_view A.remove_picked
  fit_free_slot h = fit_either _ (fit_less (omega arith) h) (fit_remove_at _ random (fit_draw_one_of _ h))

module _ {k : ℕ} where
  fit_add_active : (p : ℕ) (d : Data) (high reply : Bool) {r : Run} → Fits (k + 2) r → Fits k (A.add_active p d high reply r)
  unfolding A.add_active A.admit A.admit_new A.admit_full
  fit_add_active p d high reply {r} h =
      let i : Fits (k + 1) (P.insert_peer_info p d r) = fit_insert_peer_info p d (fit_less (omega arith) h) in
      let j : Fits k (P.insert_peer_info p d r) = fit_less (omega arith) i in
      fit_either _ (fit_less (omega arith) h) (fit_either _ (fit_reply_neighbor reply p high j)
      (fit_either _ (fit_either _ (fit_enter p high reply (fit_free_slot i)) j) (fit_enter p high reply j)))

  -- messages received, but those with many nodes
  pub fit_on_join : (p : ℕ) (d : Data) {r : Run} → Fits (k + 2) r → Fits k (M.on_join p d r)
  unfolding M.on_join M.forward_joins
  fit_on_join p d h = fit_emit_all _ _ (fit_add_active p d _ _ (fit_drop_pending p h))

  pub fit_on_forward_join : (from : ℕ) (n : Node) (ttl : ℕ) {r : Run} → Fits (k + 1) r → Fits k (M.on_forward_join from n ttl r)
  unfolding M.on_forward_join M.ask_joiner M.learn_joiner M.walk_on M.forward_join_on P.add_passive
  fit_on_forward_join from n ttl {r} h =
      let i : Fits k (P.insert_peer_info n.id n.data_of r) = fit_insert_peer_info _ _ h in
      let j : Fits k (M.learn_joiner n ttl r) = fit_either _ (fit_enter_passive _ i) (fit_less (omega arith) h) in
      fit_either _ (fit_send_neighbor _ _ i) (fit_either _ j (fit_emit _ (fit_draw_one_of _ j)))

  pub fit_on_neighbor : (p : ℕ) (d : Data) (high : Bool) {r : Run} → Fits (k + 2) r → Fits k (M.on_neighbor p d high r)
  unfolding M.on_neighbor M.answer_neighbor M.refuse_neighbor
  fit_on_neighbor p d high h =
      let j = fit_add_active p d high _ (fit_drop_pending p h) in fit_either _ j (fit_forget p (fit_send_disconnect p true j))

  pub fit_on_disconnect : (p : ℕ) (alive : Bool) {r : Run} → Fits (k + 1) r → Fits k (M.on_disconnect p alive r)
  unfolding M.on_disconnect M.disconnected M.disconnect_other M.forget_recent M.drop_recent M.mark_passive M.note_refusal M.note_refused M.add_refused M.left_topic A.mark_alive
  fit_on_disconnect p alive h =
      let a = fit_drop_join p h in
      let i = fit_drop_request p (fit_either alive a (fit_on (M.drop_recent p) (λ s. omega arith) a)) in
      let j = fit_less {k = k} (omega arith) i in
      let g = fit_drop_passive p j in
      let f = fit_either _ (fit_on (M.add_refused p) (λ s. omega arith) (fit_require 7 (λ e. omega arith) (λ e. omega arith) _ j)) j in
      fit_either _ (fit_remove_active p (disconnect_received alive) i)
      (fit_either alive (fit_either _ (fit_on (A.mark_alive p) (λ s. omega arith) f) f) (fit_either _ (fit_refill _ g) g))

  -- from the station's own side
  pub fit_handle_join : (p : ℕ) {r : Run} → Fits k r → Fits k (E.handle_join p r)
  unfolding E.handle_join E.join_new E.join_other E.await_join E.open_join E.note_join E.push_bootstrap E.drop_oldest_join
  fit_handle_join p h =
      let j = fit_on (E.push_bootstrap p) (λ s. omega arith) h in
      let i = fit_join p j in
      fit_either _ j (fit_either _ i (fit_emit _ (fit_on (E.note_join p) (λ s. omega arith) (fit_require 10 (λ e. omega arith) (λ e. omega arith) _ i))))

  pub fit_closed : (p : ℕ) {r : Run} → Fits (k + 1) r → Fits k (E.handle_connection_closed p r)
  unfolding E.handle_connection_closed E.lose E.lose_other E.lose_passive E.drop_dead P.drop_mark P.drop_data P.remove_passive
  fit_closed p h =
      let i = fit_drop_request p h in
      let j = fit_less {k = k} (omega arith) i in
      let g = fit_either _ (fit_on (P.drop_mark p) (λ s. omega arith) j) (fit_on (E.drop_dead p) (λ s. length_cut p s.peer_data) j) in
      fit_either _ (fit_remove_active p connection_closed i) (fit_either _ (fit_refill _ g) g)

  pub fit_update : (d : Data) {r : Run} → Fits k r → Fits k (on (E.update_own_data d) r)
  unfolding E.update_own_data
  fit_update d h = fit_on (E.update_own_data d) (λ s. omega arith) h

  pub fit_pin : (p : ℕ) {r : Run} → Fits k r → Fits k (E.handle_pin p r)
  unfolding E.handle_pin E.require_neighbor E.pin_neighbor E.note_pin
  fit_pin p h =
      fit_on (E.note_pin p) (λ s. omega arith)
      (fit_require 18 (λ e. omega arith) (λ e. omega arith) _ (fit_require 17 (λ e. omega arith) (λ e. omega arith) _ h))

  fit_quit_all : (ps : List ℕ) {r : Run} → Fits k r → Fits k (E.quit_all ps r)
  unfolding E.quit_all E.quit_one E.remove_neighbor A.leave_active
  fit_quit_all [] h = h
  fit_quit_all (p ∷ ps) h = fit_quit_all ps (fit_send_disconnect p false (fit_on (E.remove_neighbor p) (λ s. omega arith) h))

  pub fit_quit : {r : Run} → Fits k r → Fits k (E.handle_quit r)
  unfolding E.handle_quit E.clear_all
  fit_quit h = fit_on E.clear_all (λ s. omega arith) (fit_quit_all _ h)

  -- timers
  pub fit_neighbor_timer : (p id : ℕ) {r : Run} → Fits k r → Fits k (T.handle_pending_neighbor_timer p id r)
  unfolding T.handle_pending_neighbor_timer T.request_failed
  fit_neighbor_timer p id h = fit_either _ (fit_refill _ (fit_drop_passive p (fit_drop_request p h))) h

  pub fit_retry_join : (p id : ℕ) {r : Run} → Fits k r → Fits k (T.retry_join p id r)
  unfolding T.retry_join
  fit_retry_join p id h = fit_either _ (fit_join p (fit_drop_join p h)) h

  fit_schedule_shuffle : {r : Run} → Fits k r → Fits k (T.schedule_shuffle r)
  unfolding T.schedule_shuffle T.double_interval
  fit_schedule_shuffle h = fit_emit _ (fit_draw 1 (fit_on T.double_interval (λ s. omega arith) h))

  pub fit_shuffle_timer : {r : Run} → Fits k r → Fits k (T.handle_shuffle_timer r)
  unfolding T.handle_shuffle_timer T.shuffle_any T.shuffle_with T.shuffle_passive T.send_shuffle
  fit_shuffle_timer h = fit_schedule_shuffle (fit_either _ h (fit_emit _ (fit_draw_shuffle _ (fit_draw_shuffle _ (fit_draw_one_of _ h)))))

  fit_rejoin : {r : Run} → Fits k r → Fits k (T.rejoin r)
  unfolding T.rejoin T.rejoin_recent T.rejoin_bootstrap
  fit_rejoin h = let j = fit_emit_all _ _ h in fit_either _ j (fit_join _ (fit_draw_one_of _ j))

  fit_pass_alone : {r : Run} → Fits k r → Fits k (T.pass_alone r)
  unfolding T.pass_alone T.rejoin_if_due T.count_alone T.add_alone
  fit_pass_alone h =
      let j = fit_on T.add_alone (λ s. omega arith) (fit_require 10 (λ e. omega arith) (λ e. omega arith) _ h) in fit_either _ (fit_rejoin j) j

  fit_pass_short : {r : Run} → Fits k r → Fits k (T.pass_short r)
  unfolding T.pass_short T.refill_if_due T.refill_anew T.count_short T.add_short
  fit_pass_short h =
      let j = fit_on T.add_short (λ s. omega arith) (fit_require 10 (λ e. omega arith) (λ e. omega arith) _ h) in
      fit_either _ h (fit_either _ (fit_start_refill _ _ (fit_clear_refused j)) j)

  pub fit_maintenance_timer : {r : Run} → Fits k r → Fits k (T.handle_maintenance_timer r)
  unfolding T.handle_maintenance_timer T.maintain T.remember_all T.pass_known T.pass_neighbors T.not_alone T.schedule_maintenance F.end_recovery
  fit_maintenance_timer h =
      let j = fit_on T.remember_all (λ s. omega arith) h in
      let g = fit_on T.not_alone (λ s. omega arith) j in
      fit_emit _ (fit_either _ (fit_pass_alone j) (fit_either _ (fit_start_refill _ _ g) (fit_either _ (fit_pass_short g) (fit_clear_refused g))))

  pub fit_first_timers : {r : Run} → Fits k r → Fits k (H.first_timers r)
  unfolding H.first_timers H.note_scheduled T.schedule_maintenance
  fit_first_timers h = fit_either _ h (fit_emit _ (fit_schedule_shuffle (fit_on H.note_scheduled (λ s. omega arith) h)))

  pub fit_declined : {r : Run} → Fits k r → Fits k (on H.forget_declined r)
  unfolding H.forget_declined
  fit_declined h = fit_on H.forget_declined (λ s. length_retain _ s.peer_data) h
