-- Every event keeps `Formed`: messages received, what comes from the station's own side, timers.
-- Assumes nothing.
use mathlib.Core.Path.{refl}
use mathlib.Core.Bool.{Bool, true, false}
use mathlib.Core.List.{List, [], ◌∷◌, ◌++◌}
use Prim.Native.Nat.{ℕ, ◌+◌, ◌≤◌, ◌<◌}
use native.Mathlib.Nat.{mul-le-mul}
use native.Mathlib.Omega.{arith}
use lib.ListN.{length, take, length-append}
use borrow.Author.Tests.{ltb-true}
use lib.Dec.{eqb}
use Rattle.base_lists.specs.Lists.{choose, without}
use Rattle.base_lists.specs.Maps.{keys, Each}
use Rattle.base_lists.specs.Tests.{All}
use Rattle.base_lists.proofs.Choice.{by_choice}
use Rattle.base_timing.specs.Timing.{next, delay}
use Rattle.base_peer.specs.Data.{Data, Node, bytes_of}
use Rattle.spec_hyparview.specs.Station.{top_counter, peers_end, draws_end, in_active}
use Rattle.spec_hyparview.specs.Run as R
use Rattle.spec_hyparview.specs.Run.{Run, on}
use Rattle.spec_hyparview.specs.Peers as P
use Rattle.spec_hyparview.specs.Sending as S
use Rattle.spec_hyparview.specs.Refill as F
use Rattle.spec_hyparview.specs.Active as A
use Rattle.spec_hyparview.specs.Active.{connection_closed, disconnect_received}
use Rattle.spec_hyparview.specs.Messages as M
use Rattle.spec_hyparview.specs.Events as E
use Rattle.spec_hyparview.specs.Timers as T
use Rattle.spec_hyparview.specs.Evictions.{by_nodes, by_removing, by_entering, by_walk, by_shuffle, by_disconnect}
use Rattle.base_lists.proofs.Members.{length_cut_to}
use Rattle.spec_hyparview.proofs.Told.{length_infos}
use Rattle.spec_hyparview.proofs.Among.{all_append, all_take, all_get, all_without, all_without_all, all_insert, all_renew, all_renew_all, all_keys_cut, all_keys_put, all_remove}
use Rattle.spec_hyparview.proofs.Narrow as N
use Rattle.spec_hyparview.proofs.Narrow.{Peer, Peers, no_peer, no_peers, HeldData, Named, at, change, change_own, change_held, change_pace, change_next_join, named_infos}
use Rattle.spec_hyparview.proofs.Forms.{form_join, form_forward, form_shuffle, form_shuffle_timer, form_maintenance_timer, form_retry_timer}
use Rattle.spec_hyparview.proofs.Keeping.{seven, ten}
use Rattle.spec_hyparview.proofs.Formed.{Formed, either, either_way, alter, asked, claim, drew, drew_one_of, drew_shuffle, wrote, wrote_if, wrote_all, picked_peer, shuffled_peers}
use Rattle.spec_hyparview.proofs.FormedSteps.{drop_data_narrow, drop_mark_narrow, remove_passive_narrow, mark_alive_narrow, formed_insert_peer_info, formed_forget, formed_add_passive, formed_add_nodes, formed_drop_passive, formed_join, formed_send_shuffle_reply, formed_send_disconnect, formed_send_neighbor, formed_refill, formed_start_refill, formed_clear_refused, formed_remove_active, formed_add_active}

-- a walk's hops left, one less
next_fits : {t : ℕ} → t < 65536 → next t < 65536
unfolding next
next_fits h = omega arith

-- at most a quarter more than an hour
delay_fits : (interval d : ℕ) → interval ≤ 3600000 → d < draws_end → delay interval d < peers_end
unfolding delay
delay_fits interval d h w =
    let most : 6442450944 + d ≤ 10737418240 = omega arith in
    omega (arith, mul-le-mul h most)

-- where p is a neighbour, and only there, its loss may evict one
where_active : {ds : List ℕ} (test : Bool) (fs : List ℕ) {x y : Run} → Formed ds (choose test fs []) x → Formed ds [] y → Formed ds (choose test fs []) (choose test x y)
unfolding choose
where_active true fs f g = f
where_active false fs f g = g

module _ {ds es : List ℕ} where
  -- messages received
  formed_drop_join : (p : ℕ) {r : Run} → Formed ds es r → Formed ds es (on (M.drop_join p) r)
  unfolding M.drop_join
  formed_drop_join p k = alter (M.drop_join p) (λ w. change w N.joins _ (all_keys_cut Peer p _ (at w N.joins))) k

  formed_drop_request : (p : ℕ) {r : Run} → Formed ds es r → Formed ds es (on (M.drop_request p) r)
  unfolding M.drop_request
  formed_drop_request p k = alter (M.drop_request p) (λ w. change w N.requests _ (all_keys_cut Peer p _ (at w N.requests))) k

  formed_drop_pending : (p : ℕ) {r : Run} → Formed ds es r → Formed ds es (M.drop_pending p r)
  unfolding M.drop_pending
  formed_drop_pending p k = formed_drop_request p (formed_drop_join p k)

module _ {ds : List ℕ} where
  pub formed_on_join : (p : ℕ) (d : Data) {r : Run} → Peer p → HeldData (bytes_of d) → Formed ds [] r → Formed ds (by_entering p d true (M.drop_pending p r)) (M.on_join p d r)
  unfolding M.on_join M.forward_joins M.forward_join_to
  formed_on_join p d {r} l h k =
      let j = formed_add_active p d _ _ l h (formed_drop_pending p k) in
      wrote_all _ (λ q. refl) (λ q m. form_forward (R.node p d) (record { id = l; held = h }) (omega (arith, j.narrow.settings.join_walk)) m) _ (all_without Peer p _ (at j.narrow N.active)) j

  pub formed_on_forward_join : (from : ℕ) (n : Node) (ttl : ℕ) {r : Run} → Named n → ttl < 65536 → Formed ds [] r → Formed ds (by_walk n ttl r) (M.on_forward_join from n ttl r)
  unfolding M.on_forward_join M.ask_joiner M.learn_joiner M.walk_on M.forward_join_on M.forward_join_to by_walk
  formed_on_forward_join from n ttl {r} a t k =
      let j = either_way (eqb ttl r.station.config.passive_random_walk_length) (formed_add_passive _ _ a.id a.held k) k in
      either_way _ (formed_send_neighbor _ _ a.id (formed_insert_peer_info _ _ a.id a.held k))
      (either _ j (wrote _ refl (form_forward n a (next_fits t) (picked_peer _ _ (all_without Peer from _ (at j.narrow N.active)))) (drew_one_of _ j)))

  pub formed_on_shuffle : (from origin : ℕ) (ns : List Node) (ttl : ℕ) {r : Run} → Peer origin → length ns ≤ 32 → All Named ns → ttl < 65536 → Formed ds [] r → Formed ds (by_shuffle ns ttl r) (M.on_shuffle from origin ns ttl r)
  unfolding M.on_shuffle M.answer_shuffle M.forward_shuffle by_shuffle
  formed_on_shuffle from origin ns ttl l n a t k =
      either_way _ (formed_send_shuffle_reply _ _ l n (formed_add_nodes ns a k))
      (either _ k (wrote _ refl (form_shuffle ns (picked_peer _ _ (all_without_all Peer _ _ (at k.narrow N.active))) l (next_fits t) n a) (drew_one_of _ k)))

  pub formed_on_shuffle_reply : (from : ℕ) (ns : List Node) {r : Run} → All Named ns → Formed ds [] r → Formed ds (by_nodes ns r) (M.on_shuffle_reply from ns r)
  unfolding M.on_shuffle_reply M.after_reply M.refill_with
  formed_on_shuffle_reply from ns {r} a k =
      let j : Formed ds (by_nodes ns r) (P.add_nodes ns r) = formed_add_nodes ns a k in
      either _ j (either _ (formed_start_refill _ _ j) (formed_refill _ j))

  pub formed_on_neighbor : (p : ℕ) (d : Data) (high : Bool) {r : Run} → Peer p → HeldData (bytes_of d) → Formed ds [] r → Formed ds (by_entering p d high (M.drop_pending p r)) (M.on_neighbor p d high r)
  unfolding M.on_neighbor M.answer_neighbor M.refuse_neighbor
  formed_on_neighbor p d high l h k =
      let j = formed_add_active p d high _ l h (formed_drop_pending p k) in either _ j (formed_forget p (formed_send_disconnect p _ l j))

  formed_disconnected : (p : ℕ) (alive requested : Bool) {r : Run} → Peer p → Formed ds [] r → Formed ds (by_removing p (disconnect_received alive) r) (M.disconnected p alive requested r)
  unfolding M.disconnected M.disconnect_other M.mark_passive M.note_refusal M.note_refused M.add_refused M.left_topic by_removing
  formed_disconnected p alive requested {r} l k =
      let j : Formed ds [] (M.note_refusal p requested r) = either _ (claim seven _ (M.add_refused p) (λ z e w. change w N.refused _ (all_insert Peer p _ l (at w N.refused))) k) k in
      let g : Formed ds [] (P.drop_passive p r) = formed_drop_passive p k in
      where_active (in_active p r.station) _ (formed_remove_active p (disconnect_received alive) k)
      (either alive (either _ (alter (A.mark_alive p) (mark_alive_narrow p _ l) j) j) (either _ (formed_refill _ g) g))

  pub formed_on_disconnect : (p : ℕ) (alive : Bool) {r : Run} → Peer p → Formed ds [] r → Formed ds (by_disconnect p alive r) (M.on_disconnect p alive r)
  unfolding M.on_disconnect M.forget_recent M.drop_recent by_disconnect
  formed_on_disconnect p alive {r} l k =
      let j : Formed ds [] (on (M.drop_join p) r) = formed_drop_join p k in
      formed_disconnected p alive _ l (formed_drop_request p (either _ j (alter (M.drop_recent p) (λ w. change w N.recent _ (all_without Peer p _ (at w N.recent))) j)))

  pub formed_closed : (p : ℕ) {r : Run} → Formed ds [] r → Formed ds (by_removing p connection_closed (on (M.drop_request p) r)) (E.handle_connection_closed p r)
  unfolding E.handle_connection_closed E.lose E.lose_other E.lose_passive E.drop_dead by_removing
  formed_closed p {r} k =
      let j = formed_drop_request p k in
      let g = either _ (alter (P.drop_mark p) (drop_mark_narrow p _) j) (alter (E.drop_dead p) (λ w. drop_data_narrow p _ (remove_passive_narrow p _ w)) j) in
      where_active (in_active p (on (M.drop_request p) r).station) _ (formed_remove_active p connection_closed j) (either _ (formed_refill _ g) g)

module _ {ds es : List ℕ} where
  -- from the station's own side
  formed_push_bootstrap : (p : ℕ) {r : Run} → Peer p → Formed ds es r → Formed ds es (on (E.push_bootstrap p) r)
  unfolding E.push_bootstrap E.drop_oldest_join
  formed_push_bootstrap p {r} l k =
      alter (E.push_bootstrap p) (λ w.
      change (change w N.joins _ (by_choice (λ (m : List (ℕ × ℕ)). Peers (keys m)) (E.must_drop_oldest p r.station) (λ e. all_keys_cut Peer (E.oldest p r.station) r.station.joins (at w N.joins)) (λ e. at w N.joins)))
      N.bootstrap _ (all_renew Peer 8 p _ l (at w N.bootstrap))) k

  formed_open_join : (p : ℕ) {r : Run} → Peer p → Formed ds es r → Formed ds es (E.open_join p r)
  unfolding E.open_join E.note_join E.join_counts
  formed_open_join p {r} l k =
      claim ten _ (E.note_join p) (λ z e w. change_next_join (change w N.joins _ (all_keys_put Peer p _ _ l (at w N.joins))) (omega (arith, ltb-true r.station.next_join top_counter e))) k

  pub formed_handle_join : (p : ℕ) {r : Run} → Peer p → Formed ds es r → Formed ds es (E.handle_join p r)
  unfolding E.handle_join E.join_new E.join_other E.await_join
  formed_handle_join p l k =
      let j = formed_push_bootstrap p l k in
      let i = formed_join p l j in
      either _ j (either _ i (wrote _ refl (form_retry_timer l (omega arith) i.narrow.joins_top) (formed_open_join p l i)))

  pub formed_update : (d : Data) {r : Run} → HeldData (bytes_of d) → Formed ds es r → Formed ds es (on (E.update_own_data d) r)
  unfolding E.update_own_data
  formed_update d h k = alter (E.update_own_data d) (λ w. change_own w h) k

  pub formed_pin : (p : ℕ) {r : Run} → Peer p → Formed ds es r → Formed ds es (E.handle_pin p r)
  unfolding E.handle_pin E.require_neighbor E.pin_neighbor E.note_pin
  formed_pin p l k = alter (E.note_pin p) (λ w. change w N.pins _ (all_insert Peer p _ l (at w N.pins))) (asked 18 _ (asked 17 _ k))

  formed_quit_all : (ps : List ℕ) {r : Run} → Peers ps → Formed ds es r → Formed ds es (E.quit_all ps r)
  unfolding E.quit_all E.quit_one E.remove_neighbor A.leave_active All
  formed_quit_all [] a k = k
  formed_quit_all (p ∷ ps) a k =
      formed_quit_all ps a.1 (formed_send_disconnect p _ a.0 (alter (E.remove_neighbor p) (λ w. change (change w N.pins _ (all_without Peer p _ (at w N.pins))) N.active _ (all_remove Peer no_peer p _ (at w N.active))) k))

  pub formed_quit : {r : Run} → Formed ds es r → Formed ds es (E.handle_quit r)
  unfolding E.handle_quit E.clear_all keys Each
  formed_quit {r} k =
      alter E.clear_all (λ w. change_held (change (change (change (change (change w N.refused _ no_peers) N.alive _ no_peers) N.peer_data _ no_peers) N.passive _ no_peers) N.requests _ no_peers) tt)
      (formed_quit_all r.station.active (at k.narrow N.active) k)

  -- timers
  pub formed_neighbor_timer : (p id : ℕ) {r : Run} → Formed ds es r → Formed ds es (T.handle_pending_neighbor_timer p id r)
  unfolding T.handle_pending_neighbor_timer T.request_failed
  formed_neighbor_timer p id k = either _ (formed_refill _ (formed_drop_passive p (formed_drop_request p k))) k

  pub formed_retry_join : (p id : ℕ) {r : Run} → Peer p → Formed ds es r → Formed ds es (T.retry_join p id r)
  unfolding T.retry_join
  formed_retry_join p id l k = either _ (formed_join p l (formed_drop_join p k)) k

  pub formed_schedule_shuffle : {r : Run} → Formed ds es r → Formed ds es (T.schedule_shuffle r)
  unfolding T.schedule_shuffle T.double_interval R.drawn
  formed_schedule_shuffle {r} k =
      let c = k.narrow.settings in
      wrote_if _ refl (λ d. form_shuffle_timer (delay_fits _ _ (omega (arith, k.narrow.pace, c.short_time)) (rw k.lent (all_get (λ x. x < draws_end) ds r.used 0 (omega arith) d))))
      (drew 1 (alter T.double_interval (λ w. change_pace w (omega arith)) k))

  pub formed_schedule_maintenance : {r : Run} → Formed ds es r → Formed ds es (T.schedule_maintenance r)
  unfolding T.schedule_maintenance
  formed_schedule_maintenance k = wrote _ refl (form_maintenance_timer (omega arith)) k

  -- a Shuffle of at most 31 peers and the station itself
  formed_send_shuffle : (to : ℕ) (ps : List ℕ) {r : Run} → Peer to → length ps ≤ 31 → Peers ps → Formed ds es r → Formed ds es (T.send_shuffle to ps r)
  unfolding T.send_shuffle T.shuffle_nodes All
  formed_send_shuffle to ps {r} l n a k =
      let s = r.station in
      let self : Peer s.me = (at k.narrow N.me).0 in
      let last : All Named (R.node s.me s.own_data ∷ []) = (record { id = self; held = k.narrow.mine }, tt) in
      wrote _ refl (form_shuffle _ l self (omega (arith, k.narrow.settings.shuffle_walk)) (omega (arith, n, length_infos s ps, length-append (R.peer_infos s ps) (R.node s.me s.own_data ∷ [])))
      (all_append Named (R.peer_infos s ps) (R.node s.me s.own_data ∷ []) (named_infos s ps k.narrow.held a) last)) k

  formed_shuffle_with : (to : ℕ) {r : Run} → Peer to → Formed ds es r → Formed ds es (T.shuffle_with to r)
  unfolding T.shuffle_with T.shuffle_passive T.active_sample T.passive_sample
  formed_shuffle_with to {r} l k =
      let w = R.draw_shuffle (without to r.station.active) r in
      let j : Formed ds es w = drew_shuffle _ k in
      let xs = R.shuffled (without to r.station.active) r in
      let ys = R.shuffled (without to w.station.passive) w in
      let a = r.station.config.shuffle_active_view_count in
      let b = w.station.config.shuffle_passive_view_count in
      formed_send_shuffle to (take a xs ++ take b ys) l
      (omega (arith, k.narrow.settings.few_active, j.narrow.settings.few_passive, length-append (take a xs) (take b ys), length_cut_to a xs, length_cut_to b ys))
      (all_append Peer _ _ (all_take Peer a xs (shuffled_peers _ r (all_without Peer to _ (at k.narrow N.active)))) (all_take Peer b ys (shuffled_peers _ w (all_without Peer to _ (at j.narrow N.passive)))))
      (drew_shuffle _ j)

  pub formed_shuffle_timer : {r : Run} → Formed ds es r → Formed ds es (T.handle_shuffle_timer r)
  unfolding T.handle_shuffle_timer T.shuffle_any
  formed_shuffle_timer {r} k =
      formed_schedule_shuffle (either _ k (formed_shuffle_with _ (picked_peer r.station.active r (at k.narrow N.active)) (drew_one_of _ k)))

  formed_rejoin : {r : Run} → Formed ds es r → Formed ds es (T.rejoin r)
  unfolding T.rejoin T.rejoin_recent T.rejoin_bootstrap T.other_recent S.join_to
  formed_rejoin {r} k =
      let j : Formed ds es (T.rejoin_bootstrap r) = wrote_all (S.join_to r.station.own_data) (λ p. refl) (λ p l. form_join _ k.narrow.mine l) r.station.bootstrap (at k.narrow N.bootstrap) k in
      either _ j (formed_join _ (picked_peer _ _ (all_without_all Peer _ _ (at k.narrow N.recent))) (drew_one_of _ j))

  formed_pass_alone : {r : Run} → Formed ds es r → Formed ds es (T.pass_alone r)
  unfolding T.pass_alone T.rejoin_if_due T.count_alone T.add_alone
  formed_pass_alone k = let j = claim ten _ T.add_alone (λ z e w. w) k in either _ (formed_rejoin j) j

  formed_pass_short : {r : Run} → Formed ds es r → Formed ds es (T.pass_short r)
  unfolding T.pass_short T.refill_if_due T.refill_anew T.count_short T.add_short
  formed_pass_short k =
      let j = claim ten _ T.add_short (λ z e w. w) k in either _ k (either _ (formed_start_refill _ _ (formed_clear_refused j)) j)

  pub formed_maintenance_timer : {r : Run} → Formed ds es r → Formed ds es (T.handle_maintenance_timer r)
  unfolding T.handle_maintenance_timer T.maintain T.remember_all T.pass_known T.pass_neighbors T.not_alone F.end_recovery
  formed_maintenance_timer k =
      let j = alter T.remember_all (λ w. change w N.recent _ (all_renew_all Peer _ _ (at w N.active) (at w N.recent))) k in
      let g = alter T.not_alone (λ w. w) j in
      formed_schedule_maintenance (either _ (formed_pass_alone j) (either _ (formed_start_refill _ _ g) (either _ (formed_pass_short g) (formed_clear_refused g))))
