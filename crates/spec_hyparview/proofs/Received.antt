-- Each message received keeps what holds between events, within its number of messages.
-- Assumes nothing.
use mathlib.Core.Path.{◌≡◌, refl, ap}
use mathlib.Core.Bool.{Bool, true}
use mathlib.Core.List.{List, [], ◌∷◌}
use Prim.Native.Nat.{ℕ, ◌+◌, ◌-◌, ◌*◌, ◌≤◌, ◌<◌}
use native.Mathlib.Omega.{arith}
use lib.ListN.{length}
use Rattle.record.specs.Kinds.{Message, kind_byte}
use Rattle.base_lists.specs.Lists.{count, mem, without}
use Rattle.base_lists.proofs.Choice.{split}
use Rattle.base_lists.proofs.Count.{is_self, is_le, mem_true, length_without, length_without_all}
use Rattle.base_timing.specs.declared.Config.{Config}
use Rattle.base_peer.specs.Data.{Data, Node}
use Rattle.record.specs.Format.{Rec, size}
use Rattle.spec_hyparview.specs.Station.{requests_left, in_passive, peers_end}
use Rattle.spec_hyparview.specs.Run.{Run, on, emit_all}
use Rattle.spec_hyparview.specs.Budgets.{single, crowd, adding, asking, removing, admitting}
use Rattle.spec_hyparview.specs.Peers as P
use Rattle.spec_hyparview.specs.Active as A
use Rattle.spec_hyparview.specs.Active.{disconnect_received}
use Rattle.spec_hyparview.specs.Messages as M
use Rattle.base_lists.proofs.Members.{count_cut}
use Rattle.spec_hyparview.proofs.Law.{Short, Small, ShortNodes, law_joins, law_requests, law_refused, law_recent}
use Rattle.spec_hyparview.proofs.Changes.{cut_numbered, cut_request, add_refusal, without_recent}
use Rattle.spec_hyparview.proofs.Invariant.{Fixed, Terms, busy, calm, Ok, with_inside}
use Rattle.spec_hyparview.proofs.Keeping.{seven, ease, ok_if, ok_either, ok_on, ok_shift, ok_claim, ok_one_of, ok_message, emit_fine}
use Rattle.spec_hyparview.proofs.Sends.{one_node, many_nodes, ok_insert_peer_info, ok_send_neighbor, ok_send_shuffle_reply, ok_send_disconnect, ok_refill, ok_start_refill}
use Rattle.spec_hyparview.proofs.Passive.{ok_forget_any, ok_mark_alive, ok_add_passive, ok_add_nodes, ok_drop_passive}
use Rattle.spec_hyparview.proofs.Leaving.{ok_remove_active}
use Rattle.spec_hyparview.proofs.Entering.{arrived, settled, unbar, ok_add_active, ok_add_active_not}

-- a message of at most n bytes to each of the peers
pub ok_emit_all : {q : Fixed} {t : Terms} {m b d : ℕ} (f : ℕ → Rec) → ((p : ℕ) → (f p).kind ≡ kind_byte Message) → (ps : List ℕ) {r : Run} → (r.code ≡ 0 → (p : ℕ) → size (f p) ≤ single) → Ok q t (m + length ps) (b + single * length ps) d r → Ok q t m b d (emit_all f ps r)
unfolding emit_all
ok_emit_all f z [] s k = ease (omega arith) (omega arith) (omega arith) k
ok_emit_all f z (p ∷ ps) {r} s k =
    ok_emit_all f z ps (λ y. s (emit_fine (f p) r y)) (ok_message (f p) single (z p) (λ y o g w. s y p) (ease (omega arith) (omega arith) (omega arith) k))

module _ {q : Fixed} {m b d : ℕ} where
  pub ok_drop_join : (p : ℕ) {r : Run} → Ok q calm m b d r → Ok q (busy [] (p ∷ []) [] 0 0) m b d (on (M.drop_join p) r)
  unfolding M.drop_join count
  ok_drop_join p {r} k =
      ok_on _ (λ o h. record {
        still = h.still;
        seats = h.seats;
        waits = record {
          barring = λ x. omega (arith, h.waits.barring x, is_le x p, count_cut x p r.station.joins (omega (arith, h.waits.apart x)));
          apart = λ x. omega (arith, h.waits.apart x, count_cut x p r.station.joins (omega (arith, h.waits.apart x)));
          known = λ x. omega (arith, h.waits.known x, count_cut x p r.station.joins (omega (arith, h.waits.apart x)));
          boots = h.waits.boots;
          few = h.waits.few;
          rooting = h.waits.rooting;
        };
        tally = h.tally;
      })
      (λ w. law_joins w (cut_numbered p w.joins_ok)) k

module _ {q : Fixed} {t : Terms} {m b d : ℕ} where
  pub ok_drop_request : (p : ℕ) {r : Run} → Ok q t m b d r → Ok q t m b d (on (M.drop_request p) r)
  unfolding M.drop_request
  ok_drop_request p k = ok_on _ (λ o h. h) (λ w. law_requests w (cut_request p w.requests_ok)) k

module _ {q : Fixed} where
  pub ok_drop_pending : {m b d : ℕ} (p : ℕ) {r : Run} → Ok q calm m b d r → Ok q (busy [] (p ∷ []) [] 0 0) m b d (M.drop_pending p r)
  unfolding M.drop_pending
  ok_drop_pending p k = ok_drop_request p (ok_drop_join p k)

  -- on_join: A + 2
  pub ok_forward_new : {b d : ℕ} (p : ℕ) (x : Data) {r : Run} → Short x → 1 ≤ q.config_of.active_view_capacity → Ok q (arrived p) (q.config_of.active_view_capacity - 1) (b + 8 * single) d r → Ok q calm 0 b d (M.forward_joins p x r)
  unfolding M.forward_joins M.forward_join_to count
  ok_forward_new p x {r} l a k =
      ok_emit_all _ (λ y. refl) (without p r.station.active) (λ z y. one_node _ _ refl l)
      (ok_shift (λ o h. let n = length_without p r.station.active in let c = ap (λ (w : Config). w.active_view_capacity) h.still.fixed in (
        record {
          still = h.still;
          seats = with_inside h.seats (λ x. omega arith);
          waits = h.waits;
          tally = record {
            noted = h.tally.noted;
            bound = omega (arith, h.tally.bound, n, h.seats.within p, is_self p, h.seats.slots_left, c);
          };
        },
        omega (arith, n, h.seats.slots_left, h.still.ranges.few_slots),
      )) k)

  pub ok_forward_self : {b d : ℕ} (p : ℕ) (x : Data) {r : Run} → Short x → Ok q calm q.config_of.active_view_capacity (b + 8 * single) d r → Ok q calm 0 b d (M.forward_joins p x r)
  unfolding M.forward_joins M.forward_join_to
  ok_forward_self p x {r} l k =
      ok_emit_all _ (λ y. refl) (without p r.station.active) (λ z y. one_node _ _ refl l)
      (ok_shift (λ o h. let n = length_without p r.station.active in let c = ap (λ (w : Config). w.active_view_capacity) h.still.fixed in (
        record {
          still = h.still;
          seats = h.seats;
          waits = h.waits;
          tally = record { noted = h.tally.noted; bound = omega (arith, h.tally.bound, n, h.seats.slots_left, c) };
        },
        omega (arith, n, h.seats.slots_left, h.still.ranges.few_slots),
      )) k)

  pub ok_on_join : {b d : ℕ} (p : ℕ) → p < peers_end → (x : Data) → Short x → {r : Run} → 1 ≤ q.config_of.active_view_capacity → Ok q calm (q.config_of.active_view_capacity + 2) (b + (admitting + 8 * single)) (d + 40) r → Ok q calm 0 b d (M.on_join p x r)
  unfolding M.on_join
  ok_on_join {b} {d} p pn x l {r} a k =
      let j : Ok q (busy [] (p ∷ []) [] 0 0) (q.config_of.active_view_capacity + 2) (b + (admitting + 8 * single)) (d + 40) (M.drop_pending p r) = ok_drop_pending p k in
      split (A.accepts p true (M.drop_pending p r).station)
      (λ e. ok_forward_new p x l a (ok_add_active p pn x l true true e (ease (omega arith) (omega arith) (omega arith) j)))
      (λ e. ok_forward_self p x l (ok_add_active_not p x l true true e (ease (omega arith) (omega arith) (omega arith) j)))

  -- on_forward_join: 1
  pub ok_learn : {b d : ℕ} (n : Node) (ttl : ℕ) {r : Run} → Short n.data_of → Ok q calm 1 (b + adding) (d + 1) r → Ok q calm 1 b d (M.learn_joiner n ttl r)
  unfolding M.learn_joiner
  ok_learn n ttl l k = ok_either _ (ok_add_passive _ _ (λ z. l) k) (ease (omega arith) (omega arith) (omega arith) k)

  pub ok_on_forward_join : {b d : ℕ} (from : ℕ) (n : Node) (ttl : ℕ) {r : Run} → Short n.data_of → Ok q calm 1 (b + (single + asking)) (d + 2) r → Ok q calm 0 b d (M.on_forward_join from n ttl r)
  unfolding M.on_forward_join M.ask_joiner M.walk_on M.forward_join_on M.forward_join_to
  ok_on_forward_join {b} {d} from n ttl {r} l k =
      let j : Ok q calm 1 (b + single) (d + 1) (M.learn_joiner n ttl r) = ok_learn n ttl l (ease (omega arith) (omega arith) (omega arith) k) in
      ok_either _ (ok_send_neighbor _ _ (ok_insert_peer_info _ _ (λ z. l) (ease (omega arith) (omega arith) (omega arith) k)))
      (ok_either _ (ease (omega arith) (omega arith) (omega arith) j) (ok_message _ single refl (λ z o g w. one_node _ _ refl l) (ok_one_of _ (λ o g w. omega (arith, length_without from (M.learn_joiner n ttl r).station.active, g.seats.slots_left, g.still.ranges.few_slots)) (ease (omega arith) (omega arith) (omega arith) j))))

  -- on_shuffle: 1
  pub ok_on_shuffle : {b d : ℕ} (from origin : ℕ) (ns : List Node) (ttl : ℕ) {r : Run} → ShortNodes ns → length ns ≤ 32 → Ok q calm 1 (b + (crowd + 32 * adding)) (d + (38 + length ns)) r → Ok q calm 0 b d (M.on_shuffle from origin ns ttl r)
  unfolding M.on_shuffle M.answer_shuffle M.forward_shuffle
  ok_on_shuffle from origin ns ttl {r} sn l k =
      ok_either _ (ok_send_shuffle_reply _ _ (λ z. l) (ok_add_nodes ns sn (ease (omega arith) (omega arith) (omega arith) k)))
      (ok_either _ (ease (omega arith) (omega arith) (omega arith) k)
      (ok_message _ crowd refl (λ z o g w. many_nodes _ _ refl sn l) (ok_one_of _ (λ o g w. omega (arith, length_without_all (origin ∷ from ∷ []) r.station.active, g.seats.slots_left, g.still.ranges.few_slots)) (ease (omega arith) (omega arith) (omega arith) k))))

  -- on_shuffle_reply: 1
  pub ok_on_shuffle_reply : {b d : ℕ} (from : ℕ) (ns : List Node) {r : Run} → ShortNodes ns → length ns ≤ 32 → Ok q calm 1 (b + (32 * adding + asking)) (d + (1 + length ns)) r → Ok q calm 0 b d (M.on_shuffle_reply from ns r)
  unfolding M.on_shuffle_reply M.after_reply M.refill_with Small
  ok_on_shuffle_reply {b} {d} from ns {r} sn l k =
      let j : Ok q calm 1 (b + asking) (d + 1) (P.add_nodes ns r) = ok_add_nodes ns sn (ease (omega arith) (omega arith) (omega arith) k) in
      ok_either _ (ease (omega arith) (omega arith) (omega arith) j)
      (ok_either _ (ok_start_refill (requests_left 3) _ (omega arith) (ease (omega arith) (omega arith) (omega arith) j)) (ok_refill _ (ease (omega arith) (omega arith) (omega arith) j)))

  -- on_neighbor: 3
  pub ok_on_neighbor : {b d : ℕ} (p : ℕ) → p < peers_end → (x : Data) → Short x → (high : Bool) {r : Run} → Ok q calm 3 (b + admitting) (d + 40) r → Ok q calm 0 b d (M.on_neighbor p x high r)
  unfolding M.on_neighbor M.answer_neighbor M.refuse_neighbor
  ok_on_neighbor {b} {d} p pn x l high {r} k =
      let j : Ok q (busy [] (p ∷ []) [] 0 0) 3 (b + admitting) (d + 40) (M.drop_pending p r) = ok_drop_pending p k in
      ok_if _
      (λ e. settled (ok_add_active p pn x l high _ e (ease (omega arith) (omega arith) (omega arith) j)))
      (λ e. ok_forget_any p (ok_send_disconnect p true (ok_add_active_not p x l high _ e (ease (omega arith) (omega arith) (omega arith) j))))

  -- on_disconnect: 1
  pub ok_note_refusal : {m b d : ℕ} (p : ℕ) (requested : Bool) {r : Run} → Ok q calm m b d r → Ok q calm m b d (M.note_refusal p requested r)
  unfolding M.note_refusal M.note_refused M.refused_fits M.add_refused
  ok_note_refusal p requested k = ok_either _ (ok_claim seven _ (M.add_refused p) (λ z e o g w. (g, law_refused w (add_refusal p e w.refused_ok))) k) k

  pub ok_mark_passive : {m b d : ℕ} (p : ℕ) {r : Run} → Ok q calm m b d r → Ok q calm m b d (M.mark_passive p r)
  unfolding M.mark_passive in_passive
  ok_mark_passive p {r} k = ok_if (mem p r.station.passive) (λ e. ok_mark_alive p (λ z. mem_true p r.station.passive e) k) (λ e. k)

  pub ok_left_topic : {b d : ℕ} (p : ℕ) (requested : Bool) {r : Run} → Ok q calm 1 (b + asking) (d + 1) r → Ok q calm 0 b d (M.left_topic p requested r)
  unfolding M.left_topic
  ok_left_topic p requested k =
      ok_either _ (ok_refill _ (ok_drop_passive p (ease (omega arith) (omega arith) (omega arith) k))) (ok_drop_passive p (ease (omega arith) (omega arith) (omega arith) k))

  pub ok_disconnected : {b d : ℕ} (p : ℕ) (alive requested : Bool) {r : Run} → Ok q calm 1 (b + removing) (d + 2) r → Ok q calm 0 b d (M.disconnected p alive requested r)
  unfolding M.disconnected M.disconnect_other
  ok_disconnected p alive requested k =
      ok_either _ (ok_remove_active p (disconnect_received alive) (λ e. let z : ◌≡◌ {A = ℕ} 0 1 = cc in absurd (omega arith)) (ease (omega arith) (omega arith) (omega arith) k))
      (ok_either alive (ok_mark_passive p (ok_note_refusal p requested (ease (omega arith) (omega arith) (omega arith) k))) (ok_left_topic p requested (ease (omega arith) (omega arith) (omega arith) k)))

  pub ok_forget_recent : {m b d : ℕ} (p : ℕ) (alive : Bool) {r : Run} → Ok q calm m b d r → Ok q calm m b d (M.forget_recent p alive r)
  unfolding M.forget_recent M.drop_recent
  ok_forget_recent p alive k = ok_either alive k (ok_on _ (λ o h. h) (λ w. law_recent w (without_recent p w.recent_ok)) k)

  pub ok_on_disconnect : {b d : ℕ} (p : ℕ) (alive : Bool) {r : Run} → Ok q calm 1 (b + removing) (d + 2) r → Ok q calm 0 b d (M.on_disconnect p alive r)
  unfolding M.on_disconnect
  ok_on_disconnect p alive k = ok_disconnected p alive _ (ok_drop_request p (ok_forget_recent p alive (unbar (ok_drop_join p k))))
