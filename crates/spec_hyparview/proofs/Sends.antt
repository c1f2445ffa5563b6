-- Steps that leave the views as they are, whatever else is half done: data, messages sent, refills. Each names what it may spend.
-- Assumes nothing.
use mathlib.Core.Path.{◌≡◌, refl, sym, ap, subst, ◌∙◌}
use mathlib.Core.Bool.{Bool, true, false}
use mathlib.Core.List.{List, [], ◌∷◌, ◌++◌}
use mathlib.Core.Option.{none, some}
use Prim.Native.Nat.{ℕ, ◌+◌, ◌-◌, ◌≤◌, ◌<◌}
use native.Mathlib.Omega.{arith}
use lib.ListN.{length, take, length-append}
use lib.Dec.{ltb, eqb}
use Rattle.base_lists.specs.Lists.{null}
use Rattle.base_lists.proofs.Choice.{by_choice, or_left}
use Rattle.base_lists.proofs.Count.{length_without_all}
use Rattle.base_util.proofs.Chances.{shuffle_costs}
use Rattle.base_peer.specs.Data.{Data, Node}
use Rattle.record.specs.Format.{Rec, size}
use Rattle.spec_hyparview.specs.Station.{Station, Refill, is_me, top_counter}
use Rattle.spec_hyparview.specs.Setters.{set_refill}
use Rattle.spec_hyparview.specs.Run as R
use Rattle.spec_hyparview.specs.Run.{Run, on, require}
use Rattle.spec_hyparview.specs.Budgets.{bare, single, crowd, asking, disconnecting}
use Rattle.spec_hyparview.specs.Peers as P
use Rattle.spec_hyparview.specs.Sending as S
use Rattle.spec_hyparview.specs.Refill as F
use Rattle.base_lists.proofs.Members.{length_cut_to}
use Rattle.spec_hyparview.proofs.Law.{Lawful, Short, Small, ShortNodes, law_held, law_requests, law_fill}
use Rattle.spec_hyparview.proofs.Changes.{put_held, put_request, small_less, small_or}
use Rattle.spec_hyparview.proofs.Told.{size_short, short_infos, length_infos}
use Rattle.spec_hyparview.proofs.Invariant.{Fixed, Terms, Good, Ok}
use Rattle.spec_hyparview.proofs.Keeping.{six, eight, ten, ease, ok_if, ok_either, ok_on, ok_claim, ok_require, require_fine, ok_draw, ok_one_of, ok_message, ok_quiet, ok_fact, emit_station, emit_fine, draw_station, draw_fine}

-- sizes
pub one_node : (e : Rec) (n : Node) → e.nodes ≡ n ∷ [] → Short n.data_of → size e ≤ single
unfolding ShortNodes
one_node e n z h = omega (arith, size_short e (subst ShortNodes (sym z) (h, tt)), ap length z)

pub no_node : (e : Rec) → e.nodes ≡ [] → size e ≤ bare
unfolding ShortNodes
no_node e z = omega (arith, size_short e (subst ShortNodes (sym z) tt), ap length z)

pub many_nodes : (e : Rec) (ns : List Node) → e.nodes ≡ ns → ShortNodes ns → length ns ≤ 32 → size e ≤ crowd
many_nodes e ns z h l = omega (arith, size_short e (subst ShortNodes (sym z) h), ap length z)

pub announce_station : (p : ℕ) (b : List ℕ) (r : Run) → (P.announce_data p b r).station ≡ r.station
unfolding P.announce_data
announce_station p b r = by_choice (λ (v : Run). v.station ≡ r.station) (null b) (λ x. refl) (λ x. emit_station (R.data_notice p b) r)

pub announce_fine : (p : ℕ) (b : List ℕ) (r : Run) → (P.announce_data p b r).code ≡ 0 → r.code ≡ 0
unfolding P.announce_data
announce_fine p b r = by_choice (λ (v : Run). v.code ≡ 0 → r.code ≡ 0) (null b) (λ x z. z) (λ x. emit_fine (R.data_notice p b) r)

module _ {q : Fixed} {t : Terms} {m b d : ℕ} where
  pub ok_announce : (p : ℕ) (x : List ℕ) {r : Run} → (r.code ≡ 0 → length x ≤ 16) → Ok q t m (b + single) d r → Ok q t m b d (P.announce_data p x r)
  unfolding P.announce_data Short
  ok_announce p x l k =
      ok_either (null x) (ease (omega arith) (omega arith) (omega arith) k)
      (ok_quiet (R.data_notice p x) single (omega arith) (λ e. omega arith) (λ e. omega arith) (λ z w. one_node _ _ refl (l z)) k)

  pub ok_keep_data : (p : ℕ) (x : List ℕ) {r : Run} → eqb p r.station.me ≡ false → (r.code ≡ 0 → length x ≤ 16) → Ok q t m b d r → Ok q t m b d (P.keep_data p x r)
  unfolding P.keep_data P.store_data P.data_fits
  ok_keep_data p x n l k = ok_claim eight _ (P.store_data p x) (λ z e o g w. (g, law_held w (put_held p x n (l z) e w.held_ok))) k

  pub ok_insert_peer_info : (p : ℕ) (x : Data) {r : Run} → (r.code ≡ 0 → Short x) → Ok q t m (b + single) d r → Ok q t m b d (P.insert_peer_info p x r)
  unfolding P.insert_peer_info P.insert_data P.is_known is_me Short
  ok_insert_peer_info p none l k = ease (omega arith) (omega arith) (omega arith) k
  ok_insert_peer_info p (some x) {r} l k =
      ok_if _ (λ e. ease (omega arith) (omega arith) (omega arith) k)
      (λ e. ok_keep_data p x (subst (λ (s : Station). eqb p s.me ≡ false) (sym (announce_station p x r)) (or_left (eqb p r.station.me) _ e)) (λ z. l (announce_fine p x r z)) (ok_announce p x l k))

  pub ok_join : (p : ℕ) {r : Run} → Ok q t (m + 1) (b + single) d r → Ok q t m b d (S.join p r)
  unfolding S.join S.join_to
  ok_join p k = ok_message _ single refl (λ z o g w. one_node _ _ refl w.own_ok) k

  pub ok_send_nodes : (to : ℕ) (ps : List ℕ) {r : Run} → (r.code ≡ 0 → length ps ≤ 32) → Ok q t (m + 1) (b + crowd) d r → Ok q t m b d (S.send_nodes to ps r)
  unfolding S.send_nodes
  ok_send_nodes to ps {r} l k =
      ok_message _ crowd refl (λ z o g w. many_nodes _ _ refl (short_infos r.station ps w.held_ok.shorts) (omega (arith, l z, length_infos r.station ps))) k

  pub ok_draw_passive : {r : Run} → Ok q t m b (d + 31) r → Ok q t m b d (R.draw_shuffle r.station.passive r)
  unfolding R.draw_shuffle
  ok_draw_passive {r} k = ok_draw _ (λ o g w. shuffle_costs 31 (R.to_draw r) r.station.passive (omega (arith, g.seats.places_left, g.still.ranges.few_places)) (omega arith)) k

-- what is sent does not change the station
reply_station : (to len : ℕ) (ps : List ℕ) (r : Run) → (S.reply_with to len ps r).station ≡ r.station
unfolding S.reply_with S.send_filled S.send_nodes R.draw_shuffle
reply_station to len ps r = by_choice (λ (w : Run). w.station ≡ r.station) _ (λ _. emit_station _ _ ∙ draw_station _ r) (λ _. emit_station _ r)

pub disconnect_station : (p : ℕ) (alive : Bool) (r : Run) → (S.send_disconnect p alive r).station ≡ r.station
unfolding S.send_disconnect S.send_shuffle_reply R.draw_shuffle
disconnect_station p alive r = emit_station _ _ ∙ (reply_station p _ _ _ ∙ draw_station _ r)

module _ {q : Fixed} {t : Terms} {m b d : ℕ} where
  -- where as many draws suffice for a shuffle of the active view
  module _ (few : ℕ) (short : few < 32) where
    pub ok_send_shuffle_reply_with : (to len : ℕ) {r : Run} → (r.code ≡ 0 → len ≤ 32) → ((o : List Rec) → Good q t (m + 1) r.station o → length r.station.active - 1 ≤ few)
        → Ok q t (m + 1) (b + crowd) (d + (31 + few)) r → Ok q t m b d (S.send_shuffle_reply to len r)
    unfolding S.send_shuffle_reply S.reply_with S.send_filled S.fill_active R.draw_shuffle
    ok_send_shuffle_reply_with to len {r} l f k =
        let xs = R.shuffled r.station.passive r in
        let w = R.draw_shuffle r.station.passive r in
        let o : w.code ≡ 0 → r.code ≡ 0 = draw_fine _ r in
        let c : w.code ≡ 0 → length (take len xs) ≤ 32 = (λ z. omega (arith, l (o z), length_cut_to len xs)) in
        let j : Ok q t (m + 1) (b + crowd) (d + few) w = ok_draw_passive (ease (omega arith) (omega arith) (omega arith) k) in
        let g : (o : List Rec) → Good q t (m + 1) w.station o → length w.station.active - 1 ≤ few =
        subst (λ (s : Station). (o : List Rec) → Good q t (m + 1) s o → length s.active - 1 ≤ few) (sym (draw_station _ r)) f in
        ok_either _
        (ok_send_nodes to _ (λ z. omega (arith, l (o (draw_fine _ w z)), filled (take len xs) (R.shuffled w.station.active w) (length_cut_to len xs)))
        (ok_draw _ (λ o h _. shuffle_costs few (R.to_draw w) w.station.active (g o h) short) j))
        (ok_send_nodes to _ c (ease (omega arith) (omega arith) (omega arith) j))
      where
        filled : (ps ys : List ℕ) → length ps ≤ len → length (ps ++ take (len - length ps) ys) ≤ len
        filled ps ys h = omega (arith, length-append ps (take (len - length ps) ys), length_cut_to (len - length ps) ys)

  pub ok_send_shuffle_reply : (to len : ℕ) {r : Run} → (r.code ≡ 0 → len ≤ 32) → Ok q t (m + 1) (b + crowd) (d + 38) r → Ok q t m b d (S.send_shuffle_reply to len r)
  ok_send_shuffle_reply to len l k =
      ok_send_shuffle_reply_with 7 (omega arith) to len l (λ o g. omega (arith, g.seats.slots_left, g.still.ranges.few_slots)) (ease (omega arith) (omega arith) (omega arith) k)

module _ {q : Fixed} {t : Terms} {m b d : ℕ} where
  pub ok_send_disconnect_with : (few : ℕ) → few < 32 → (p : ℕ) (alive : Bool) {r : Run} → ((n : ℕ) (o : List Rec) → Good q t n r.station o → length r.station.active - 1 ≤ few)
      → Ok q t (m + 2) (b + disconnecting) (d + (31 + few)) r → Ok q t m b d (S.send_disconnect p alive r)
  unfolding S.send_disconnect S.reply_length
  ok_send_disconnect_with few short p alive {r} f k =
      ok_message _ bare refl (λ z o g w. no_node _ refl)
      (ok_send_shuffle_reply_with few short p _ (ok_fact (λ o g w. omega (arith, g.still.ranges.few_active, g.still.ranges.few_passive)) k) (λ o g. f _ o g) (ease (omega arith) (omega arith) (omega arith) k))

  pub ok_send_disconnect : (p : ℕ) (alive : Bool) {r : Run} → Ok q t (m + 2) (b + disconnecting) (d + 38) r → Ok q t m b d (S.send_disconnect p alive r)
  ok_send_disconnect p alive k =
      ok_send_disconnect_with 7 (omega arith) p alive (λ n o g. omega (arith, g.seats.slots_left, g.still.ranges.few_slots)) (ease (omega arith) (omega arith) (omega arith) k)

  pub ok_tell_request : (p : ℕ) (high : Bool) (id : ℕ) {r : Run} → Ok q t (m + 1) (b + asking) d r → Ok q t m b d (S.tell_request p high id r)
  unfolding S.tell_request S.neighbor_to
  ok_tell_request p high id k =
      ok_quiet _ bare (omega arith) (λ e. omega arith) (λ e. omega arith) (λ z w. no_node _ refl)
      (ok_message _ single refl (λ z o g w. one_node _ _ refl w.own_ok) (ease (omega arith) (omega arith) (omega arith) k))

  pub ok_open_request : (p : ℕ) {r : Run} → Ok q t m b d r → Ok q t m b d (S.open_request p (S.count_request r))
  unfolding S.open_request S.count_request S.request_fits S.note_request S.request_counts
  ok_open_request p {r} k =
      let test = ltb r.station.next_request top_counter in
      let counts : (require 10 test r).code ≡ 0 → ltb (require 10 test r).station.next_request top_counter ≡ true =
      (λ z. let e = require_fine ten test r z in subst (λ (w : Run). ltb w.station.next_request top_counter ≡ true) (sym e.0) e.1) in
      ok_claim six _ (S.note_request p) (λ z e o g w. (g, law_requests w (put_request p e (counts z) w.requests_ok))) (ok_require ten _ k)

module _ {q : Fixed} {t : Terms} {m b d : ℕ} where
  pub ok_send_neighbor : (p : ℕ) (high : Bool) {r : Run} → Ok q t (m + 1) (b + asking) d r → Ok q t m b d (S.send_neighbor p high r)
  unfolding S.send_neighbor
  ok_send_neighbor p high k =
      ok_either _ (ease (omega arith) (omega arith) (omega arith) k) (ok_tell_request p high _ (ok_open_request p k))

  pub ok_reply_neighbor : (reply : Bool) (p : ℕ) (high : Bool) {r : Run} → Ok q t (m + 1) (b + asking) d r → Ok q t m b d (S.reply_neighbor reply p high r)
  unfolding S.reply_neighbor
  ok_reply_neighbor reply p high k = ok_either _ (ok_send_neighbor p high k) (ease (omega arith) (omega arith) (omega arith) k)

  -- a change of the refill limit
  pub ok_limit : (g : Station → Refill) {r : Run} → (Lawful r.station → Small (g r.station)) → Ok q t m b d r → Ok q t m b d (on (λ s. set_refill (g s) s) r)
  ok_limit g h k = ok_on _ (λ o c. c) (λ w. law_fill w (h w)) k

module _ {q : Fixed} {t : Terms} {m b d : ℕ} where
  pub ok_end_recovery : {r : Run} → Ok q t m b d r → Ok q t m b d (on F.end_recovery r)
  unfolding F.end_recovery Small
  ok_end_recovery {r} k = ok_limit _ (λ w. by_choice Small _ (λ e. tt) (λ e. w.fill_ok)) k

  pub ok_ask_one : (from : List ℕ) {r : Run} → ((o : List Rec) → Good q t (m + 1) r.station o → Lawful r.station → length from ≤ 32) → Ok q t (m + 1) (b + asking) (d + 1) r → Ok q t m b d (F.ask_one from r)
  unfolding F.ask_one F.ask_picked F.use_request
  ok_ask_one from few k =
      ok_either _ (ok_end_recovery (ease (omega arith) (omega arith) (omega arith) k))
      (ok_limit _ (λ w. small_less _ w.fill_ok) (ok_send_neighbor _ _ (ok_one_of _ few k)))

module _ {q : Fixed} {t : Terms} {m b d : ℕ} where
  pub ok_refill : (skip : List ℕ) {r : Run} → Ok q t (m + 1) (b + asking) (d + 1) r → Ok q t m b d (F.refill_active_from_passive skip r)
  unfolding F.refill_active_from_passive F.refill_limited F.limit_short F.candidates Small
  ok_refill skip {r} k =
      ok_either _ (ease (omega arith) (omega arith) (omega arith) k)
      (let s = (on F.limit_short r).station in
      ok_ask_one _ (λ o g w. omega (arith, length_without_all (F.skipped skip s) s.passive, g.seats.places_left, g.still.ranges.few_places)) (ok_limit _ (λ w. by_choice Small _ (λ e. omega arith) (λ e. w.fill_ok)) k))

  pub ok_start_refill : (limit : Refill) (skip : List ℕ) {r : Run} → Small limit → Ok q t (m + 1) (b + asking) (d + 1) r → Ok q t m b d (F.start_refill limit skip r)
  unfolding F.start_refill F.begin_refill
  ok_start_refill limit skip l k = ok_refill skip (ok_limit _ (λ w. small_or _ limit l) k)
