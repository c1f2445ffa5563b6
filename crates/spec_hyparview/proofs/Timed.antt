-- Each timer keeps what holds between events, within its number of messages.
-- Assumes nothing.
use mathlib.Core.Path.{◌≡◌, refl, ap, ◌∙◌}
use mathlib.Core.Bool.{false}
use mathlib.Core.List.{List, [], ◌∷◌, ◌++◌}
use Prim.Native.Nat.{ℕ, ◌+◌, ◌*◌, ◌≤◌}
use native.Mathlib.Omega.{arith}
use lib.ListN.{length, take, length-append}
use borrow.Author.Tests.{ltb-true}
use Rattle.base_lists.specs.Lists.{without}
use Rattle.base_lists.proofs.Choice.{by_choice, clash}
use Rattle.base_lists.proofs.Count.{length_without, length_without_all}
use Rattle.base_util.specs.Chances.{shuffle_draws}
use Rattle.base_util.proofs.Chances.{shuffle_costs}
use Rattle.base_peer.specs.Data.{Node}
use Rattle.record.specs.Format.{Rec}
use Rattle.spec_hyparview.specs.Station.{Station, requests_left, recovery, top_passes}
use Rattle.spec_hyparview.specs.Run as R
use Rattle.spec_hyparview.specs.Run.{Run, on, draw}
use Rattle.spec_hyparview.specs.Budgets.{bare, single, crowd, asking}
use Rattle.spec_hyparview.specs.Sending as S
use Rattle.spec_hyparview.specs.Refill as F
use Rattle.spec_hyparview.specs.Timers as T
use Rattle.base_lists.proofs.Members.{length_cut_to}
use Rattle.spec_hyparview.proofs.Law.{Short, Small, ShortNodes, law_fill, law_recent, law_pace, law_alone, law_short}
use Rattle.spec_hyparview.proofs.Changes.{renew_all_recent}
use Rattle.spec_hyparview.proofs.Told.{short_infos, length_infos}
use Rattle.spec_hyparview.proofs.Invariant.{Fixed, Terms, calm, Ok}
use Rattle.spec_hyparview.proofs.Keeping.{ten, ease, ok_either, ok_on, ok_shift, ok_fact, ok_claim, ok_draw, ok_draw_one, ok_one_of, ok_message, ok_quiet, draw_fine, emit_station}
use Rattle.spec_hyparview.proofs.Sends.{one_node, no_node, many_nodes, ok_join, ok_refill, ok_start_refill}
use Rattle.spec_hyparview.proofs.Passive.{ok_drop_passive}
use Rattle.spec_hyparview.proofs.Leaving.{ok_clear_refused}
use Rattle.spec_hyparview.proofs.Entering.{unbar}
use Rattle.spec_hyparview.proofs.Received.{ok_emit_all, ok_drop_join, ok_drop_request}

module _ {q : Fixed} where
  pub ok_neighbor_timer : {b d : ℕ} (p id : ℕ) {r : Run} → Ok q calm 1 (b + asking) (d + 1) r → Ok q calm 0 b d (T.handle_pending_neighbor_timer p id r)
  unfolding T.handle_pending_neighbor_timer T.request_failed
  ok_neighbor_timer p id k =
      ok_either _ (ok_refill _ (ok_drop_passive p (ok_drop_request p (ease (omega arith) (omega arith) (omega arith) k)))) (ease (omega arith) (omega arith) (omega arith) k)

  pub ok_retry_join : {b d : ℕ} (p id : ℕ) {r : Run} → Ok q calm 1 (b + single) d r → Ok q calm 0 b d (T.retry_join p id r)
  unfolding T.retry_join
  ok_retry_join p id k =
      ok_either _ (ok_join p (unbar (ok_drop_join p (ease (omega arith) (omega arith) (omega arith) k)))) (ease (omega arith) (omega arith) (omega arith) k)

module _ {q : Fixed} {t : Terms} {m b d : ℕ} where
  pub ok_schedule_shuffle : {r : Run} → Ok q t m (b + bare) (d + 1) r → Ok q t m b d (T.schedule_shuffle r)
  unfolding T.schedule_shuffle T.double_interval
  ok_schedule_shuffle {r} k =
      ok_quiet _ bare (omega arith) (λ e. omega arith) (λ e. omega arith) (λ z w. no_node _ refl)
      (ok_draw_one (ok_on _ (λ o h. h) (λ w. law_pace w (record { low = omega (arith, w.pace_ok.low, w.pace_ok.high); high = omega arith })) k))

  pub ok_schedule_maintenance : {r : Run} → Ok q t m (b + bare) d r → Ok q t m b d (T.schedule_maintenance r)
  unfolding T.schedule_maintenance
  ok_schedule_maintenance k = ok_quiet _ bare (omega arith) (λ e. omega arith) (λ e. omega arith) (λ z w. no_node _ refl) k

short_more : (ns : List Node) (n : Node) → ShortNodes ns → Short n.data_of → ShortNodes (ns ++ (n ∷ []))
unfolding ShortNodes
short_more [] n h l = (l, tt)
short_more (x ∷ ns) n h l = (h.0, short_more ns n h.1 l)

pub told_station : (f : ℕ → Rec) (ps : List ℕ) (r : Run) → (R.emit_all f ps r).station ≡ r.station
unfolding R.emit_all
told_station f [] r = refl
told_station f (p ∷ ps) r = told_station f ps (R.emit (f p) r) ∙ emit_station (f p) r

module _ {q : Fixed} where
  -- a Shuffle of at most 31 peers and the station itself
  pub ok_send_shuffle : {m b d : ℕ} (to : ℕ) (ps : List ℕ) {r : Run} → (r.code ≡ 0 → length ps ≤ 31) → Ok q calm (m + 1) (b + crowd) d r → Ok q calm m b d (T.send_shuffle to ps r)
  unfolding T.send_shuffle T.shuffle_nodes
  ok_send_shuffle to ps {r} l k =
      ok_message _ crowd refl (λ z o g w. many_nodes _ _ refl (short_more _ _ (short_infos r.station ps w.held_ok.shorts) w.own_ok)
      (omega (arith, l z, length_infos r.station ps, length-append (R.peer_infos r.station ps) (R.node r.station.me r.station.own_data ∷ [])))) k

  pub ok_shuffle_with : {m b d : ℕ} (to : ℕ) {r : Run} → Ok q calm (m + 1) (b + crowd) (d + 38) r → Ok q calm m b d (T.shuffle_with to r)
  unfolding T.shuffle_with T.shuffle_passive R.draw_shuffle T.active_sample T.passive_sample
  ok_shuffle_with {m} {b} {d} to {r} k =
      let w = draw (shuffle_draws (R.to_draw r) (without to r.station.active)) r in
      let j : Ok q calm (m + 1) (b + crowd) (d + 31) w =
      ok_draw {k = 7} _ (λ o g w. shuffle_costs 7 (R.to_draw r) (without to r.station.active) (omega (arith, length_without to r.station.active, g.seats.slots_left, g.still.ranges.few_slots)) (omega arith)) (ease (omega arith) (omega arith) (omega arith) k) in
      ok_send_shuffle to _ (λ z. let y = draw_fine _ w z in
      ok_fact (λ o g i. ok_fact (λ p h l. omega (
        arith,
        g.still.ranges.few_passive,
        h.still.ranges.few_active,
        length-append (take r.station.config.shuffle_active_view_count (R.shuffled (without to r.station.active) r)) (take w.station.config.shuffle_passive_view_count (R.shuffled (without to w.station.passive) w)),
        length_cut_to r.station.config.shuffle_active_view_count (R.shuffled (without to r.station.active) r),
        length_cut_to w.station.config.shuffle_passive_view_count (R.shuffled (without to w.station.passive) w),
      )) k (draw_fine _ r y)) j y)
      (ok_draw {k = 31} _ (λ o g l. shuffle_costs 31 (R.to_draw w) (without to w.station.passive) (omega (arith, length_without to w.station.passive, g.seats.places_left, g.still.ranges.few_places)) (omega arith)) j)

  -- DoShuffle: 1
  pub ok_shuffle_timer : {b d : ℕ} {r : Run} → Ok q calm 1 (b + (crowd + bare)) (d + 40) r → Ok q calm 0 b d (T.handle_shuffle_timer r)
  unfolding T.handle_shuffle_timer T.shuffle_any
  ok_shuffle_timer k =
      ok_schedule_shuffle (ok_either _ (ease (omega arith) (omega arith) (omega arith) k) (ok_shuffle_with _ (ok_one_of _ (λ o g w. omega (arith, g.seats.slots_left, g.still.ranges.few_slots)) (ease (omega arith) (omega arith) (omega arith) k))))

  -- a maintenance timer: 9
  pub ok_rejoin : {b d : ℕ} {r : Run} → Ok q calm 9 (b + 9 * single) (d + 1) r → Ok q calm 0 b d (T.rejoin r)
  unfolding T.rejoin T.rejoin_recent T.rejoin_bootstrap T.other_recent S.join_to
  ok_rejoin {b} {d} {r} k =
      let j : Ok q calm 1 (b + single) (d + 1) (T.rejoin_bootstrap r) =
      ok_emit_all _ (λ x. refl) r.station.bootstrap (λ z p. ok_fact (λ o g w. one_node (S.join_to r.station.own_data p) _ refl w.own_ok) k z)
      (ok_shift (λ o h. (
        record {
          still = h.still;
          seats = h.seats;
          waits = h.waits;
          tally = record { noted = h.tally.noted; bound = omega (arith, h.tally.bound, h.waits.few) };
        },
        omega (arith, h.waits.few),
      )) k) in
      ok_either _ (ease (omega arith) (omega arith) (omega arith) j) (ok_join _ (ok_one_of _ (λ o g w. omega (arith, length_without_all r.station.bootstrap r.station.recent, w.recent_ok.few, ap (λ (s : Station). length s.recent) (told_station (S.join_to r.station.own_data) r.station.bootstrap r))) j))

  pub ok_pass_alone : {b d : ℕ} {r : Run} → q.alone_kept ≡ false → Ok q calm 9 (b + 9 * single) (d + 1) r → Ok q calm 0 b d (T.pass_alone r)
  unfolding T.pass_alone T.rejoin_if_due T.count_alone T.alone_counts T.add_alone
  ok_pass_alone {b} {d} {r} free k =
      let j : Ok q calm 9 (b + 9 * single) (d + 1) (T.count_alone r) =
      ok_claim ten _ T.add_alone (λ z e o g w. (
        record {
          still = record {
            fixed = g.still.fixed;
            mine = g.still.mine;
            ranges = g.still.ranges;
            alone_stays = λ y. clash q.alone_kept y free;
          };
          seats = g.seats;
          waits = g.waits;
          tally = g.tally;
        },
        law_alone w (record { high = omega (arith, ltb-true r.station.passes_alone top_passes e) }),
      )) k in
      ok_either _ (ok_rejoin j) (ease (omega arith) (omega arith) (omega arith) j)

  pub ok_pass_short : {b d : ℕ} {r : Run} → Ok q calm 1 (b + asking) (d + 1) r → Ok q calm 0 b d (T.pass_short r)
  unfolding T.pass_short T.refill_if_due T.refill_anew T.count_short T.short_counts T.add_short Small
  ok_pass_short {b} {d} {r} k =
      let j : Ok q calm 1 (b + asking) (d + 1) (T.count_short r) =
      ok_claim ten _ T.add_short (λ z e o g w. (g, law_short w (record { high = omega (arith, ltb-true r.station.passes_short top_passes e) }))) k in
      ok_either _ (ease (omega arith) (omega arith) (omega arith) k)
      (ok_either _ (ok_start_refill (requests_left 3) _ (omega arith) (ok_clear_refused j)) (ease (omega arith) (omega arith) (omega arith) j))

  pub ok_pass_known : {b d : ℕ} {r : Run} → Ok q calm 1 (b + asking) (d + 1) r → Ok q calm 0 b d (T.pass_known r)
  unfolding T.pass_known T.pass_neighbors Small
  ok_pass_known k =
      ok_either _ (ok_start_refill recovery _ tt k)
      (ok_either _ (ok_pass_short k) (ok_clear_refused (ease (omega arith) (omega arith) (omega arith) k)))

  pub ok_not_alone : {m b d : ℕ} {r : Run} → q.alone_kept ≡ false → Ok q calm m b d r → Ok q calm m b d (on T.not_alone r)
  unfolding T.not_alone F.end_recovery Small
  ok_not_alone free k =
      ok_on _ (λ o h. record {
        still = record {
          fixed = h.still.fixed;
          mine = h.still.mine;
          ranges = h.still.ranges;
          alone_stays = λ y. clash q.alone_kept y free;
        };
        seats = h.seats;
        waits = h.waits;
        tally = h.tally;
      }) (λ w. law_fill (law_alone w (record { high = omega arith })) (by_choice Small _ (λ e. tt) (λ e. w.fill_ok))) k

  pub ok_maintenance_timer : {b d : ℕ} {r : Run} → q.alone_kept ≡ false → Ok q calm 9 (b + (bare + 9 * single)) (d + 1) r → Ok q calm 0 b d (T.handle_maintenance_timer r)
  unfolding T.handle_maintenance_timer T.maintain T.remember_all
  ok_maintenance_timer {b} {d} {r} free k =
      let j : Ok q calm 9 (b + (bare + 9 * single)) (d + 1) (on T.remember_all r) = ok_on _ (λ o h. h) (λ w. law_recent w (renew_all_recent _ _ w.recent_ok)) k in
      ok_schedule_maintenance (ok_either _ (ok_pass_alone free (ease (omega arith) (omega arith) (omega arith) j)) (ok_pass_known (ok_not_alone free (ease (omega arith) (omega arith) (omega arith) j))))
