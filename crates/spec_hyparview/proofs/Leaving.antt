-- Peers that leave the active view. One that leaves gives back the two messages that it was reckoned for.
-- Assumes nothing.
use mathlib.Core.Path.{◌≡◌, refl, subst}
use mathlib.Core.Bool.{true, false}
use mathlib.Core.List.{List, [], ◌∷◌}
use Prim.Native.Nat.{ℕ, ◌+◌, ◌≤◌, ◌<◌}
use native.Mathlib.Omega.{arith}
use lib.ListN.{length, get_or}
use Rattle.record.specs.Kinds.{NeighborDown, output_byte}
use Rattle.base_lists.specs.Lists.{choose, null, count, mem, without_all, index_of}
use Rattle.base_lists.specs.Maps.{lookup}
use Rattle.base_util.proofs.Chances.{pick_below}
use Rattle.base_lists.proofs.Count.{is_self, count_at, count_swap, length_swap, count_without, length_without_all, index_lt}
use Rattle.spec_hyparview.specs.Station.{Station, recovery, in_active, without_pin}
use Rattle.spec_hyparview.specs.Run.{Run, on, to_draw, one_of, picked, notice}
use Rattle.spec_hyparview.specs.Budgets.{bare, adding, asking, disconnecting, removing, freeing}
use Rattle.spec_hyparview.specs.Peers as P
use Rattle.spec_hyparview.specs.Active as A
use Rattle.spec_hyparview.specs.Active.{Reason, connection_closed, disconnect_received, random}
use Rattle.base_lists.proofs.Members.{null_yes, null_no, mem_yes}
use Rattle.base_lists.proofs.Skips.{few_taken, count_left}
use Rattle.spec_hyparview.proofs.Law.{Short, Small, Lawful, law_refused, law_pins}
use Rattle.spec_hyparview.proofs.Changes.{no_refusals, short_lookup, unpin}
use Rattle.spec_hyparview.proofs.Told.{up_after, note, sent_after}
use Rattle.spec_hyparview.proofs.Invariant.{Fixed, Terms, busy, Ok, with_slots}
use Rattle.spec_hyparview.proofs.Keeping.{ease, ok_if, ok_either, ok_on, ok_map, ok_fact, ok_one_of, ok_tell, one_of_station, on_code}
use Rattle.spec_hyparview.proofs.Sends.{no_node, ok_insert_peer_info, ok_send_disconnect, ok_start_refill}
use Rattle.spec_hyparview.proofs.Passive.{ok_drop_data, ok_drop_mark, ok_forget_loose, ok_enter_loose, ok_mark_alive, entered}

module _ {q : Fixed} {t : Terms} {m b d : ℕ} where
  pub ok_clear_refused : {r : Run} → Ok q t m b d r → Ok q t m b d (on A.clear_refused r)
  unfolding A.clear_refused
  ok_clear_refused k = ok_on _ (λ o h. h) (λ w. law_refused w no_refusals) k

-- the data that was held is short
pub held_short : {q : Fixed} {t : Terms} {m b d : ℕ} (p : ℕ) {r : Run} → Ok q t m b d r → (on (P.drop_data p) r).code ≡ 0 → Short (lookup p r.station.peer_data)
held_short p {r} k z =
    ok_fact (λ o h w. short_lookup p r.station.peer_data w.held_ok.shorts) k (subst (λ (c : ℕ). c ≡ 0) (on_code (P.drop_data p) r) z)

module _ {q : Fixed} {g ba : List ℕ} {sl m b d : ℕ} where
  pub ok_demote : (p : ℕ) {r : Run} → Ok q (busy g ba (p ∷ []) sl 0) m (b + adding) (d + 1) r → Ok q (busy g ba [] sl 0) m b d (A.demote p r)
  unfolding A.demote P.add_passive
  ok_demote p k = ok_enter_loose {lo = []} p (ok_insert_peer_info p _ (held_short p k) (ok_drop_data p (ease (omega arith) (omega arith) (omega arith) k)))

  pub ok_demote_alive : (p : ℕ) {r : Run} → Ok q (busy g ba (p ∷ []) sl 0) m (b + adding) (d + 1) r → Ok q (busy g ba [] sl 0) m b d (A.demote_alive p r)
  unfolding A.demote_alive A.demote P.add_passive count
  ok_demote_alive p {r} k =
      let i : Ok q (busy g ba (p ∷ []) sl 0) m (b + bare) (d + 1) (P.insert_peer_info p (lookup p r.station.peer_data) (on (P.drop_data p) r)) =
      ok_insert_peer_info p _ (held_short p k) (ok_drop_data p (ease (omega arith) (omega arith) (omega arith) k)) in
      ok_mark_alive p (entered p _ (omega (arith, is_self p)) i) (ok_enter_loose {lo = []} p i)

  pub ok_settle_closed : (p : ℕ) {r : Run} → Ok q (busy g ba (p ∷ []) sl 0) m (b + adding) (d + 1) r → Ok q (busy g ba [] sl 0) m b d (A.settle_closed p r)
  unfolding A.settle_closed
  ok_settle_closed p k =
      ok_either _ (ok_demote p (ok_drop_mark p k)) (ok_forget_loose {pl = 0} {lo = []} p (ease (omega arith) (omega arith) (omega arith) k))

  -- the peer knows already that it is dropped
  pub ok_settle : (why : Reason) → (why ≡ random → ⊥) → (p : ℕ) {r : Run} → Ok q (busy g ba (p ∷ []) sl 0) m (b + adding) (d + 1) r → Ok q (busy g ba [] sl 0) m b d (A.settle why p r)
  unfolding A.settle
  ok_settle connection_closed n p k = ok_settle_closed p k
  ok_settle (disconnect_received true) n p k = ok_demote_alive p k
  ok_settle (disconnect_received false) n p k = ok_forget_loose {pl = 0} {lo = []} p (ease (omega arith) (omega arith) (omega arith) k)
  ok_settle random n p k = absurd (n refl)

  pub ok_drop_active : (i : ℕ) {r : Run} → i < length r.station.active → Ok q (busy g ba [] sl 0) m (b + bare) d r → Ok q (busy g ba (get_or r.station.active i 0 ∷ []) (sl + 1) 0) (m + 2) b d (A.drop_active i r)
  unfolding A.drop_active A.swap_active A.leave_active up_after note sent_after count choose
  ok_drop_active i {r} l k =
      let act = r.station.active in
      let p = get_or act i 0 in
      ok_tell (notice (output_byte NeighborDown) p) bare (A.swap_active i) (no_node (notice (output_byte NeighborDown) p) refl)
      (λ o h. h.seats.narrow p (omega (arith, count_at act i l)))
      (λ o h. record {
        still = h.still;
        seats = record {
          one = λ x. omega (arith, h.seats.one x, count_swap x act i l);
          guests = λ x. omega (arith, h.seats.guests x, count_swap x act i l);
          within = λ x. omega arith;
          slots_left = omega (arith, h.seats.slots_left, length_swap act i);
          places_left = h.seats.places_left;
          marks = λ x. omega (arith, h.seats.marks x);
          narrow = λ x y. h.seats.narrow x (omega (arith, count_swap x act i l));
        };
        waits = record {
          barring = h.waits.barring;
          apart = λ x. omega (arith, h.waits.apart x, count_swap x act i l);
          known = h.waits.known;
          boots = h.waits.boots;
          few = h.waits.few;
          rooting = h.waits.rooting;
        };
        tally = record {
          noted = λ x. omega (arith, h.tally.noted x, h.seats.one x, count_swap x act i l, count_without x p (up_after o q.up_of) (omega (arith, h.tally.noted x, h.seats.one x)));
          bound = omega (arith, h.tally.bound, length_swap act i);
        };
      })
      (λ w. law_pins w (unpin p w.pins_ok _ (λ x. omega (arith, count_swap x act i l)))) k

-- 02, S-14: whoever has no pin is a neighbour, and so is whoever is picked
pub free_active : (s : Station) (k : ℕ) → k < length (without_pin s) → mem (get_or (without_pin s) k 0) s.active ≡ true
unfolding without_pin
free_active s k l =
    let free = without_all s.pins s.active in
    mem_yes _ s.active (omega (arith, count_at free k l, count_left (get_or free k 0) s.pins s.active))

pub picked_below : (r : Run) → null (without_pin r.station) ≡ false → index_of (picked (without_pin r.station) r) r.station.active < length r.station.active
unfolding picked one_of
picked_below r e =
    let free = without_pin r.station in
    index_lt _ r.station.active (free_active r.station _ (pick_below (length free) (to_draw r) (null_no free e)))

few_free : (s : Station) → length s.active ≤ 32 → length (without_pin s) ≤ 32
unfolding without_pin
few_free s h = omega (arith, length_without_all s.pins s.active, h)

-- 02, S-14: a view without anybody to demote has a free place, so that a High arrival at a full one always finds a place
pub free_or_unpinned : (s : Station) → Lawful s → 1 ≤ s.config.active_view_capacity → ((x : ℕ) → count x s.active ≤ 1) → null (without_pin s) ≡ true → length s.active + 1 ≤ s.config.active_view_capacity
unfolding without_pin
free_or_unpinned s w c h e =
    omega (arith, c, w.pins_ok.few, few_taken s.pins s.active h, null_yes (without_all s.pins s.active) e)

module _ {q : Fixed} {g ba : List ℕ} where
  pub ok_settle_random : {sl m b d : ℕ} (p : ℕ) {r : Run} → Ok q (busy g ba (p ∷ []) sl 0) (m + 2) (b + (disconnecting + adding)) (d + 39) r → Ok q (busy g ba [] sl 0) m b d (A.settle random p r)
  unfolding A.settle
  ok_settle_random p k = ok_demote_alive p (ok_send_disconnect p true (ease (omega arith) (omega arith) (omega arith) k))

  -- one free place less
  pub close_slot : {sl m b d : ℕ} {r : Run} → Ok q (busy g ba [] (sl + 1) 0) m b d r → Ok q (busy g ba [] sl 0) m b d r
  close_slot k = ok_map (λ o h w. record { still = h.still; seats = with_slots h.seats (omega (arith, h.seats.slots_left)); waits = h.waits; tally = h.tally }) k

  pub ok_remove_active : {m b d : ℕ} (p : ℕ) (why : Reason) {r : Run} → (why ≡ random → ⊥) → Ok q (busy g ba [] 0 0) m (b + removing) (d + 2) r → Ok q (busy g ba [] 0 0) m b d (A.remove_active p why r)
  unfolding A.remove_active A.remove_active_by_index A.refill_after in_active Small
  ok_remove_active {m} {b} {d} p why {r} n k =
      let i = index_of p r.station.active in
      ok_if (mem p r.station.active)
      (λ e. let j : Ok q (busy g ba (get_or r.station.active i 0 ∷ []) 1 0) (m + 2) (b + (adding + asking)) (d + 2) (A.drop_active i r) =
      ok_drop_active {sl = 0} i (index_lt p r.station.active e) (ease (omega arith) (omega arith) (omega arith) k) in
      ok_start_refill recovery (p ∷ []) tt (ok_clear_refused (close_slot {sl = 0} (ok_settle why n _ (ease (omega arith) (omega arith) (omega arith) j)))))
      (λ e. ease (omega arith) (omega arith) (omega arith) k)

  -- after it the active view has a free place
  pub ok_free_slot : {m b d : ℕ} {r : Run} → Ok q (busy g ba [] 0 0) m (b + freeing) (d + 40) r → Ok q (busy g ba [] 1 0) m b d (A.free_random_slot_in_active_view r)
  unfolding A.free_random_slot_in_active_view A.remove_picked A.remove_active_by_index
  ok_free_slot {m} {b} {d} {r} k =
      let n = length (without_pin r.station) in
      ok_if (null (without_pin r.station))
      (λ e. ease (omega arith) (omega arith) (omega arith) (ok_map (λ o h w. record {
        still = h.still;
        seats = with_slots h.seats (free_or_unpinned r.station w h.still.ranges.some_slot (λ x. omega (arith, h.seats.one x)) e);
        waits = h.waits;
        tally = h.tally;
      }) k))
      (λ e. ok_settle_random {sl = 1} _ (ok_drop_active {sl = 0} _ (rw (one_of_station n r) (picked_below r e)) (ok_one_of _ (λ o h l. few_free r.station (omega (arith, h.seats.slots_left, h.still.ranges.few_slots))) (ease (omega arith) (omega arith) (omega arith) k))))
