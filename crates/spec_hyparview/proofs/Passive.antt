-- The passive view: what enters it, what leaves it, and the marks.
-- Assumes nothing.
use mathlib.Core.Path.{◌≡◌, refl}
use mathlib.Core.Bool.{true, false, ◌||◌}
use mathlib.Core.List.{List, [], ◌∷◌}
use mathlib.Core.Option.{Option, none, some}
use Prim.Native.Nat.{ℕ, ◌+◌, ◌*◌, ◌≤◌, ◌<◌}
use native.Mathlib.Omega.{arith}
use lib.ListN.{length, get_or, length-append}
use lib.Dec.{leb, eqb}
use borrow.Author.Tests.{leb-false, eqb-false, not-true, not-false}
use Rattle.base_lists.specs.Lists.{is, count, mem}
use Rattle.base_lists.proofs.Choice.{by_choice, split, or_true, or_left, or_right, and_right, and_false}
use Rattle.base_util.proofs.Chances.{pick_below}
use Rattle.base_lists.proofs.Count.{is_self, is_le, is_not, is_split, is_yes, mem_true, mem_false, count_snoc, count_shift, length_shift, count_without, count_remove, length_remove, count_insert}
use Rattle.base_peer.specs.Data.{Data, Node}
use Rattle.spec_hyparview.specs.Station.{Station, is_me, in_active, in_passive, in_view, passive_is_full}
use Rattle.spec_hyparview.specs.Run.{Run, guard, on, to_draw, one_of}
use Rattle.spec_hyparview.specs.Budgets.{bare, adding}
use Rattle.spec_hyparview.specs.Peers as P
use Rattle.spec_hyparview.specs.Active as A
use Rattle.base_lists.proofs.Members.{null_yes, null_no, count_less}
use Rattle.spec_hyparview.proofs.Law.{Short, ShortNodes, law_held, law_alive}
use Rattle.spec_hyparview.proofs.Changes.{cut_held, unmark, mark}
use Rattle.spec_hyparview.proofs.Invariant.{Fixed, Terms, busy, calm, Ok, with_marks, with_places}
use Rattle.spec_hyparview.proofs.Keeping.{ease, ok_if, ok_either, ok_on, ok_change, ok_map, ok_fact, ok_absurd, ok_one_of, ok_quiet, one_of_station}
use Rattle.spec_hyparview.proofs.Sends.{no_node, ok_insert_peer_info}

-- the tests, as counts
pub seen : (p : ℕ) (s : Station) → in_view p s ≡ true → 1 ≤ count p s.active + count p s.passive
unfolding in_view in_active in_passive
seen p s e =
    or_true (mem p s.active) (mem p s.passive) e (λ m. omega (arith, mem_true p s.active m)) (λ m. omega (arith, mem_true p s.passive m))

unseen : (p : ℕ) (s : Station) → in_view p s ≡ false → count p s.active + count p s.passive ≡ 0
unfolding in_view in_active in_passive
unseen p s e =
    omega (arith, mem_false p s.active (or_left (mem p s.active) (mem p s.passive) e), mem_false p s.passive (or_right (mem p s.active) (mem p s.passive) e))

new_yes : (p : ℕ) (s : Station) → P.is_newcomer p s ≡ true → count p s.active + count p s.passive + is p s.me ≡ 0
unfolding P.is_newcomer is_me
new_yes p s e =
    let f : (eqb p s.me || in_view p s) ≡ false = not-true (eqb p s.me || in_view p s) e in
    omega (arith, unseen p s (or_right (eqb p s.me) (in_view p s) f), is_not p s.me (or_left (eqb p s.me) (in_view p s) f))

new_no : (p : ℕ) (s : Station) → P.is_newcomer p s ≡ false → 1 ≤ count p s.active + count p s.passive + is p s.me
unfolding P.is_newcomer is_me
new_no p s e =
    or_true (eqb p s.me) (in_view p s) (not-false (eqb p s.me || in_view p s) e) (λ m. omega (arith, is_yes p s.me m)) (λ m. omega (arith, seen p s m))

-- a newcomer may be loose: it is in no view
apart_from : (x p : ℕ) (act pas lo : List ℕ) (me : ℕ) → count p act + count p pas + is p me + count p lo ≡ 0 → count x act + count x pas + count x lo + is x me ≤ 1
    → count x act + count x pas + count x (p ∷ lo) + is x me ≤ 1
unfolding count
apart_from x p act pas lo me e =
    is_split (λ y. count y act + count y pas + count y lo + is y me ≤ 1 → count y act + count y pas + count y (p ∷ lo) + is y me ≤ 1) x p
    (λ h. omega (arith, is_self p)) (λ n h. omega arith)

-- what is dropped with a peer keeps the other rules
module _ {q : Fixed} {t : Terms} {m b d : ℕ} where
  pub ok_forget_any : (p : ℕ) {r : Run} → Ok q t m b d r → Ok q t m b d (P.forget_peer p r)
  unfolding P.forget_peer P.drop_traces P.drop_mark P.drop_data
  ok_forget_any p {r} k =
      ok_either _ k (ok_on _ (λ o h. record {
        still = h.still;
        seats = with_marks h.seats (λ x. omega (arith, h.seats.marks x, h.seats.one x, count_less x p r.station.alive (omega (arith, h.seats.marks x, h.seats.one x))));
        waits = h.waits;
        tally = h.tally;
      })
      (λ w. law_alive (law_held w (cut_held p w.held_ok)) (unmark p w.alive_ok)) k)

  pub ok_drop_data : (p : ℕ) {r : Run} → Ok q t m b d r → Ok q t m b d (on (P.drop_data p) r)
  unfolding P.drop_data
  ok_drop_data p k = ok_on _ (λ o h. h) (λ w. law_held w (cut_held p w.held_ok)) k

  pub ok_drop_mark : (p : ℕ) {r : Run} → Ok q t m b d r → Ok q t m b d (on (P.drop_mark p) r)
  unfolding P.drop_mark
  ok_drop_mark p {r} k =
      ok_on _ (λ o h. record {
        still = h.still;
        seats = with_marks h.seats (λ x. omega (arith, h.seats.marks x, h.seats.one x, count_less x p r.station.alive (omega (arith, h.seats.marks x, h.seats.one x))));
        waits = h.waits;
        tally = h.tally;
      })
      (λ w. law_alive w (unmark p w.alive_ok)) k

  -- the mark of a passive peer
  pub ok_mark_alive : (p : ℕ) {r : Run} → (r.code ≡ 0 → 1 ≤ count p r.station.passive) → Ok q t m b d r → Ok q t m b d (on (A.mark_alive p) r)
  unfolding A.mark_alive
  ok_mark_alive p {r} h k =
      ok_change _ (λ z o c w. (
        record {
          still = c.still;
          seats = with_marks c.seats (λ x. count_insert x p r.station.alive (λ y. count y r.station.passive + count y t.loose) (omega (arith, h z)) (c.seats.marks x));
          waits = c.waits;
          tally = c.tally;
        },
        law_alive w (mark p w.alive_ok),
      )) k

  ok_tell_evicted : (x : Option ℕ) {r : Run} → Ok q t m (b + bare) d r → Ok q t m b d (P.tell_evicted x r)
  unfolding P.tell_evicted
  ok_tell_evicted none k = ease (omega arith) (omega arith) (omega arith) k
  ok_tell_evicted (some p) k = ok_quiet _ bare (omega arith) (λ e. omega arith) (λ e. omega arith) (λ z w. no_node _ refl) k

module _ {q : Fixed} {g ba : List ℕ} {sl m b d : ℕ} where
  pub ok_forget_loose : {pl : ℕ} {lo : List ℕ} (p : ℕ) {r : Run} → Ok q (busy g ba (p ∷ lo) sl pl) m b d r → Ok q (busy g ba lo sl pl) m b d (P.forget_peer p r)
  unfolding P.forget_peer P.drop_traces P.drop_mark P.drop_data count
  ok_forget_loose p {r} k =
      ok_if (in_view p r.station)
      (λ e. ok_absurd (λ o h w. omega (arith, h.seats.one p, is_self p, seen p r.station e)) k)
      (λ e. ok_on _ (λ o h. record {
        still = h.still;
        seats = record {
          one = λ x. omega (arith, h.seats.one x);
          guests = h.seats.guests;
          within = h.seats.within;
          slots_left = h.seats.slots_left;
          places_left = h.seats.places_left;
          marks = λ x. omega (arith, h.seats.one x, h.seats.marks x, is_le x p, count_without x p r.station.alive (omega (arith, h.seats.one x, h.seats.marks x)));
          narrow = h.seats.narrow;
        };
        waits = h.waits;
        tally = h.tally;
      })
      (λ w. law_alive (law_held w (cut_held p w.held_ok)) (unmark p w.alive_ok)) k)

  pub ok_evict_at : {lo : List ℕ} (i : ℕ) {r : Run} → i < length r.station.passive → Ok q (busy g ba lo sl 0) m b d r → Ok q (busy g ba lo sl 1) m b d (P.evict_at i r)
  unfolding P.evict_at P.shift_passive count
  ok_evict_at {lo} i {r} l k =
      ok_forget_loose {pl = 1} {lo = lo} (get_or r.station.passive i 0)
      (ok_on _ (λ o h. record {
        still = h.still;
        seats = record {
          one = λ x. omega (arith, h.seats.one x, count_shift x r.station.passive i l);
          guests = h.seats.guests;
          within = h.seats.within;
          slots_left = h.seats.slots_left;
          places_left = omega (arith, h.seats.places_left, length_shift r.station.passive i l);
          marks = λ x. omega (arith, h.seats.marks x, count_shift x r.station.passive i l);
          narrow = h.seats.narrow;
        };
        waits = h.waits;
        tally = h.tally;
      }) (λ w. w) k)

  -- after `evict` the passive view has a free place
  ok_evict : {lo : List ℕ} {r : Run} → Ok q (busy g ba lo sl 0) m b (d + 1) r → Ok q (busy g ba lo sl 1) m b d (P.evict r)
  unfolding P.evict P.must_evict passive_is_full one_of
  ok_evict {lo} {r} k =
      ok_if _
      (λ e. ok_evict_at {lo = lo} _ (rw (one_of_station (length r.station.passive) r) (pick_below (length r.station.passive) (to_draw r) (null_no r.station.passive (not-true _ (and_right (leb r.station.config.passive_view_capacity (length r.station.passive)) _ e))))) (ok_one_of _ (λ o h l. omega (arith, h.seats.places_left, h.still.ranges.few_places)) k))
      (λ e. ease (omega arith) (omega arith) (omega arith) (ok_map (λ o h w. record {
        still = h.still;
        seats = with_places h.seats (and_false (leb r.station.config.passive_view_capacity (length r.station.passive)) _ e (λ f. omega (arith, leb-false r.station.config.passive_view_capacity (length r.station.passive) f)) (λ f. omega (arith, h.still.ranges.some_place, null_yes r.station.passive (not-false _ f))));
        waits = h.waits;
        tally = h.tally;
      }) k))

  pub ok_push_passive : {lo : List ℕ} (p : ℕ) {r : Run} → Ok q (busy g ba (p ∷ lo) sl 1) m b d r → Ok q (busy g ba lo sl 0) m b d (on (P.push_passive p) r)
  unfolding P.push_passive count
  ok_push_passive p {r} k =
      ok_on _ (λ o h. record {
        still = h.still;
        seats = record {
          one = λ x. omega (arith, h.seats.one x, count_snoc x r.station.passive p);
          guests = h.seats.guests;
          within = h.seats.within;
          slots_left = h.seats.slots_left;
          places_left = omega (arith, h.seats.places_left, length-append r.station.passive (p ∷ []));
          marks = λ x. omega (arith, h.seats.marks x, count_snoc x r.station.passive p);
          narrow = h.seats.narrow;
        };
        waits = h.waits;
        tally = h.tally;
      }) (λ w. w) k

module _ {q : Fixed} {g ba : List ℕ} {sl m b d : ℕ} where
  pub ok_make_room : {lo : List ℕ} {r : Run} → Ok q (busy g ba lo sl 0) m (b + bare) (d + 1) r → Ok q (busy g ba lo sl 1) m b d (P.make_room r)
  unfolding P.make_room
  ok_make_room {lo} {r} k = ok_tell_evicted (P.evicted r) (ok_evict {lo = lo} k)

  pub ok_enter_loose : {lo : List ℕ} (p : ℕ) {r : Run} → Ok q (busy g ba (p ∷ lo) sl 0) m (b + bare) (d + 1) r → Ok q (busy g ba lo sl 0) m b d (P.enter_passive p r)
  unfolding P.enter_passive count
  ok_enter_loose {lo} p {r} k =
      ok_if (P.is_newcomer p r.station)
      (λ e. ok_push_passive {lo = lo} p (ok_make_room {lo = p ∷ lo} k))
      (λ e. ok_absurd (λ o h w. omega (arith, h.seats.one p, is_self p, new_no p r.station e)) k)

  pub ok_enter_passive : (p : ℕ) {r : Run} → Ok q (busy g ba [] sl 0) m (b + bare) (d + 1) r → Ok q (busy g ba [] sl 0) m b d (P.enter_passive p r)
  unfolding P.enter_passive count
  ok_enter_passive p {r} k =
      ok_if (P.is_newcomer p r.station)
      (λ e. ok_push_passive {lo = []} p (ok_make_room {lo = p ∷ []} (ok_map (λ o h w. record {
        still = h.still;
        seats = record {
          one = λ x. apart_from x p r.station.active r.station.passive [] r.station.me (omega (arith, new_yes p r.station e)) (h.seats.one x);
          guests = h.seats.guests;
          within = h.seats.within;
          slots_left = h.seats.slots_left;
          places_left = h.seats.places_left;
          marks = λ x. omega (arith, h.seats.marks x);
          narrow = h.seats.narrow;
        };
        waits = h.waits;
        tally = h.tally;
      }) k)))
      (λ e. ease (omega arith) (omega arith) (omega arith) k)

  pub ok_add_passive : (p : ℕ) (x : Data) {r : Run} → (r.code ≡ 0 → Short x) → Ok q (busy g ba [] sl 0) m (b + adding) (d + 1) r → Ok q (busy g ba [] sl 0) m b d (P.add_passive p x r)
  unfolding P.add_passive
  ok_add_passive p x l k = ok_enter_passive p (ok_insert_peer_info p x l (ease (omega arith) (omega arith) (omega arith) k))

-- a message's nodes, each with the bytes of an addition and a draw
pub ok_add_nodes : {q : Fixed} {m b d : ℕ} (ns : List Node) {r : Run} → ShortNodes ns → Ok q calm m (b + adding * length ns) (d + length ns) r → Ok q calm m b d (P.add_nodes ns r)
unfolding P.add_nodes ShortNodes
ok_add_nodes [] h k = ease (omega arith) (omega arith) (omega arith) k
ok_add_nodes (n ∷ ns) h k = ok_add_nodes ns h.1 (ok_add_passive n.id n.data_of (λ z. h.0) (ease (omega arith) (omega arith) (omega arith) k))

-- after `enter_passive` a peer that was in no view is passive
on_passive : (f : Station → Station) (r : Run) (X : List ℕ → Type 0) → (r.code ≡ 0 → X (f r.station).passive) → (on f r).code ≡ 0 → X (on f r).station.passive
unfolding on guard
on_passive f r X h =
    by_choice (λ (w : Run). w.code ≡ 0 → X w.station.passive) (eqb r.code 0) (λ e z. h z) (λ e z. absurd (eqb-false r.code 0 e z))

pub entered : {q : Fixed} {t : Terms} {m b d : ℕ} (p : ℕ) (r : Run) → 1 ≤ count p t.loose → Ok q t m b d r → (P.enter_passive p r).code ≡ 0 → 1 ≤ count p (P.enter_passive p r).station.passive
unfolding P.enter_passive P.push_passive
entered {q} {t} p r l k =
    by_choice (λ (w : Run). w.code ≡ 0 → 1 ≤ count p w.station.passive) (P.is_newcomer p r.station)
    (λ e. on_passive _ (P.make_room r) (λ xs. 1 ≤ count p xs) (λ z. omega (arith, count_snoc p (P.make_room r).station.passive p, is_self p)))
    (λ e z. absurd (ok_fact (λ o h w. omega (arith, h.seats.one p, new_no p r.station e)) k z))

-- a peer taken out of the passive view, if it is there
module _ {q : Fixed} {m b d : ℕ} where
  pub ok_drop_passive : (p : ℕ) {r : Run} → Ok q calm m b d r → Ok q calm m b d (P.drop_passive p r)
  unfolding P.drop_passive P.remove_passive count
  ok_drop_passive p {r} k =
      let pas = r.station.passive in
      split (mem p pas)
      (λ e. ok_forget_loose {pl = 0} {lo = []} p (ok_on _ (λ o h. record {
        still = h.still;
        seats = record {
          one = λ x. is_split (λ y. count y r.station.active + count y pas + 0 + is y r.station.me ≤ 1 → count y r.station.active + count y (P.remove_passive p r.station).passive + (is y p + 0) + is y r.station.me ≤ 1) x p (λ o. omega (arith, count_remove p p pas, is_self p, mem_true p pas e)) (λ n o. omega (arith, count_remove x p pas)) (h.seats.one x);
          guests = h.seats.guests;
          within = h.seats.within;
          slots_left = h.seats.slots_left;
          places_left = omega (arith, h.seats.places_left, length_remove p pas);
          marks = λ x. omega (arith, h.seats.marks x, count_remove x p pas);
          narrow = h.seats.narrow;
        };
        waits = h.waits;
        tally = h.tally;
      }) (λ w. w) k))
      (λ e. ok_forget_any p (ok_on _ (λ o h. record {
        still = h.still;
        seats = record {
          one = λ x. omega (arith, h.seats.one x, count_remove x p pas);
          guests = h.seats.guests;
          within = h.seats.within;
          slots_left = h.seats.slots_left;
          places_left = omega (arith, h.seats.places_left, length_remove p pas);
          marks = λ x. is_split (λ y. count y r.station.alive ≤ count y pas + 0 → count y r.station.alive ≤ count y (P.remove_passive p r.station).passive + 0) x p (λ o. omega (arith, mem_false p pas e)) (λ n o. omega (arith, count_remove x p pas)) (h.seats.marks x);
          narrow = h.seats.narrow;
        };
        waits = h.waits;
        tally = h.tally;
      }) (λ w. w) k))
