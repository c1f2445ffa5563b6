-- Peers that enter the active view. One that enters is reckoned for two messages.
-- Assumes nothing.
use mathlib.Core.Path.{◌≡◌, refl, ap, ◌∙◌}
use mathlib.Core.Bool.{Bool, true, false, not, ◌||◌}
use mathlib.Core.List.{List, [], ◌∷◌}
use mathlib.Core.Option.{none, some}
use Prim.Native.Nat.{ℕ, ◌+◌, ◌≤◌, ◌<◌}
use native.Mathlib.Omega.{arith}
use lib.ListN.{length, length-append}
use lib.Dec.{eqb}
use borrow.Author.Tests.{leb-false, not-false}
use Rattle.record.specs.Kinds.{NeighborUp, output_byte}
use Rattle.base_lists.specs.Lists.{choose, is, count}
use Rattle.base_lists.proofs.Choice.{by_choice, or_left, or_right, and_left, and_right, and_false, clash}
use Rattle.base_lists.proofs.Count.{is_self, is_le, is_not, is_split, mem_true, mem_false, count_snoc, count_without, count_remove, length_remove}
use Rattle.base_peer.specs.Data.{Data}
use Rattle.spec_hyparview.specs.Station.{Station, automatic, is_me, in_active, active_is_full, peers_end}
use Rattle.spec_hyparview.specs.Setters.{set_peer_data}
use Rattle.spec_hyparview.specs.Run.{Run, guard, on, require, notice}
use Rattle.spec_hyparview.specs.Budgets.{bare, single, freeing, entering, admitting}
use Rattle.spec_hyparview.specs.Peers as P
use Rattle.spec_hyparview.specs.Active as A
use Rattle.base_lists.proofs.Members.{count_push_new}
use Rattle.spec_hyparview.proofs.Law.{Short, Small, law_alive, law_recent, law_fill, law_short, law_pins}
use Rattle.spec_hyparview.proofs.Changes.{unmark, renew_recent, pins_stay, small_or}
use Rattle.spec_hyparview.proofs.Told.{up_after, note, sent_after}
use Rattle.spec_hyparview.proofs.Invariant.{Fixed, Terms, busy, calm, Ok, with_inside, with_slots}
use Rattle.spec_hyparview.proofs.Keeping.{ease, ok_if, ok_on, ok_map, ok_tell}
use Rattle.spec_hyparview.proofs.Sends.{no_node, announce_station, ok_insert_peer_info, ok_reply_neighbor}
use Rattle.spec_hyparview.proofs.Leaving.{ok_free_slot}

-- after p has entered the active view
abbrev pub arrived : ℕ → Terms
arrived p = record { guest = []; barred = []; loose = []; inside = p ∷ []; rooted = []; silent = []; slots = 0; places = 0 }

pub settled : {q : Fixed} {p m b d : ℕ} {r : Run} → Ok q (arrived p) m b d r → Ok q calm m b d r
unfolding count
settled k = ok_map (λ o h w. record { still = h.still; seats = with_inside h.seats (λ x. omega arith); waits = h.waits; tally = h.tally }) k

module _ {q : Fixed} {m b d : ℕ} where
  pub ok_enter_active : (p : ℕ) {r : Run} → Ok q (busy (p ∷ []) (p ∷ []) [] 1 0) (m + 2) (b + bare) d r → Ok q (arrived p) m b d (A.enter_active p r)
  unfolding A.enter_active A.move_in A.remember_neighbor A.push_active A.gain_neighbor P.drop_mark P.remove_passive up_after note sent_after count choose Small
  ok_enter_active p {r} k =
      let act = r.station.active in
      let pas = r.station.passive in
      ok_on A.gain_neighbor (λ o h. h) (λ w. law_short (law_fill w (small_or _ automatic tt)) (record { high = omega arith }))
      (ok_tell (notice (output_byte NeighborUp) p) bare {t = busy (p ∷ []) (p ∷ []) [] 1 0} (A.move_in p) (no_node (notice (output_byte NeighborUp) p) refl)
      (λ o h. h.seats.narrow p (omega (arith, is_self p)))
      (λ o h. record {
        still = h.still;
        seats = record {
          one = λ x. omega (arith, h.seats.one x, h.seats.guests x, count_snoc x act p, count_remove x p pas);
          guests = λ x. omega (arith, h.seats.guests x, count_snoc x act p);
          within = λ x. omega (arith, count_snoc x act p);
          slots_left = omega (arith, h.seats.slots_left, length-append act (p ∷ []));
          places_left = omega (arith, h.seats.places_left, length_remove p pas);
          marks = λ x. omega (arith, h.seats.marks x, h.seats.one x, count_remove x p pas, count_without x p r.station.alive (omega (arith, h.seats.marks x, h.seats.one x)));
          narrow = λ x y. h.seats.narrow x (omega (arith, count_snoc x act p));
        };
        waits = record {
          barring = λ x. omega (arith, h.waits.barring x);
          apart = λ x. omega (arith, h.seats.guests x, h.waits.barring x, h.waits.apart x, count_snoc x act p);
          known = h.waits.known;
          boots = h.waits.boots;
          few = h.waits.few;
          rooting = h.waits.rooting;
        };
        tally = record {
          noted = λ x. omega (arith, h.tally.noted x, count_snoc x act p, count_push_new x p (up_after o q.up_of) (omega (arith, h.tally.noted p, h.seats.guests p, is_self p)));
          bound = omega (arith, h.tally.bound, length-append act (p ∷ []));
        };
      })
      (λ w. law_pins (law_recent (law_alive w (unmark p w.alive_ok)) (renew_recent p w.recent_ok)) (pins_stay p w.pins_ok)) k)

  -- what the tests of `add_active` promise
  pub invite : {ba : List ℕ} (p : ℕ) {r : Run} → p < peers_end → is_me p r.station ≡ false → in_active p r.station ≡ false → Ok q (busy [] ba [] 0 0) m b d r → Ok q (busy (p ∷ []) ba [] 0 0) m b d r
  unfolding count is_me in_active
  invite p {r} pn e a k = ok_map (λ o h w. record {
    still = h.still;
    seats = record {
      one = h.seats.one;
      guests = λ x. is_split (λ y. count y r.station.active + is y r.station.me ≤ 1 → count y (p ∷ []) + count y r.station.active + is y r.station.me ≤ 1) x p (λ i. omega (arith, mem_false p r.station.active a, is_not p r.station.me e, is_le p p)) (λ n i. omega arith) (omega (arith, h.seats.guests x));
      within = h.seats.within;
      slots_left = h.seats.slots_left;
      places_left = h.seats.places_left;
      marks = h.seats.marks;
      narrow = λ x. is_split (λ y. 1 ≤ count y (p ∷ []) + count y r.station.active → y < peers_end) x p (λ i. pn) (λ n i. h.seats.narrow x (omega arith));
    };
    waits = h.waits;
    tally = h.tally;
  }) k

  pub open_slot : {g ba : List ℕ} {r : Run} → active_is_full r.station ≡ false → Ok q (busy g ba [] 0 0) m b d r → Ok q (busy g ba [] 1 0) m b d r
  unfolding active_is_full
  open_slot {r = r} e k = ok_map (λ o h w. record {
    still = h.still;
    seats = with_slots h.seats (omega (arith, leb-false r.station.config.active_view_capacity (length r.station.active) e));
    waits = h.waits;
    tally = h.tally;
  }) k

  pub stays : {ba : List ℕ} (p : ℕ) {r : Run} → in_active p r.station ≡ true → Ok q (busy [] ba [] 0 0) m b d r → Ok q (arrived p) m b d r
  unfolding count in_active
  stays p {r} a k = ok_map (λ o h w. record {
    still = h.still;
    seats = with_inside h.seats (λ x. is_split (λ y. count y (p ∷ []) ≤ count y r.station.active) x p (omega (arith, mem_true p r.station.active a, is_le p p)) (λ n. omega arith));
    waits = record {
      barring = λ x. omega (arith, h.waits.barring x);
      apart = h.waits.apart;
      known = h.waits.known;
      boots = h.waits.boots;
      few = h.waits.few;
      rooting = h.waits.rooting;
    };
    tally = h.tally;
  }) k

  pub unbar : {ba : List ℕ} {r : Run} → Ok q (busy [] ba [] 0 0) m b d r → Ok q calm m b d r
  unfolding count
  unbar k = ok_map (λ o h w. record {
    still = h.still;
    seats = h.seats;
    waits = record {
      barring = λ x. omega (arith, h.waits.barring x);
      apart = h.waits.apart;
      known = h.waits.known;
      boots = h.waits.boots;
      few = h.waits.few;
      rooting = h.waits.rooting;
    };
    tally = h.tally;
  }) k

module _ {q : Fixed} {m b d : ℕ} where
  pub ok_add_active_unchecked : (p : ℕ) (high reply : Bool) {r : Run} → Ok q (busy (p ∷ []) (p ∷ []) [] 1 0) (m + 3) (b + entering) d r → Ok q (arrived p) m b d (A.add_active_unchecked p high reply r)
  unfolding A.add_active_unchecked
  ok_add_active_unchecked p high reply k = ok_reply_neighbor reply p high (ok_enter_active p (ease (omega arith) (omega arith) (omega arith) k))

-- data that is stored changes neither the views nor self nor settings, which is all that `accepts` looks at
pub on_same : {B : Type 0} (v : Station → B) (f : Station → Station) → ((s : Station) → v (f s) ≡ v s) → (r : Run) → v (on f r).station ≡ v r.station
unfolding on guard
on_same v f h r = by_choice (λ (w : Run). v w.station ≡ v r.station) (eqb r.code 0) (λ e. h r.station) (λ e. refl)

require_station : (c : ℕ) (test : Bool) (r : Run) → (require c test r).station ≡ r.station
unfolding require guard
require_station c test r =
    by_choice (λ (w : Run). w.station ≡ r.station) (eqb r.code 0)
    (λ e. by_choice (λ (w : Run). w.station ≡ r.station) test (λ f. refl) (λ f. refl)) (λ e. refl)

pub same_after_info : {B : Type 0} (v : Station → B) → ((x : List (ℕ × List ℕ)) (s : Station) → v (set_peer_data x s) ≡ v s) → (p : ℕ) (x : Data) (r : Run) → v (P.insert_peer_info p x r).station ≡ v r.station
unfolding P.insert_peer_info P.insert_data P.keep_data P.store_data
same_after_info v h p none r = refl
same_after_info v h p (some x) r =
    by_choice (λ (w : Run). v w.station ≡ v r.station) (P.is_known p x r.station) (λ e. refl)
    (λ e. on_same v _ (λ s. h _ s) _ ∙ ap v (require_station 8 _ _ ∙ announce_station p x r))

module _ {q : Fixed} {m b d : ℕ} where
  pub ok_admit : (p : ℕ) → p < peers_end → (high reply : Bool) {r : Run} → is_me p r.station ≡ false → A.accepts p high r.station ≡ true → Ok q (busy [] (p ∷ []) [] 0 0) (m + 3) (b + (freeing + entering)) (d + 40) r → Ok q (arrived p) m b d (A.admit p high reply r)
  unfolding A.admit A.admit_new A.admit_full A.accepts
  ok_admit p pn high reply {r} e acc k =
      ok_if (in_active p r.station)
      (λ a. ok_reply_neighbor reply p high (ease (omega arith) (omega arith) (omega arith) (stays p a k)))
      (λ a. let i = invite p pn e a k in
      ok_if (active_is_full r.station)
      (λ f. ok_if high
      (λ t. ok_add_active_unchecked p high reply (ok_free_slot (ease (omega arith) (omega arith) (omega arith) i)))
      (λ t. clash (in_active p r.station || (high || not (active_is_full r.station))) (and_right (not (is_me p r.station)) _ acc) (rw (a, t, f))))
      (λ f. ok_add_active_unchecked p high reply (ease (omega arith) (omega arith) (omega arith) (open_slot f i))))

  pub ok_admit_not : {ba : List ℕ} (p : ℕ) (high reply : Bool) {r : Run} → is_me p r.station ≡ false → A.accepts p high r.station ≡ false → Ok q (busy [] ba [] 0 0) m b d r → Ok q calm m b d (A.admit p high reply r)
  unfolding A.admit A.admit_new A.admit_full A.accepts
  ok_admit_not p high reply {r} e acc k =
      let o : (in_active p r.station || (high || not (active_is_full r.station))) ≡ false = and_false (not (is_me p r.station)) _ acc (λ n. clash (is_me p r.station) (not-false _ n) e) (λ n. n) in
      let w : (high || not (active_is_full r.station)) ≡ false = or_right (in_active p r.station) _ o in
      ok_if (in_active p r.station)
      (λ a. clash (in_active p r.station) a (or_left (in_active p r.station) _ o))
      (λ a. ok_if (active_is_full r.station)
      (λ f. ok_if high (λ t. clash high t (or_left high _ w)) (λ t. unbar k))
      (λ f. clash (active_is_full r.station) (not-false _ (or_right high _ w)) f))

module _ {q : Fixed} {m b d : ℕ} where
  pub ok_add_active : (p : ℕ) → p < peers_end → (x : Data) → Short x → (high reply : Bool) {r : Run} → A.accepts p high r.station ≡ true → Ok q (busy [] (p ∷ []) [] 0 0) (m + 3) (b + admitting) (d + 40) r → Ok q (arrived p) m b d (A.add_active p x high reply r)
  unfolding A.add_active A.accepts is_me in_active active_is_full
  ok_add_active p pn x l high reply {r} acc k =
      ok_if (is_me p r.station)
      (λ e. clash (not (is_me p r.station)) (and_left (not (is_me p r.station)) _ acc) (rw e))
      (λ e. ok_admit p pn high reply (same_after_info (is_me p) (λ y s. refl) p x r ∙ e) (same_after_info (A.accepts p high) (λ y s. refl) p x r ∙ acc)
      (ok_insert_peer_info p x (λ z. l) (ease (omega arith) (omega arith) (omega arith) k)))

  pub ok_add_active_not : {ba : List ℕ} (p : ℕ) (x : Data) → Short x → (high reply : Bool) {r : Run} → A.accepts p high r.station ≡ false → Ok q (busy [] ba [] 0 0) m (b + single) d r → Ok q calm m b d (A.add_active p x high reply r)
  unfolding A.add_active A.accepts is_me in_active active_is_full
  ok_add_active_not p x l high reply {r} acc k =
      ok_if (is_me p r.station) (λ e. unbar (ease (omega arith) (omega arith) (omega arith) k))
      (λ e. ok_admit_not p high reply (same_after_info (is_me p) (λ y s. refl) p x r ∙ e) (same_after_info (A.accepts p high) (λ y s. refl) p x r ∙ acc)
      (ok_insert_peer_info p x (λ z. l) k))
