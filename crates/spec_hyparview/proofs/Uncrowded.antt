-- Code 8 is never met at a station that keeps the rules. It starts with data of at most 8 + 32 + 32 peers, an event adds two entries at most, and those that a
-- message's nodes bring are of peers that are then in a view.
-- Assumes nothing.
use mathlib.Core.Path.{◌≡◌, sym, subst}
use mathlib.Core.Bool.{Bool, true, false, ◌||◌}
use mathlib.Core.List.{List, [], ◌∷◌, ◌++◌}
use mathlib.Core.Option.{Option, none, some}
use Prim.Native.Nat.{ℕ, ◌+◌, ◌≤◌, ◌<◌}
use native.Mathlib.Omega.{arith}
use lib.ListN.{length, get_or, length-append}
use lib.Dec.{ltb, leb, eqb}
use borrow.Author.Tests.{eqb-true, eqb-false, lt-ltb, leb-false, not-true, not-false}
use Rattle.base_lists.specs.Lists.{choose, is, count}
use Rattle.base_lists.specs.Maps.{keys, has}
use Rattle.base_lists.proofs.Choice.{by_choice, choose_yes, or_true, or_left, and_right, and_false}
use Rattle.base_lists.proofs.Count.{is_self, is_split, count_append, count_snoc, count_shift, length_shift}
use Rattle.base_lists.proofs.Maps.{length_keys}
use Rattle.base_util.proofs.Chances.{pick_below}
use Rattle.base_peer.specs.Data.{Data, Node}
use Rattle.record.specs.Kinds.{EventKind, Message, DoShuffle, DoMaintenance, PendingNeighborRequest, RetryJoin, PeerDisconnected, RequestJoin, UpdatePeerData, Quit, Pin}
use Rattle.record.proofs.ByKind.{by_kind}
use Rattle.record.specs.Format.{Rec}
use Rattle.record.specs.Read.{Reading, read_event}
use Rattle.spec_hyparview.specs.Station.{Station, is_me, in_view, passive_is_full, data_peers}
use Rattle.spec_hyparview.specs.Rules.{all_under, station_ok}
use Rattle.spec_hyparview.specs.Run.{Run, with_code, guard, on, emit, draw, to_draw, one_of, draw_one_of, require}
use Rattle.spec_hyparview.specs.Peers as P
use Rattle.spec_hyparview.specs.Messages as M
use Rattle.spec_hyparview.specs.Handle as H
use Rattle.spec_hyparview.specs.Handle.{Result, start, steps, refusal, accepted, finish, handle_reading, handle}
use Rattle.base_lists.proofs.Members.{null_yes, null_no, shorter, count_cut, count_put, rising_once}
use Rattle.spec_hyparview.proofs.Law.{HeldData, Short, ShortNodes}
use Rattle.spec_hyparview.proofs.Changes.{cut_held, put_held}
use Rattle.spec_hyparview.proofs.Invariant.{Ranges}
use Rattle.spec_hyparview.proofs.Keeping.{one_of_station}
use Rattle.spec_hyparview.proofs.Sends.{announce_station}
use Rattle.spec_hyparview.proofs.Passive.{seen}
use Rattle.spec_hyparview.proofs.Reading.{Readable, by_reading}
use Rattle.spec_hyparview.proofs.Tested.{all_in_true, within_once, between_of}
use Rattle.spec_hyparview.proofs.Fits as Fit
use Rattle.spec_hyparview.proofs.Fits.{Fits, or_so}

-- of a station: data is held only of peers in a view, with an open request or among `loose`, and the passive view has `places` more
pub record Snug (loose : List ℕ) (places : ℕ) (s : Station) : Type 0 where
  pub held : HeldData s.me s.peer_data
  pub ranges : Ranges s.config
  pub slots : length s.active ≤ 8
  pub fits : length s.passive + places ≤ s.config.passive_view_capacity
  pub asked : length s.requests ≤ 32
  pub known : (x : ℕ) → count x (keys s.peer_data) ≤ count x s.active + count x s.passive + count x (keys s.requests) + count x loose

-- at most 8 + 32 + 32 entries
pub snug_few : {places : ℕ} (s : Station) → Snug [] places s → length s.peer_data ≤ 72
unfolding data_peers count
snug_few s h =
    let rest = s.passive ++ keys s.requests in
    omega (arith, h.slots, h.fits, h.ranges.few_places, h.asked, length_keys s.peer_data, length_keys s.requests, length-append s.active rest, length-append s.passive (keys s.requests), shorter (keys s.peer_data) (data_peers s) (λ x. omega (arith, h.known x, count_append x s.active rest, count_append x s.passive (keys s.requests))))

-- of a run: it is not refused with 8, and its station is snug
pub record Fine (loose : List ℕ) (places : ℕ) (r : Run) : Type 0 where
  pub clear : r.code ≡ 8 → ⊥
  pub snug : r.code ≡ 0 → Snug loose places r.station

loosen : {loose : List ℕ} {places : ℕ} (p : ℕ) (s : Station) → Snug loose places s → Snug (p ∷ loose) places s
unfolding count
loosen p s h = record { held = h.held; ranges = h.ranges; slots = h.slots; fits = h.fits; asked = h.asked; known = λ x. omega (arith, h.known x) }

module _ {loose : List ℕ} {places : ℕ} where
  fine_either : (test : Bool) {x y : Run} → (test ≡ true → Fine loose places x) → (test ≡ false → Fine loose places y) → Fine loose places (choose test x y)
  fine_either test f g = by_choice (Fine loose places) test f g

  fine_guard : {lo : List ℕ} {pl : ℕ} {r after : Run} → Fine lo pl r → (r.code ≡ 0 → Fine loose places after) → Fine loose places (guard r after)
  unfolding guard
  fine_guard {r = r} h f =
      fine_either (eqb r.code 0) (λ e. f (eqb-true r.code 0 e)) (λ e. record { clear = h.clear; snug = λ z. absurd (eqb-false r.code 0 e z) })

  fine_on : {lo : List ℕ} {pl : ℕ} (f : Station → Station) {r : Run} → (Snug lo pl r.station → Snug loose places (f r.station)) → Fine lo pl r → Fine loose places (on f r)
  unfolding on
  fine_on f g h = fine_guard h (λ z. record { clear = h.clear; snug = λ y. g (h.snug z) })

  fine_map : {lo : List ℕ} {pl : ℕ} {r : Run} → (Snug lo pl r.station → Snug loose places r.station) → Fine lo pl r → Fine loose places r
  fine_map g h = record { clear = h.clear; snug = λ z. g (h.snug z) }

  fine_draw : (n : ℕ) {r : Run} → Fine loose places r → Fine loose places (draw n r)
  unfolding draw
  fine_draw n h =
      fine_guard h (λ z. fine_either _ (λ e. record { clear = h.clear; snug = h.snug }) (λ e. record { clear = λ y. omega arith; snug = λ y. absurd (omega arith) }))

  fine_draw_one_of : (n : ℕ) {r : Run} → Fine loose places r → Fine loose places (draw_one_of n r)
  unfolding draw_one_of
  fine_draw_one_of n h = fine_draw _ h

  fine_emit : (e : Rec) {r : Run} → Fine loose places r → Fine loose places (emit e r)
  unfolding emit
  fine_emit e h =
      fine_guard h (λ z. fine_either _ (λ f. record { clear = h.clear; snug = h.snug }) (λ f. record { clear = λ y. omega arith; snug = λ y. absurd (omega arith) }))

  fine_announce : (p : ℕ) (b : List ℕ) {r : Run} → Fine loose places r → Fine loose places (P.announce_data p b r)
  unfolding P.announce_data
  fine_announce p b h = fine_either _ (λ e. h) (λ e. fine_emit _ h)

  fine_tell : (x : Option ℕ) {r : Run} → Fine loose places r → Fine loose places (P.tell_evicted x r)
  unfolding P.tell_evicted
  fine_tell none h = h
  fine_tell (some p) h = fine_emit _ h

-- the data of a peer that may be in no view yet
stored : (p : ℕ) (b : List ℕ) (s : Station) → eqb p s.me ≡ false → length b ≤ 16 → Snug [] 0 s → Snug (p ∷ []) 0 (P.store_data p b s)
unfolding P.store_data count
stored p b s n l h = record {
  held = put_held p b n l (or_so (has p s.peer_data) _ (lt-ltb (length s.peer_data) 80 (omega (arith, snug_few s h)))) h.held;
  ranges = h.ranges;
  slots = h.slots;
  fits = h.fits;
  asked = h.asked;
  known = λ x. count_put x p b s.peer_data (λ y. count y s.active + count y s.passive + count y (keys s.requests) + (is y p + 0)) (omega (arith, is_self p)) (omega (arith, h.known x));
}

fine_keep : (p : ℕ) (b : List ℕ) {r : Run} → eqb p r.station.me ≡ false → length b ≤ 16 → Fine [] 0 r → Fine (p ∷ []) 0 (P.keep_data p b r)
unfolding P.keep_data P.data_fits require guard
fine_keep p b {r} n l h =
    let s = r.station in
    by_choice (λ (w : Run). Fine (p ∷ []) 0 (on (P.store_data p b) w)) (eqb r.code 0)
    (λ e. rw (choose_yes (has p s.peer_data || ltb (length s.peer_data) 80) r (with_code 8 r) (or_so (has p s.peer_data) _ (lt-ltb (length s.peer_data) 80 (omega (arith, snug_few s (h.snug (eqb-true r.code 0 e)))))))
    (fine_on (P.store_data p b) (stored p b s n l) h))
    (λ e. fine_on (P.store_data p b) (stored p b s n l) h)

fine_insert : (p : ℕ) (d : Data) {r : Run} → Short d → Fine [] 0 r → Fine (p ∷ []) 0 (P.insert_peer_info p d r)
unfolding P.insert_peer_info P.insert_data P.is_known is_me Short
fine_insert p none {r} l h = fine_map (loosen p r.station) h
fine_insert p (some b) {r} l h =
    fine_either _ (λ e. fine_map (loosen p r.station) h)
    (λ e. fine_keep p b (subst (λ (s : Station). eqb p s.me ≡ false) (sym (announce_station p b r)) (or_left (eqb p r.station.me) _ e)) l (fine_announce p b h))

-- an entry of a peer that is in a view is known by it
in_view_known : {places : ℕ} (p : ℕ) (loose : List ℕ) (s : Station) → 1 ≤ count p s.active + count p s.passive → Snug (p ∷ loose) places s → Snug loose places s
unfolding count
in_view_known p loose s v h = record {
  held = h.held;
  ranges = h.ranges;
  slots = h.slots;
  fits = h.fits;
  asked = h.asked;
  known = λ x. is_split (λ y. count y (keys s.peer_data) ≤ count y s.active + count y s.passive + count y (keys s.requests) + (is y p + count y loose) → count y (keys s.peer_data) ≤ count y s.active + count y s.passive + count y (keys s.requests) + count y loose) x p
      (λ k. omega (arith, rising_once (keys s.peer_data) h.held.rise p)) (λ n k. omega arith) (h.known x);
}

-- and a peer that leaves the passive view goes with its data
fine_forget : {places : ℕ} (p : ℕ) (loose : List ℕ) {r : Run} → Fine (p ∷ loose) places r → Fine loose places (P.forget_peer p r)
unfolding P.forget_peer P.drop_traces P.drop_mark P.drop_data count
fine_forget p loose {r} h =
    fine_either (in_view p r.station) (λ e. fine_map (in_view_known p loose r.station (seen p r.station e)) h)
    (λ e. fine_on (P.drop_traces p) (λ g. record {
      held = cut_held p g.held;
      ranges = g.ranges;
      slots = g.slots;
      fits = g.fits;
      asked = g.asked;
      known = λ x. omega (arith, g.known x, count_cut x p r.station.peer_data (rising_once (keys r.station.peer_data) g.held.rise x));
    }) h)

fine_evict : (i : ℕ) (loose : List ℕ) {r : Run} → i < length r.station.passive → Fine loose 0 r → Fine loose 1 (P.evict_at i r)
unfolding P.evict_at P.shift_passive count
fine_evict i loose {r} l h =
    fine_forget (get_or r.station.passive i 0) loose
    (fine_on (P.shift_passive i) (λ g. record {
      held = g.held;
      ranges = g.ranges;
      slots = g.slots;
      fits = omega (arith, g.fits, length_shift r.station.passive i l);
      asked = g.asked;
      known = λ x. omega (arith, g.known x, count_shift x r.station.passive i l);
    }) h)

fine_evicted : (loose : List ℕ) {r : Run} → Fine loose 0 r → Fine loose 1 (P.evict r)
unfolding P.evict P.must_evict passive_is_full one_of
fine_evicted loose {r} h =
    let pas = r.station.passive in
    let cap = r.station.config.passive_view_capacity in
    fine_either _
    (λ e. fine_evict _ loose (rw (one_of_station (length pas) r) (pick_below (length pas) (to_draw r) (null_no pas (not-true _ (and_right (leb cap (length pas)) _ e))))) (fine_draw_one_of _ h))
    (λ e. fine_map (λ g. record {
      held = g.held;
      ranges = g.ranges;
      slots = g.slots;
      fits = and_false (leb cap (length pas)) _ e (λ f. omega (arith, leb-false cap (length pas) f)) (λ f. omega (arith, g.ranges.some_place, null_yes pas (not-false _ f)));
      asked = g.asked;
      known = g.known;
    }) h)

fine_make_room : (loose : List ℕ) {r : Run} → Fine loose 0 r → Fine loose 1 (P.make_room r)
unfolding P.make_room
fine_make_room loose {r} h = fine_tell (P.evicted r) (fine_evicted loose h)

-- a peer in a view, or the station itself, of which no data is held
known_now : (p : ℕ) (s : Station) → P.is_newcomer p s ≡ false → Snug (p ∷ []) 0 s → Snug [] 0 s
unfolding P.is_newcomer is_me count
known_now p s e g =
    or_true (eqb p s.me) (in_view p s) (not-false _ e)
    (λ m. record {
      held = g.held;
      ranges = g.ranges;
      slots = g.slots;
      fits = g.fits;
      asked = g.asked;
      known = λ x. is_split (λ y. count y (keys s.peer_data) ≤ count y s.active + count y s.passive + count y (keys s.requests) + (is y p + 0) → count y (keys s.peer_data) ≤ count y s.active + count y s.passive + count y (keys s.requests) + 0) x p
          (λ k. let z : count p (keys s.peer_data) ≡ 0 = subst (λ (q : ℕ). count q (keys s.peer_data) ≡ 0) (sym (eqb-true p s.me m)) g.held.not_own in omega arith) (λ n k. omega arith) (g.known x);
    })
    (λ v. in_view_known p [] s (seen p s v) g)

-- a peer that is learnt is in a view afterwards, or it is the station itself, of which no data is held
fine_enter : (p : ℕ) {r : Run} → Fine (p ∷ []) 0 r → Fine [] 0 (P.enter_passive p r)
unfolding P.enter_passive P.push_passive count
fine_enter p {r} h =
    fine_either (P.is_newcomer p r.station)
    (λ e. let w = P.make_room r in fine_on (P.push_passive p) (λ g. record {
      held = g.held;
      ranges = g.ranges;
      slots = g.slots;
      fits = omega (arith, g.fits, length-append w.station.passive (p ∷ []));
      asked = g.asked;
      known = λ x. omega (arith, g.known x, count_snoc x w.station.passive p);
    }) (fine_make_room (p ∷ []) h))
    (λ e. fine_map (known_now p r.station e) h)

pub fine_add_nodes : (ns : List Node) {r : Run} → ShortNodes ns → Fine [] 0 r → Fine [] 0 (P.add_nodes ns r)
unfolding P.add_nodes P.add_passive ShortNodes
fine_add_nodes [] a h = h
fine_add_nodes (n ∷ ns) a h = fine_add_nodes ns a.1 (fine_enter n.id (fine_insert n.id n.data_of a.0 h))

fine_fits : {r : Run} → Fine [] 0 r → Fits 8 r
fine_fits {r} h = record { clear = h.clear; left = λ z. omega (arith, snug_few r.station (h.snug z)) }

-- the whole event
module _ (e : Rec) (w : Readable e) {r : Run} (h : Fine [] 0 r) where
  fit_message : Fits 0 (H.handle_message e r)
  unfolding H.handle_message M.on_shuffle M.answer_shuffle M.forward_shuffle M.on_shuffle_reply M.after_reply M.refill_with
  fit_message =
      let i = fine_fits h in
      let j : Fits 0 (P.add_nodes e.nodes r) = Fit.fit_less (omega arith) (fine_fits (fine_add_nodes e.nodes w.shorts h)) in
      Fit.fit_either _ (Fit.fit_on_join _ _ (Fit.fit_less (omega arith) i))
      (Fit.fit_either _ (Fit.fit_on_forward_join _ _ _ (Fit.fit_less (omega arith) i))
      (Fit.fit_either _ (Fit.fit_either _ (Fit.fit_send_shuffle_reply _ _ j) (Fit.fit_either _ (Fit.fit_less (omega arith) i) (Fit.fit_emit _ (Fit.fit_draw_one_of _ (Fit.fit_less (omega arith) i)))))
      (Fit.fit_either _ (Fit.fit_either _ j (Fit.fit_either _ (Fit.fit_start_refill _ _ j) (Fit.fit_refill _ j)))
      (Fit.fit_either _ (Fit.fit_on_neighbor _ _ _ (Fit.fit_less (omega arith) i)) (Fit.fit_on_disconnect _ _ (Fit.fit_less (omega arith) i))))))

  fit_none : Fits 0 r
  fit_none = Fit.fit_less (omega arith) (fine_fits h)

  fit_kind : (k : EventKind) → Fits 0 (H.handle_kind (some k) e r)
  unfolding H.handle_kind
  fit_kind Message = fit_message
  fit_kind DoShuffle = Fit.fit_shuffle_timer fit_none
  fit_kind DoMaintenance = Fit.fit_maintenance_timer fit_none
  fit_kind PendingNeighborRequest = Fit.fit_neighbor_timer _ _ fit_none
  fit_kind RetryJoin = Fit.fit_retry_join _ _ fit_none
  fit_kind PeerDisconnected = Fit.fit_closed _ (Fit.fit_less (omega arith) (fine_fits h))
  fit_kind RequestJoin = Fit.fit_handle_join _ fit_none
  fit_kind UpdatePeerData = Fit.fit_update _ fit_none
  fit_kind Quit = Fit.fit_quit fit_none
  fit_kind Pin = Fit.fit_pin _ fit_none

  fit_dispatch : Fits 0 (H.dispatch e r)
  unfolding H.dispatch
  fit_dispatch = by_kind (λ (o : Option EventKind). Fits 0 (H.handle_kind o e r)) e.kind (λ _. fit_none) (λ k _. fit_kind k)

  fit_steps : Fits 0 (steps e r)
  unfolding steps
  fit_steps = Fit.fit_declined (Fit.fit_first_timers fit_dispatch)

-- a station that keeps the rules is snug
module _ (s : Station) (ok : station_ok s ≡ true) (ds : List ℕ) (room : ℕ) where
  fine_start : Fine [] 0 (start s ds room)
  unfolding data_peers count
  fine_start =
      let b = between_of s ok in
      record {
        clear = λ z. omega arith;
        snug = λ z. record {
          held = b.law.held_ok;
          ranges = b.core.still.ranges;
          slots = omega (arith, b.core.seats.slots_left, b.core.still.ranges.few_slots);
          fits = b.core.seats.places_left;
          asked = b.law.requests_ok.few;
          known = λ x. omega (arith, within_once _ _ (rising_once (keys s.peer_data) b.law.held_ok.rise x) (all_in_true (keys s.peer_data) (data_peers s) b.covered x), count_append x s.active (s.passive ++ keys s.requests), count_append x s.passive (keys s.requests));
        };
      }

  -- 02, S-5: no event is answered 8, whatever is lent
  pub never_eight : (b : List ℕ) → all_under 256 b ≡ true → (handle s b ds room).code ≡ 8 → ⊥
  unfolding handle handle_reading finish accepted refusal
  never_eight b bytes =
      rw (choose_yes (station_ok s) (handle_reading (read_event b) s ds room) (refusal 2 s room) ok)
      (by_reading b bytes (λ (x : Reading). (handle_reading x s ds room).code ≡ 8 → ⊥)
      (λ c l m z. omega arith)
      (λ w. let r = steps _ (start s ds room) in by_choice (λ (a : Result). a.code ≡ 8 → ⊥) (eqb r.code 0) (λ e z. omega arith) (λ e z. (fit_steps _ w fine_start).clear z)))
