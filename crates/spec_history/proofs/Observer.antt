-- What an observer that is shown notices and data can know of the spare addresses.
-- Assumes nothing.
use Prim.Native.Nat.{ℕ, ◌+◌, ◌<◌}
use mathlib.Core.Path.{◌≡◌, refl, sym, ap, subst, ◌∙◌}
use mathlib.Core.Bool.{true, false}
use mathlib.Core.List.{List, [], ◌∷◌}
use mathlib.Core.Option.{Option, none, some}
use native.Mathlib.Omega.{arith}
use lib.ListN.{length, replicate, get_or}
use lib.Dec.{eqb}
use borrow.Author.Tests.{eqb-false, not-true}
use Rattle.base_lists.specs.Lists.{choose, is, count}
use Rattle.base_lists.proofs.Choice.{by_choice, choose_yes, choose_no, split, and_right}
use Rattle.base_lists.proofs.Count.{count_shift, count_snoc}
use Rattle.base_util.proofs.Chances.{pick_below}
use Rattle.base_timing.specs.Timing.{default}
use Rattle.base_peer.specs.Data.{Data}
use Rattle.record.specs.Kinds.{is_output_kind, PendingNeighborRequest, Evicted, kind_byte, output_byte}
use Rattle.record.specs.Format.{encode}
use Rattle.record.specs.Walk.{records_in, records_from}
use Rattle.spec_hyparview.specs.Sides.{wired}
use Rattle.spec_hyparview.specs.Station.{Station, is_me, in_active, in_passive, in_view, passive_is_full}
use Rattle.spec_hyparview.specs.Run.{Run, guard, on, to_draw, one_of, draw_one_of, picked, message, timer, notice, node}
use Rattle.spec_hyparview.specs.Peers as P
use Rattle.spec_hyparview.specs.Evictions.{listed, by_adding}
use Rattle.spec_hyparview.specs.Handle.{new}
use Rattle.base_lists.proofs.Members.{null_no}
use Rattle.spec_hyparview.proofs.Keeping.{one_of_station, emit_station, emit_fine, on_code}
use Rattle.spec_hyparview.proofs.Entering.{on_same, same_after_info}
use Rattle.spec_history.specs.Calls.{Call, state_after, definition}
use Rattle.spec_history.specs.Followed.{followed}
use Rattle.spec_history.specs.Outputs.{cut_records}
use Rattle.spec_history.specs.Observer.{shown, hears, ObserverCanTell, AdditionsTold}

-- two peers come with a ShuffleReply, one of them is asked, and the first request's timer for peer 2 expires; the first draw says whom
abbrev two_peers : List ℕ
two_peers = encode (message 3 9 0 0 0 (node 2 none ∷ node 3 none ∷ []))

abbrev expired : List ℕ
expired = encode (timer (kind_byte PendingNeighborRequest) 2 0 0)

unfoldable pub asking : ℕ → List Call
unfolding followed
asking n =
    record { side = wired; event = two_peers; are_bytes = refl; draws = n ∷ 0 ∷ []; output = replicate 140 0 }
    ∷ record { side = wired; event = expired; are_bytes = refl; draws = 0 ∷ []; output = replicate 76 0 }
    ∷ []

abbrev first : Station
first = (new 1 none default).state

-- 2 was asked and is dropped; or 3 was asked, and nothing happens
asked_2 : (state_after definition (asking 0) first).passive ≡ 3 ∷ []
unfolding followed asking
asked_2 = refl

asked_3 : (state_after definition (asking 1) first).passive ≡ 2 ∷ 3 ∷ []
unfolding followed asking
asked_3 = refl

-- there are no notices and no data
heard_2 : hears definition (asking 0) first ≡ (two_peers, []) ∷ (expired, []) ∷ []
unfolding followed asking shown is_output_kind hears cut_records records_in records_from
heard_2 = refl

heard_3 : hears definition (asking 1) first ≡ (two_peers, []) ∷ (expired, []) ∷ []
unfolding followed asking shown is_output_kind hears cut_records records_in records_from
heard_3 = refl

pub observer_cannot_tell : ObserverCanTell → ⊥
observer_cannot_tell f =
    let e : ◌≡◌ {A = List ℕ} (3 ∷ []) (2 ∷ 3 ∷ []) = sym asked_2 ∙ f 1 none default (asking 0) (asking 1) (heard_2 ∙ sym heard_3) ∙ asked_3 in
    absurd (omega (arith, ap length e))

-- ---- an addition

forget_passive : (p : ℕ) (r : Run) → (P.forget_peer p r).station.passive ≡ r.station.passive
unfolding P.forget_peer P.drop_traces P.drop_mark P.drop_data
forget_passive p r =
    by_choice (λ (w : Run). w.station.passive ≡ r.station.passive) _ (λ e. refl) (λ e. on_same (λ s. s.passive) _ (λ s. refl) r)

forget_code : (p : ℕ) (r : Run) → (P.forget_peer p r).code ≡ r.code
unfolding P.forget_peer
forget_code p r = by_choice (λ (w : Run). w.code ≡ r.code) _ (λ e. refl) (λ e. on_code _ r)

-- a change that was made, since no code is set
changed : (f : Station → Station) (r : Run) → r.code ≡ 0 → (on f r).station ≡ f r.station
unfolding on guard
changed f r z =
    by_choice (λ (w : Run). w.station ≡ f r.station) (eqb r.code 0) (λ e. refl) (λ e. absurd (eqb-false _ _ e z))

evicted_counts : (i : ℕ) (r : Run) (x : ℕ) → i < length r.station.passive → r.code ≡ 0 → count x (P.evict_at i r).station.passive + is x (get_or r.station.passive i 0) ≡ count x r.station.passive
unfolding P.evict_at P.shift_passive
evicted_counts i r x h z =
    rw (forget_passive (get_or r.station.passive i 0) (on (P.shift_passive i) r), changed (P.shift_passive i) r z) (count_shift x r.station.passive i h)

count_one : (x p : ℕ) → count x (p ∷ []) ≡ is x p
unfolding count
count_one x p = omega arith

-- what its record leaves alone
tell_station : (o : Option ℕ) (r : Run) → (P.tell_evicted o r).station ≡ r.station
unfolding P.tell_evicted
tell_station none r = refl
tell_station (some p) r = emit_station (notice (output_byte Evicted) p) r

tell_fine : (o : Option ℕ) (r : Run) → (P.tell_evicted o r).code ≡ 0 → r.code ≡ 0
unfolding P.tell_evicted
tell_fine none r z = z
tell_fine (some p) r z = emit_fine (notice (output_byte Evicted) p) r z

-- whom the record names is gone, and nobody else
module _ (r : Run) (x : ℕ) where
  abbrev place : ℕ
  place = one_of (length r.station.passive) r

  abbrev after : Run
  after = draw_one_of (length r.station.passive) r

  place_low : P.must_evict r.station ≡ true → place < length r.station.passive
  unfolding P.must_evict one_of
  place_low e = pick_below (length r.station.passive) (to_draw r) (null_no r.station.passive (not-true _ (and_right (passive_is_full r.station) _ e)))

  drawn_counts : P.must_evict r.station ≡ true → (P.evict_at place after).code ≡ 0 → count x (P.evict_at place after).station.passive + is x (get_or r.station.passive place 0) ≡ count x r.station.passive
  unfolding P.evict_at
  drawn_counts e z =
      subst (λ (s : Station). count x (P.evict_at place after).station.passive + is x (get_or s.passive place 0) ≡ count x s.passive) (one_of_station (length r.station.passive) r)
      (evicted_counts place after x (rw (one_of_station (length r.station.passive) r) (place_low e)) (sym (forget_code _ _ ∙ on_code _ after) ∙ z))

  evict_yes : P.must_evict r.station ≡ true → (P.evict r).code ≡ 0 → count x (P.evict r).station.passive + count x (listed (P.evicted r)) ≡ count x r.station.passive
  unfolding P.evict P.evicted listed picked
  evict_yes e =
      rw (choose_yes (P.must_evict r.station) (P.evict_at place after) r e, choose_yes (P.must_evict r.station) (some (get_or r.station.passive place 0)) none e, count_one x (get_or r.station.passive place 0))
      (drawn_counts e)

  evict_no : P.must_evict r.station ≡ false → count x (P.evict r).station.passive + count x (listed (P.evicted r)) ≡ count x r.station.passive
  unfolding P.evict P.evicted listed picked count
  evict_no e =
      rw (choose_no (P.must_evict r.station) (P.evict_at place after) r e, choose_no (P.must_evict r.station) (some (get_or r.station.passive place 0)) none e)
      (omega arith)

  room_counts : (P.make_room r).code ≡ 0 → count x (P.make_room r).station.passive + count x (listed (P.evicted r)) ≡ count x r.station.passive
  unfolding P.make_room
  room_counts z =
      rw (tell_station (P.evicted r) (P.evict r)) (split (P.must_evict r.station) (λ e. evict_yes e (tell_fine (P.evicted r) (P.evict r) z)) evict_no)

module _ (p : ℕ) (r : Run) (x : ℕ) where
  pushed_counts : (on (P.push_passive p) (P.make_room r)).code ≡ 0 → count x (on (P.push_passive p) (P.make_room r)).station.passive + count x (listed (P.evicted r)) ≡ count x r.station.passive + is x p
  unfolding P.push_passive
  pushed_counts z =
      let y : (P.make_room r).code ≡ 0 = sym (on_code (P.push_passive p) (P.make_room r)) ∙ z in
      rw (changed (P.push_passive p) (P.make_room r) y) (omega (arith, room_counts r x y, count_snoc x (P.make_room r).station.passive p))

  enter_counts : (P.enter_passive p r).code ≡ 0 → count x (P.enter_passive p r).station.passive + count x (listed (P.evicted_for p r)) ≡ count x r.station.passive + choose (P.is_newcomer p r.station) (is x p) 0
  unfolding P.enter_passive P.evicted_for listed count
  enter_counts =
      split (P.is_newcomer p r.station)
      (λ e. rw (choose_yes (P.is_newcomer p r.station) (on (P.push_passive p) (P.make_room r)) r e, choose_yes (P.is_newcomer p r.station) (P.evicted r) none e, choose_yes (P.is_newcomer p r.station) (is x p) 0 e) pushed_counts)
      (λ e. rw (choose_no (P.is_newcomer p r.station) (on (P.push_passive p) (P.make_room r)) r e, choose_no (P.is_newcomer p r.station) (P.evicted r) none e, choose_no (P.is_newcomer p r.station) (is x p) 0 e) (λ z. omega arith))

-- the data of the newcomer leave the views alone
same_newcomer : (p : ℕ) (d : Data) (r : Run) → P.is_newcomer p (P.insert_peer_info p d r).station ≡ P.is_newcomer p r.station
unfolding P.is_newcomer is_me in_view in_active in_passive
same_newcomer p d r = same_after_info (P.is_newcomer p) (λ y s. refl) p d r

pub additions_told : AdditionsTold
unfolding P.add_passive by_adding P.evicted_by
additions_told p d r z x =
    enter_counts p (P.insert_peer_info p d r) x z
    ∙ (λ j. count x (same_after_info (λ s. s.passive) (λ y s. refl) p d r j) + choose (same_newcomer p d r j) (is x p) 0)
