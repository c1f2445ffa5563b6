-- One whole event keeps the invariant: from a station that has it, `steps` leads to one that has it, within what the event may spend.
-- Assumes nothing.
use mathlib.Core.Path.{◌≡◌, refl, ap}
use mathlib.Core.Bool.{true, false, not}
use mathlib.Core.List.{List, [], ◌∷◌}
use mathlib.Core.Option.{Option, some}
use Prim.Native.Nat.{ℕ, ◌+◌, ◌-◌, ◌*◌, ◌≤◌}
use native.Mathlib.Omega.{arith}
use lib.ListN.{length}
use lib.Dec.{eqb}
use borrow.Author.Tests.{eq-eqb, eqb-true, eqb-false}
use Rattle.base_lists.specs.Lists.{choose, count, subset}
use Rattle.base_lists.specs.Maps.{keys}
use Rattle.base_lists.proofs.Choice.{by_choice, choose_yes, choose_no, split, clash}
use Rattle.base_lists.proofs.Maps.{subset_retain}
use Rattle.base_timing.specs.declared.Config.{Config}
use Rattle.base_peer.specs.Data.{Node}
use Rattle.base_util.specs.Chances.{sure}
use Rattle.record.specs.Kinds.{EventKind, Message, DoShuffle, DoMaintenance, PendingNeighborRequest, RetryJoin, PeerDisconnected, RequestJoin, UpdatePeerData, Quit, Pin, kind_byte, event_kind}
use Rattle.record.specs.Format.{Rec}
use Rattle.record.proofs.ByKind.{by_kind}
use Rattle.spec_hyparview.specs.Station.{Station, data_peers}
use Rattle.spec_hyparview.specs.Run.{Run, guard, on}
use Rattle.spec_hyparview.specs.Budgets.{bare, crowd, adding}
use Rattle.spec_hyparview.specs.Numbers.{message_number, kind_number}
use Rattle.spec_hyparview.specs.Events.{handle_quit}
use Rattle.spec_hyparview.specs.Handle as H
use Rattle.spec_hyparview.specs.Handle.{start, steps, dispatch}
use Rattle.spec_hyparview.proofs.Law.{Lawful, Short, ShortNodes, law_held}
use Rattle.spec_hyparview.proofs.Changes.{retain_held}
use Rattle.spec_hyparview.proofs.Told.{spell, up_after, sent_after, no_more}
use Rattle.spec_hyparview.proofs.Narrow.{Narrow}
use Rattle.spec_hyparview.proofs.Invariant.{Fixed, Terms, calm, Good, Ok}
use Rattle.spec_hyparview.proofs.Keeping.{ease, ok_if, ok_either, ok_on}
use Rattle.spec_hyparview.proofs.Received.{ok_on_join, ok_on_forward_join, ok_on_shuffle, ok_on_shuffle_reply, ok_on_neighbor, ok_on_disconnect}
use Rattle.spec_hyparview.proofs.Timed.{ok_neighbor_timer, ok_retry_join, ok_shuffle_timer, ok_maintenance_timer, ok_schedule_shuffle, ok_schedule_maintenance}
use Rattle.spec_hyparview.proofs.Requested.{ok_handle_join, ok_closed, ok_update, ok_handle_pin, quitting, ok_handle_quit, ok_handle_quit_two}
use Rattle.spec_hyparview.proofs.Reading.{Readable}

-- n messages are enough for the event e at active capacity a: demand 3's numbers
abbrev pub Pays : ℕ → ℕ → Rec → Type 0
Pays a n e = kind_number a e.message (event_kind e.kind) ≤ n

short_first : (ns : List Node) → ShortNodes ns → Short (H.first_node ns).data_of
unfolding ShortNodes H.first_node Short
short_first [] h = tt
short_first (n ∷ ns) h = h.0

pub short : (e : Rec) → Readable e → Short (H.first_data e)
unfolding H.first_data
short e w = short_first e.nodes w.shorts

some_message : (a m : ℕ) → 1 ≤ message_number a m
unfolding message_number
some_message a m = by_choice (λ (w : ℕ). 1 ≤ w) (eqb m 0) (λ _. omega arith) (λ _. by_choice (λ (w : ℕ). 1 ≤ w) (eqb m 4) (λ _. omega arith) (λ _. omega arith))

abbrev capacity : Fixed → ℕ
capacity q = q.config_of.active_view_capacity

-- `draws` are enough for each message that the event may be
module _ {q : Fixed} {n b d draws : ℕ} (e : Rec) (w : Readable e) (arrivals : 40 ≤ draws) (shuffles : 38 + length e.nodes ≤ draws) (some_slot : 1 ≤ capacity q) (free : eqb e.kind (kind_byte DoMaintenance) ≡ true → q.alone_kept ≡ false) where
  pub ok_handle_message : {r : Run} → message_number (capacity q) e.message ≤ n → Ok q calm n (b + (crowd + 32 * adding)) (d + draws) r → Ok q calm 0 b d (H.handle_message e r)
  unfolding H.handle_message message_number
  ok_handle_message p k =
      let one : 1 ≤ n = omega (arith, p, some_message (capacity q) e.message) in
      ok_if (eqb e.message 0)
      (λ i. let l : capacity q + 2 ≤ n = omega (arith, p, choose_yes {A = ℕ} (eqb e.message 0) (capacity q + 2) (choose (eqb e.message 4) 3 1) i) in
      ok_on_join _ w.narrow _ (short e w) some_slot (ease (omega arith) (omega arith) (omega arith) k))
      (λ z. ok_either _ (ok_on_forward_join _ _ _ (short_first e.nodes w.shorts) (ease (omega arith) (omega arith) (omega arith) k))
      (ok_either _ (ok_on_shuffle _ _ _ _ w.shorts w.few (ease (omega arith) (omega arith) (omega arith) k))
      (ok_either _ (ok_on_shuffle_reply _ _ w.shorts w.few (ease (omega arith) (omega arith) (omega arith) k))
      (ok_if (eqb e.message 4)
      (λ i. let l : 3 ≤ n = omega (arith, p, choose_no {A = ℕ} (eqb e.message 0) (capacity q + 2) (choose (eqb e.message 4) 3 1) z, choose_yes {A = ℕ} (eqb e.message 4) 3 1 i) in
      ok_on_neighbor _ w.narrow _ (short e w) _ (ease (omega arith) (omega arith) (omega arith) k))
      (λ _. ok_on_disconnect _ _ (ease (omega arith) (omega arith) (omega arith) k))))))

  module _ {r : Run} (no-quit : eqb e.kind (kind_byte Quit) ≡ false) (k : Ok q calm n (b + (crowd + 32 * adding)) (d + draws) r) where
    ok_kind : (j : EventKind) → e.kind ≡ kind_byte j → kind_number (capacity q) e.message (some j) ≤ n → Ok q calm 0 b d (H.handle_kind (some j) e r)
    unfolding H.handle_kind kind_number
    ok_kind Message z l = ok_handle_message l k
    ok_kind DoShuffle z l = ok_shuffle_timer (ease l (omega arith) (omega arith) k)
    ok_kind DoMaintenance z l = ok_maintenance_timer (free (eq-eqb _ _ z)) (ease l (omega arith) (omega arith) k)
    ok_kind PendingNeighborRequest z l = ok_neighbor_timer _ _ (ease l (omega arith) (omega arith) k)
    ok_kind RetryJoin z l = ok_retry_join _ _ (ease l (omega arith) (omega arith) k)
    ok_kind PeerDisconnected z l = ok_closed _ (ease l (omega arith) (omega arith) k)
    ok_kind RequestJoin z l = ok_handle_join _ w.narrow (ease l (omega arith) (omega arith) k)
    ok_kind UpdatePeerData z l = ok_update _ (short e w) (ease (omega arith) (omega arith) (omega arith) k)
    ok_kind Quit z l = clash _ (eq-eqb _ _ z) no-quit
    ok_kind Pin z l = ok_handle_pin _ (ease (omega arith) (omega arith) (omega arith) k)

    pub ok_dispatch : Pays (capacity q) n e → Ok q calm 0 b d (dispatch e r)
    unfolding dispatch
    ok_dispatch p =
        by_kind (λ (o : Option EventKind). kind_number (capacity q) e.message o ≤ n → Ok q calm 0 b d (H.handle_kind o e r)) e.kind
        (λ _ _. ease (omega arith) (omega arith) (omega arith) k) ok_kind p

pub quit_dispatch : (e : Rec) → eqb e.kind (kind_byte Quit) ≡ true → (r : Run) → dispatch e r ≡ handle_quit r
unfolding dispatch choose
quit_dispatch e f r = rw (eqb-true e.kind (kind_byte Quit) f)

pub ok_first_timers : {q : Fixed} {t : Terms} {m b d : ℕ} {r : Run} → Ok q t m (b + 2 * bare) (d + 1) r → Ok q t m b d (H.first_timers r)
unfolding H.first_timers H.note_scheduled
ok_first_timers k =
    ok_either _ (ease (omega arith) (omega arith) (omega arith) k)
    (ok_schedule_maintenance (ok_schedule_shuffle (ok_on _ (λ o h. h) (λ w. w) (ease (omega arith) (omega arith) (omega arith) k))))

pub ok_forget_declined : {q : Fixed} {t : Terms} {m b d : ℕ} {r : Run} → Ok q t m b d r → Ok q t m b d (on H.forget_declined r)
unfolding H.forget_declined
ok_forget_declined k = ok_on _ (λ o h. h) (λ w. law_held w (retain_held _ w.held_ok)) k

-- data of others is held only of those in a view or with an open request
abbrev pub Covered : Station → Type 0
Covered s = subset (keys s.peer_data) (data_peers s) ≡ true

-- the last step leaves no other data
pub covered_steps : (e : Rec) (r : Run) → (steps e r).code ≡ 0 → Covered (steps e r).station
unfolding steps H.forget_declined on guard data_peers
covered_steps e r =
    by_choice (λ (w : Run). w.code ≡ 0 → Covered w.station) (eqb (H.first_timers (dispatch e r)).code 0)
    (λ z i. subset_retain (data_peers (H.first_timers (dispatch e r)).station) (H.first_timers (dispatch e r)).station.peer_data)
    (λ z i. absurd (eqb-false (H.first_timers (dispatch e r)).code 0 z i))

-- what holds of a station between events: of those up and the messages sent and allowed so far, and the rules
pub record Between (c : Config) (me : ℕ) (up : List ℕ) (sent allowed : ℕ) (s : Station) : Type 0 where
  pub core : Good (record {
    up_of = up;
    sent_of = sent;
    allowed = allowed;
    config_of = c;
    self_of = me;
    alone_of = 0;
    alone_kept = false;
    draws_lent = [];
    room_lent = 0;
    most_draws = 0;
  }) calm 0 s []
  pub law : Lawful s
  pub narrow : Narrow s
  pub covered : Covered s

-- an event e starts: n more messages are allowed, and a Quit starts with none up; `most` draws may be used of those that every choice keeps
abbrev pub at_start_with : ℕ → Config → ℕ → List ℕ → ℕ → ℕ → ℕ → List ℕ → ℕ → Rec → Fixed
at_start_with most c me up sent allowed alone draws room e = record {
  up_of = choose (eqb e.kind (kind_byte Quit)) [] up;
  sent_of = sent;
  allowed = allowed;
  config_of = c;
  self_of = me;
  alone_of = alone;
  alone_kept = not (eqb e.kind (kind_byte DoMaintenance));
  draws_lent = draws;
  room_lent = room;
  most_draws = most;
}

-- 512 are enough for every event
abbrev pub at_start : Config → ℕ → List ℕ → ℕ → ℕ → ℕ → List ℕ → ℕ → Rec → Fixed
at_start c me up sent allowed alone draws room e = at_start_with 512 c me up sent allowed alone draws room e

module _ {c : Config} {me : ℕ} {up : List ℕ} {sent allowed : ℕ} {s : Station} (n : ℕ) (ds : List ℕ) (room : ℕ) (e : Rec) (w : Readable e) (p : Pays c.active_view_capacity n e) (h : Between c me up sent allowed s) where
  start_plain_with : (most : ℕ) → eqb e.kind (kind_byte Quit) ≡ false → Ok (at_start_with most c me up sent (allowed + n) s.passes_alone ds room e) calm n 8192 most (start s ds room)
  unfolding up_after sent_after spell choose sure
  start_plain_with most f = record {
    good = λ z. record {
      told = [];
      spelled = refl;
      sound = no_more;
      core = let g = h.core in record {
        still = record { fixed = g.still.fixed; mine = g.still.mine; ranges = g.still.ranges; alone_stays = λ y. refl };
        seats = g.seats;
        waits = g.waits;
        tally = record { noted = λ x. rw f (g.tally.noted x); bound = omega (arith, g.tally.bound) };
      };
      law = h.law;
      bytes_left = omega arith;
      draws_left = omega arith;
    };
    codes = record { lent = refl; within = omega arith; space = refl; five = λ z. absurd (omega arith); roomy = λ z. absurd (omega arith); nine = λ z. absurd (omega arith); low = λ z. absurd (omega arith) };
  }

  start_quit_with : (most : ℕ) → eqb e.kind (kind_byte Quit) ≡ true → Ok (at_start_with most c me up sent (allowed + n) s.passes_alone ds room e) (quitting s.active) 0 8192 most (start s ds room)
  unfolding up_after sent_after spell choose count sure
  start_quit_with most f = record {
    good = λ z. record {
      told = [];
      spelled = refl;
      sound = no_more;
      core = let g = h.core in record {
        still = record { fixed = g.still.fixed; mine = g.still.mine; ranges = g.still.ranges; alone_stays = λ y. refl };
        seats = g.seats;
        waits = g.waits;
        tally = record { noted = λ x. rw f (omega arith); bound = omega (arith, g.tally.bound) };
      };
      law = h.law;
      bytes_left = omega arith;
      draws_left = omega arith;
    };
    codes = record { lent = refl; within = omega arith; space = refl; five = λ z. absurd (omega arith); roomy = λ z. absurd (omega arith); nine = λ z. absurd (omega arith); low = λ z. absurd (omega arith) };
  }

  some_slot : 1 ≤ c.active_view_capacity
  some_slot = omega (arith, h.core.still.ranges.some_slot, ap (λ (k : Config). k.active_view_capacity) h.core.still.fixed)

  pub start_plain : eqb e.kind (kind_byte Quit) ≡ false → Ok (at_start c me up sent (allowed + n) s.passes_alone ds room e) calm n 8192 512 (start s ds room)
  start_plain f = start_plain_with 512 f

  pub start_quit : eqb e.kind (kind_byte Quit) ≡ true → Ok (at_start c me up sent (allowed + n) s.passes_alone ds room e) (quitting s.active) 0 8192 512 (start s ds room)
  start_quit f = start_quit_with 512 f

  abbrev Ended : ℕ → Type 0
  Ended most = Ok (at_start_with most c me up sent (allowed + n) s.passes_alone ds room e) calm 0 0 0 (steps e (start s ds room))

  -- 41 draws for an arrival or a shuffle's timer, 39 more than its nodes for a Shuffle; one of them is the first timer's
  pub ok_plain : (most : ℕ) → 41 ≤ most → 39 + length e.nodes ≤ most → eqb e.kind (kind_byte Quit) ≡ false → Ended most
  unfolding steps
  ok_plain most l k f =
      ok_forget_declined (ok_first_timers (ok_dispatch {draws = most - 1} e w (omega arith) (omega arith) some_slot (λ z. rw z) f (ease (omega arith) (omega arith) (omega arith) (start_plain_with most f)) p))

  -- 38 for each neighbour that is left
  pub ok_quit : (most : ℕ) → 305 ≤ most → eqb e.kind (kind_byte Quit) ≡ true → Ended most
  unfolding steps
  ok_quit most l f =
      ok_forget_declined (ok_first_timers (rw (quit_dispatch e f (start s ds room))
      (ok_handle_quit (omega (arith, h.core.seats.slots_left, h.core.still.ranges.few_slots)) (ease (omega arith) (omega arith) (omega arith) (start_quit_with most f)))))

  -- 31 for each of two, as one neighbour and none are not shuffled
  pub ok_quit_two : (most : ℕ) → 63 ≤ most → length s.active ≤ 2 → eqb e.kind (kind_byte Quit) ≡ true → Ended most
  unfolding steps
  ok_quit_two most l two f =
      ok_forget_declined (ok_first_timers (rw (quit_dispatch e f (start s ds room))
      (ok_handle_quit_two refl two (ease (omega arith) (omega arith) (omega arith) (start_quit_with most f)))))

  pub ok_steps : Ended 512
  ok_steps =
      split (eqb e.kind (kind_byte Quit)) (λ f. ok_quit 512 (omega arith) f)
      (λ f. ok_plain 512 (omega arith) (let k = w.few in omega arith) f)
