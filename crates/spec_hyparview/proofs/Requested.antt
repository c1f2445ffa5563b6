-- What comes from the station's own side keeps what holds between events: a request to join, a closed connection, own data, and Quit.
-- Assumes nothing.
use mathlib.Core.Path.{◌≡◌, refl, sym, ap, subst}
use mathlib.Core.Bool.{Bool, true, false}
use mathlib.Core.List.{List, [], ◌∷◌}
use Prim.Native.Nat.{ℕ, ◌+◌, ◌-◌, ◌*◌, ◌≤◌, ◌<◌}
use native.Mathlib.Omega.{arith}
use lib.ListN.{length, get_or}
use lib.Dec.{ltb, eqb}
use borrow.Author.Tests.{eqb-false}
use Rattle.base_lists.specs.Lists.{choose, is, count, mem, without, remove, Rising}
use Rattle.base_lists.specs.Maps.{keys, cut, Each}
use Rattle.base_lists.proofs.Choice.{by_choice}
use Rattle.base_lists.proofs.Count.{is_self, is_le, is_not, is_split, mem_true, mem_false, count_remove, length_remove}
use Rattle.base_peer.specs.Data.{Data}
use Rattle.record.specs.Format.{Rec}
use Rattle.spec_hyparview.specs.Station.{Station, is_me, in_active, most_pins, is_pinned, peers_end}
use Rattle.spec_hyparview.specs.Run.{Run, guard, on, require}
use Rattle.spec_hyparview.specs.Budgets.{bare, single, disconnecting, removing}
use Rattle.spec_hyparview.specs.Peers as P
use Rattle.spec_hyparview.specs.Active.{connection_closed, leave_active}
use Rattle.spec_hyparview.specs.Messages.{drop_request}
use Rattle.spec_hyparview.specs.Events as E
use Rattle.base_lists.proofs.Members.{count_cut, count_put, count_length, length_remove_in, renewed}
use Rattle.spec_hyparview.proofs.Law.{Numbered, Short, law_joins, law_requests, law_held, law_own, law_alive, law_refused, law_pins}
use Rattle.spec_hyparview.proofs.Changes.{cut_numbered, put_numbered, cut_held, no_refusals, unpin, add_pin}
use Rattle.spec_hyparview.proofs.Invariant.{Fixed, Terms, calm, Good, Ok}
use Rattle.spec_hyparview.proofs.Keeping.{ten, seventeen, eighteen, ease, ok_if, ok_either, ok_on, ok_map, ok_claim, ok_require, require_fine, ok_quiet}
use Rattle.spec_hyparview.proofs.Sends.{no_node, disconnect_station, ok_join, ok_send_disconnect_with, ok_send_disconnect, ok_refill}
use Rattle.spec_hyparview.proofs.Passive.{ok_drop_mark}
use Rattle.spec_hyparview.proofs.Leaving.{ok_remove_active}
use Rattle.spec_hyparview.proofs.Received.{ok_drop_request}

-- while p is a bootstrap peer, and maybe about to be joined
abbrev pub rooted_in : List ℕ → ℕ → Terms
rooted_in g p = record { guest = g; barred = []; loose = []; inside = []; rooted = p ∷ []; silent = []; slots = 0; places = 0 }

-- handle_join

pub fewer_joins : (late : Bool) (old : ℕ) (m : List (ℕ × ℕ)) (x : ℕ) → count x (keys m) ≤ 1 → count x (keys (choose late (cut old m) m)) ≤ count x (keys m) - choose late (is x old) 0
unfolding choose
fewer_joins true old m x h = omega (arith, count_cut x old m h)
fewer_joins false old m x h = omega arith

pub push_boot : (q : Fixed) (m p : ℕ) (s : Station) (o : List Rec) → Good q calm m s o → Good q (rooted_in [] p) m (E.push_bootstrap p s) o
unfolding E.push_bootstrap E.drop_oldest_join E.must_drop_oldest E.oldest count
push_boot q m p s o h =
    let boo = s.bootstrap in
    let w = renewed 8 p boo (omega arith) h.waits.few h.waits.boots in
    let j : (x : ℕ) → count x (keys (E.drop_oldest_join p s).joins) ≤ count x (keys s.joins) - choose (ltb 8 (length (without p boo) + 1)) (is x (get_or (without p boo) 0 0)) 0 =
    (λ x. fewer_joins (ltb 8 (length (without p boo) + 1)) (get_or (without p boo) 0 0) s.joins x (omega (arith, h.waits.apart x))) in
    record {
      still = h.still;
      seats = h.seats;
      waits = record {
        barring = λ x. omega (arith, h.waits.barring x, j x);
        apart = λ x. omega (arith, h.waits.apart x, j x);
        known = λ x. omega (arith, h.waits.known x, j x, w.stays x);
        boots = w.once;
        few = w.few;
        rooting = λ x. omega (arith, w.has_new x);
      };
      tally = h.tally;
    }

module _ {q : Fixed} {m b d : ℕ} where
  pub ok_push_bootstrap : (p : ℕ) {r : Run} → Ok q calm m b d r → Ok q (rooted_in [] p) m b d (on (E.push_bootstrap p) r)
  unfolding E.push_bootstrap E.drop_oldest_join
  ok_push_bootstrap p {r} k =
      ok_on _ (λ o h. push_boot q m p r.station o h)
      (λ w. law_joins w (by_choice (λ j. Numbered j r.station.next_join) _ (λ e. cut_numbered _ w.joins_ok) (λ e. w.joins_ok))) k

  pub ok_await_join : (p : ℕ) {r : Run} → Ok q (rooted_in (p ∷ []) p) m (b + bare) d r → Ok q calm m b d (E.await_join p r)
  unfolding E.await_join E.open_join E.join_counts E.note_join count
  ok_await_join p {r} k =
      ok_quiet _ bare (omega arith) (λ e. omega arith) (λ e. omega arith) (λ z w. no_node _ refl)
      (ok_claim ten _ (E.note_join p) (λ z e o h w. let s = r.station in (
        record {
          still = h.still;
          seats = record {
            one = h.seats.one;
            guests = λ x. omega (arith, h.seats.guests x);
            within = h.seats.within;
            slots_left = h.seats.slots_left;
            places_left = h.seats.places_left;
            marks = h.seats.marks;
            narrow = λ x y. h.seats.narrow x (omega arith);
          };
          waits = record {
            barring = λ x. omega (arith, h.waits.boots x, count_put x p s.next_join s.joins (λ y. count y s.bootstrap) (omega (arith, h.waits.rooting p, is_self p)) (h.waits.known x));
            apart = λ x. omega (arith, h.waits.apart x, count_put x p s.next_join s.joins (λ y. 1 - (count y s.active + is y s.me)) (omega (arith, h.seats.guests p, is_self p)) (omega (arith, h.waits.apart x)));
            known = λ x. count_put x p s.next_join s.joins (λ y. count y s.bootstrap) (omega (arith, h.waits.rooting p, is_self p)) (h.waits.known x);
            boots = h.waits.boots;
            few = h.waits.few;
            rooting = λ x. omega arith;
          };
          tally = h.tally;
        },
        law_joins w (put_numbered p e w.joins_ok),
      )) k)

  pub unroot : {g : List ℕ} {p : ℕ} {r : Run} → Ok q (rooted_in g p) m b d r → Ok q calm m b d r
  unfolding count
  unroot k = ok_map (λ o h w. record {
    still = h.still;
    seats = record {
      one = h.seats.one;
      guests = λ x. omega (arith, h.seats.guests x);
      within = h.seats.within;
      slots_left = h.seats.slots_left;
      places_left = h.seats.places_left;
      marks = h.seats.marks;
      narrow = λ x y. h.seats.narrow x (omega arith);
    };
    waits = record {
      barring = h.waits.barring;
      apart = h.waits.apart;
      known = h.waits.known;
      boots = h.waits.boots;
      few = h.waits.few;
      rooting = λ x. omega arith;
    };
    tally = h.tally;
  }) k

  pub invite_root : (p : ℕ) {r : Run} → p < peers_end → is_me p r.station ≡ false → in_active p r.station ≡ false → Ok q (rooted_in [] p) m b d r → Ok q (rooted_in (p ∷ []) p) m b d r
  unfolding count is_me in_active
  invite_root p {r} pn e a k = ok_map (λ o h w. record {
    still = h.still;
    seats = record {
      one = h.seats.one;
      guests = λ x. is_split (λ y. count y r.station.active + is y r.station.me ≤ 1 → count y (p ∷ []) + count y r.station.active + is y r.station.me ≤ 1) x p (λ i. omega (arith, mem_false p r.station.active a, is_not p r.station.me e, is_le p p)) (λ n i. omega arith) (omega (arith, h.seats.guests x));
      within = h.seats.within;
      slots_left = h.seats.slots_left;
      places_left = h.seats.places_left;
      marks = h.seats.marks;
      narrow = λ x. is_split (λ y. 1 ≤ count y (p ∷ []) + count y r.station.active → y < peers_end) x p (λ i. pn) (λ n i. h.seats.narrow x (omega arith));
    };
    waits = h.waits;
    tally = h.tally;
  }) k

-- RequestJoin: 1
pub ok_handle_join : {q : Fixed} {b d : ℕ} (p : ℕ) {r : Run} → p < peers_end → Ok q calm 1 (b + (single + bare)) d r → Ok q calm 0 b d (E.handle_join p r)
unfolding E.handle_join E.join_new E.join_other
ok_handle_join {q} {b} {d} p {r} pn k =
    let j : Ok q (rooted_in [] p) 1 (b + (single + bare)) d (on (E.push_bootstrap p) r) = ok_push_bootstrap p k in
    ok_if _ (λ e. unroot (ease (omega arith) (omega arith) (omega arith) j))
    (λ e. ok_if _ (λ f. ok_join p (unroot (ease (omega arith) (omega arith) (omega arith) j)))
    (λ f. ok_await_join p (ok_join p (invite_root p pn f e (ease (omega arith) (omega arith) (omega arith) j)))))

-- handle_connection_closed: 1

module _ {q : Fixed} {m b d : ℕ} where
  pub ok_lose_passive : (p : ℕ) {r : Run} → Ok q calm m b d r → Ok q calm m b d (E.lose_passive p r)
  unfolding E.lose_passive E.drop_dead P.drop_data P.remove_passive P.is_marked
  ok_lose_passive p {r} k =
      let pas = r.station.passive in
      let ali = r.station.alive in
      ok_if (mem p ali)
      (λ e. ok_drop_mark p k)
      (λ e. ok_on _ (λ o h. record {
        still = h.still;
        seats = record {
          one = λ x. omega (arith, h.seats.one x, count_remove x p pas);
          guests = h.seats.guests;
          within = h.seats.within;
          slots_left = h.seats.slots_left;
          places_left = omega (arith, h.seats.places_left, length_remove p pas);
          marks = λ x. is_split (λ y. count y ali ≤ count y pas + count y [] → count y ali ≤ count y (remove p pas) + count y []) x p (λ o. omega (arith, mem_false p ali e)) (λ n o. omega (arith, count_remove x p pas)) (h.seats.marks x);
          narrow = h.seats.narrow;
        };
        waits = h.waits;
        tally = h.tally;
      })
      (λ w. law_held w (cut_held p w.held_ok)) k)

pub ok_closed : {q : Fixed} {b d : ℕ} (p : ℕ) {r : Run} → Ok q calm 1 (b + removing) (d + 2) r → Ok q calm 0 b d (E.handle_connection_closed p r)
unfolding E.handle_connection_closed E.lose E.lose_other
ok_closed {q} {b} {d} p {r} k =
    let j : Ok q calm 1 (b + removing) (d + 2) (on (drop_request p) r) = ok_drop_request p k in
    ok_either _ (ok_remove_active p connection_closed (λ e. let z : ◌≡◌ {A = ℕ} 0 1 = cc in absurd (omega arith)) (ease (omega arith) (omega arith) (omega arith) j))
    (ok_either _ (ok_refill _ (ok_lose_passive p (ease (omega arith) (omega arith) (omega arith) j))) (ok_lose_passive p (ease (omega arith) (omega arith) (omega arith) j)))

-- UpdatePeerData: 0
pub ok_update : {q : Fixed} {m b d : ℕ} (x : Data) {r : Run} → Short x → Ok q calm m b d r → Ok q calm m b d (on (E.update_own_data x) r)
unfolding E.update_own_data
ok_update x l k = ok_on _ (λ o h. h) (λ w. law_own w l) k

-- Pin: 0
module _ {q : Fixed} {t : Terms} {m b d : ℕ} where
  pub ok_handle_pin : (p : ℕ) {r : Run} → Ok q t m b d r → Ok q t m b d (E.handle_pin p r)
  unfolding E.handle_pin E.require_neighbor E.pin_neighbor E.note_pin E.pins_left is_pinned most_pins in_active
  ok_handle_pin p {r} k =
      let test = mem p r.station.active in
      let here : (require 17 test r).code ≡ 0 → 1 ≤ count p (require 17 test r).station.active =
      (λ z. let e = require_fine seventeen test r z in subst (λ (w : Run). 1 ≤ count p w.station.active) (sym e.0) (mem_true p r.station.active e.1)) in
      ok_claim eighteen _ (E.note_pin p) (λ z e o g w. (g, law_pins w (add_pin p w.pins_ok (here z) e))) (ok_require seventeen test k)

-- handle_quit: 0, since each neighbour that leaves gives back two

-- while these are still active, though none is up
abbrev pub quitting : List ℕ → Terms
quitting ps = record { guest = []; barred = []; loose = []; inside = []; rooted = []; silent = ps; slots = 0; places = 0 }

module _ {q : Fixed} {m b d : ℕ} where
  pub ok_remove_neighbor : (p : ℕ) (ps : List ℕ) {r : Run} → Ok q (quitting (p ∷ ps)) m b d r → Ok q (quitting ps) (m + 2) b d (on (E.remove_neighbor p) r)
  unfolding E.remove_neighbor leave_active count
  ok_remove_neighbor p ps {r} k =
      let act = r.station.active in
      ok_on _ (λ o h. let i : 1 ≤ count p act = omega (arith, h.tally.noted p, is_self p) in record {
        still = h.still;
        seats = record {
          one = λ x. omega (arith, h.seats.one x, count_remove x p act);
          guests = λ x. omega (arith, h.seats.guests x, count_remove x p act);
          within = λ x. omega arith;
          slots_left = omega (arith, h.seats.slots_left, length_remove p act);
          places_left = h.seats.places_left;
          marks = h.seats.marks;
          narrow = λ x y. h.seats.narrow x (omega (arith, count_remove x p act));
        };
        waits = record {
          barring = h.waits.barring;
          apart = λ x. omega (arith, h.waits.apart x, count_remove x p act);
          known = h.waits.known;
          boots = h.waits.boots;
          few = h.waits.few;
          rooting = h.waits.rooting;
        };
        tally = record {
          noted = λ x. omega (arith, h.tally.noted x, count_remove x p act);
          bound = omega (arith, h.tally.bound, length_remove_in p act i, count_length p act);
        };
      })
      (λ w. law_pins w (unpin p w.pins_ok _ (λ x. omega (arith, count_remove x p act)))) k

pub ok_quit_all : {q : Fixed} {m b d : ℕ} (ps : List ℕ) {r : Run} → Ok q (quitting ps) m (b + disconnecting * length ps) (d + 38 * length ps) r → Ok q (quitting []) m b d (E.quit_all ps r)
unfolding E.quit_all E.quit_one
ok_quit_all [] k = ease (omega arith) (omega arith) (omega arith) k
ok_quit_all (p ∷ ps) k =
    ok_quit_all ps (ok_send_disconnect p false (ok_remove_neighbor p ps (ease (omega arith) (omega arith) (omega arith) k)))

ok_clear_all : {q : Fixed} {m b d : ℕ} {r : Run} → Ok q (quitting []) m b d r → Ok q calm m b d (on E.clear_all r)
unfolding E.clear_all count Rising keys Each
ok_clear_all k =
    ok_on _ (λ o h. record {
      still = h.still;
      seats = record {
        one = λ x. omega (arith, h.seats.one x);
        guests = h.seats.guests;
        within = h.seats.within;
        slots_left = h.seats.slots_left;
        places_left = omega (arith, h.still.ranges.some_place);
        marks = λ x. omega arith;
        narrow = h.seats.narrow;
      };
      waits = h.waits;
      tally = h.tally;
    })
    (λ w. law_requests (law_held (law_alive (law_refused w no_refusals) (record { rise = tt })) (record { rise = tt; few = omega arith; shorts = tt; not_own = refl })) (record {
      numbered = record { rise = tt; below = tt; next_top = w.requests_ok.numbered.next_top };
      few = omega arith;
    }))
    k

pub ok_handle_quit : {q : Fixed} {m b d : ℕ} {r : Run} → length r.station.active ≤ 8 → Ok q (quitting r.station.active) m (b + 8 * disconnecting) (d + 304) r → Ok q calm m b d (E.handle_quit r)
unfolding E.handle_quit
ok_handle_quit {r = r} l k = ok_clear_all (ok_quit_all r.station.active (ease (omega arith) (omega arith) (omega arith) k))

-- of two neighbours: once one is gone the other is not shuffled
remove_fewer : (p : ℕ) (r : Run) → length (on (E.remove_neighbor p) r).station.active ≤ length r.station.active
unfolding on guard E.remove_neighbor leave_active
remove_fewer p r = by_choice (λ (w : Run). length w.station.active ≤ length r.station.active) _ (λ _. length_remove p r.station.active) (λ _. omega arith)

removed_first : (p : ℕ) (ps : List ℕ) (r : Run) → r.code ≡ 0 → r.station.active ≡ p ∷ ps → length (on (E.remove_neighbor p) r).station.active ≤ length ps
unfolding on guard E.remove_neighbor leave_active count
removed_first p ps r z e =
    by_choice (λ (w : Run). length w.station.active ≤ length ps) (eqb r.code 0)
    (λ _. rw e (omega (arith, length_remove_in p (p ∷ ps) (omega (arith, is_self p)))))
    (λ n. absurd (eqb-false r.code 0 n z))

module _ {q : Fixed} {m b d : ℕ} (p : ℕ) (ps : List ℕ) {r : Run} where
  ok_quit_last : length (on (E.remove_neighbor p) r).station.active ≤ 1 → Ok q (quitting (p ∷ ps)) m (b + disconnecting) (d + 31) r → Ok q (quitting ps) m b d (E.quit_one p r)
  unfolding E.quit_one
  ok_quit_last l k = ok_send_disconnect_with 0 (omega arith) p false (λ n o g. omega arith) (ok_remove_neighbor p ps (ease (omega arith) (omega arith) (omega arith) k))

quit_station : (p : ℕ) (r : Run) → (E.quit_one p r).station ≡ (on (E.remove_neighbor p) r).station
unfolding E.quit_one
quit_station p r = disconnect_station p false (on (E.remove_neighbor p) r)

ok_quit_few : {q : Fixed} {m b d : ℕ} (ps : List ℕ) {r : Run} → length ps ≤ 2 → r.code ≡ 0 → r.station.active ≡ ps → Ok q (quitting ps) m (b + 2 * disconnecting) (d + 62) r → Ok q (quitting []) m b d (E.quit_all ps r)
unfolding E.quit_all
ok_quit_few [] l z e k = ease (omega arith) (omega arith) (omega arith) k
ok_quit_few (p ∷ []) {r} l z e k = ok_quit_last p [] (omega (arith, removed_first p [] r z e)) (ease (omega arith) (omega arith) (omega arith) k)
ok_quit_few (p ∷ o ∷ []) {r} l z e k =
    let one = removed_first p (o ∷ []) r z e in
    let w = E.quit_one p r in
    let few : length (on (E.remove_neighbor o) w).station.active ≤ 1 = omega (arith, one, remove_fewer o w, ap (λ (s : Station). length s.active) (quit_station p r)) in
    ok_quit_last o [] few (ok_quit_last p (o ∷ []) one (ease (omega arith) (omega arith) (omega arith) k))
ok_quit_few (p ∷ o ∷ n ∷ ps) l z e k = absurd (omega (arith, l))

pub ok_handle_quit_two : {q : Fixed} {m b d : ℕ} {r : Run} → r.code ≡ 0 → length r.station.active ≤ 2 → Ok q (quitting r.station.active) m (b + 2 * disconnecting) (d + 62) r → Ok q calm m b d (E.handle_quit r)
unfolding E.handle_quit
ok_handle_quit_two {r = r} z l k = ok_clear_all (ok_quit_few r.station.active l z refl k)
