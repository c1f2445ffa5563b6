-- Demand 3, for every list of calls to a new station.
-- Assumes nothing.
use mathlib.Core.Path.{◌≡◌, refl, sym, ap, subst, ◌∙◌}
use mathlib.Core.Bool.{true, false, ◌&&◌}
use mathlib.Core.List.{List, [], ◌∷◌}
use Prim.Native.Nat.{ℕ, ◌+◌, ◌-◌, ◌≤◌}
use native.Mathlib.Omega.{arith}
use lib.ListN.{length}
use lib.Dec.{eqb}
use borrow.Author.Tests.{eqb-true, eqb-false, ne_eqb}
use Rattle.base_lists.specs.Lists.{choose, is, count, mem, subset, Rising}
use Rattle.base_lists.specs.Maps.{keys, Each}
use Rattle.base_lists.specs.Tests.{All}
use Rattle.base_lists.proofs.Choice.{by_choice, split, choose_yes, and_left, and_right, clash}
use Rattle.base_lists.proofs.Count.{is_self, is_le, is_not, mem_true, mem_false}
use Rattle.base_timing.specs.Timing.{in_range}
use Rattle.base_timing.specs.declared.Config.{Config}
use Rattle.base_peer.specs.Data.{Data}
use Rattle.record.specs.Format.{Rec}
use Rattle.record.specs.InForm.{InForm}
use Rattle.record.specs.Read.{Reading, read_event, rec_of, rec_of_by, header_of_by}
use Rattle.record.specs.Walk.{kind_in, message_in}
use Rattle.spec_hyparview.specs.Station.{Station}
use Rattle.spec_hyparview.specs.Rules.{all_under, station_ok, short_data}
use Rattle.spec_hyparview.specs.Handle.{Result, Made, new, new_station, start, steps, refusal, accepted, finish, handle_reading, handle}
use Rattle.base_lists.proofs.Members.{mem_yes, mem_no, same_length}
use Rattle.spec_hyparview.proofs.Law.{Lawful, Small}
use Rattle.spec_hyparview.proofs.Told.{up_after, sent_after}
use Rattle.spec_hyparview.proofs.Narrow.{Narrow}
use Rattle.spec_hyparview.proofs.Invariant.{calm, Good}
use Rattle.spec_hyparview.proofs.Reading.{Readable, by_form}
use Rattle.spec_hyparview.proofs.Whole.{Pays, Covered, covered_steps, Between, at_start, ok_steps}
use Rattle.spec_hyparview.proofs.Tested.{ranges_of, data_true, own_held, distinct_yes, rules_of}
use Rattle.spec_hyparview.proofs.Written.{formed_event}
use Rattle.spec_hyparview.proofs.Uncrowded.{never_eight}
use Rattle.spec_hyparview.specs.Sides.{draws_from}
use Rattle.spec_hyparview.proofs.Sides.{by_side}
use Rattle.spec_history.specs.Ledger.{Ledger, empty_ledger, number_of, open_event, feed}
use Rattle.spec_history.specs.Calls.{Call, NewGiven, result_of, answered, state_after, codes, ledger_after, definition}
use Rattle.spec_history.specs.Demand.{Views, Booked, Demand3, Demand3Holds}
use Rattle.spec_history.specs.Refusals.{NeverEightAfter}
use Rattle.spec_history.proofs.Heard.{booked, heard}

-- the number of demand 3 is enough for its event
pub pays : (a : ℕ) (b : List ℕ) → Pays a (number_of a b) (rec_of b)
unfolding number_of kind_in message_in rec_of_by header_of_by
pays a b = omega arith

-- what holds after each call: of the state that it hands back and of the ledger
abbrev pub Kept : Config → ℕ → Ledger → Station → Type 0
Kept c me l s = Between c me l.up l.sent l.allowance s

-- an answer that is not 2, and keeps it
pub record Fine (c : Config) (me : ℕ) (b : List ℕ) (l : Ledger) (a : Result) : Type 0 where
  pub not_two : a.code ≡ 2 → ⊥
  pub kept : Kept c me (feed c.active_view_capacity b a.code a.output l) a.state

-- what a run's records tell is what the ledger holds
told_kept : (c : Config) (me : ℕ) (b : List ℕ) (l : Ledger) (alone : ℕ) (ds : List ℕ) (room : ℕ) (o : List Rec) (v : Station)
    → Good (at_start c me l.up l.sent (l.allowance + number_of c.active_view_capacity b) alone ds room (rec_of b)) calm 0 v o → Lawful v → Narrow v → Covered v
    → Kept c me (booked o (open_event c.active_view_capacity b l)) v
unfolding booked open_event up_after sent_after kind_in rec_of_by header_of_by
told_kept c me b l alone ds room o v g w n y =
    record {
      core = record {
        still = record {
          fixed = g.still.fixed;
          mine = g.still.mine;
          ranges = g.still.ranges;
          alone_stays = λ y. clash false y refl;
        };
        seats = g.seats;
        waits = g.waits;
        tally = g.tally;
      };
      law = w;
      narrow = n;
      covered = y;
    }

module _ {c : Config} {me : ℕ} {l : Ledger} {s : Station} (h : Kept c me l s) (b : List ℕ) where
  fine_refusal : (n room : ℕ) → 3 ≤ n → Fine c me b l (refusal n s room)
  unfolding refusal feed choose
  fine_refusal n room i = record { not_two = λ e. omega arith; kept = rw (ne_eqb n 0 (λ e. omega arith)) h }

  fine_event : (ds : List ℕ) (room : ℕ) → Readable (rec_of b) → InForm (rec_of b) → Fine c me b l (finish s (steps (rec_of b) (start s ds room)))
  unfolding finish accepted feed choose
  fine_event ds room w f =
      let a = c.active_view_capacity in
      let r = steps (rec_of b) (start s ds room) in
      let k = ok_steps (number_of a b) ds room (rec_of b) w (pays a b) h in
      split (eqb r.code 0)
      (λ z. let g = k.good (eqb-true r.code 0 z) in rw z (record {
        not_two = λ e. omega arith;
        kept = rw (heard g.told r.out (r.room - length r.out) (open_event a b l) g.sound g.spelled) (told_kept c me b l s.passes_alone ds room g.told r.station g.core g.law (formed_event s h.narrow ds room (rec_of b) w f).narrow (covered_steps (rec_of b) (start s ds room) (eqb-true r.code 0 z)));
      }))
      (λ z. rw z (fine_refusal r.code r.room (let ne : r.code ≡ 0 → ⊥ = eqb-false r.code 0 z in omega (arith, k.codes.low (omega (arith, ne))))))

-- the code of a radio event with too many nodes is another
other : (s : Station) (room : ℕ) → (refusal 16 s room).code ≡ 8 → ⊥
unfolding refusal
other s room e = omega (arith, e)

module _ {c : Config} {me : ℕ} (ranges : in_range c ≡ true) where
  fine_handle : {l : Ledger} {s : Station} (b : List ℕ) → all_under 256 b ≡ true → (ds : List ℕ) (room : ℕ) → Kept c me l s → Fine c me b l (handle s b ds room)
  unfolding handle handle_reading
  fine_handle {l} {s} b bytes ds room h =
      rw (choose_yes (station_ok s) (handle_reading (read_event b) s ds room) (refusal 2 s room) (rules_of s ranges h))
      (by_form b bytes (λ (x : Reading). Fine c me b l (handle_reading x s ds room)) (λ n i j. fine_refusal h b n room i) (λ w f. fine_event h b ds room w f))

  pub fine_answer : {l : Ledger} {s : Station} (v : Call) → Kept c me l s → Fine c me v.event l (result_of v s)
  unfolding answered
  fine_answer {l} {s} v h =
      let room = length v.output in
      by_side (Fine c me v.event l) v.side s v.event v.draws room (fine_refusal h v.event 16 room (omega arith)) (fine_handle v.event v.are_bytes (draws_from v.side v.draws) room h)

  pub kept_after : (vs : List Call) {l : Ledger} {s : Station} → Kept c me l s → Kept c me (ledger_after definition c.active_view_capacity vs s l) (state_after definition vs s)
  unfolding state_after ledger_after
  kept_after [] h = h
  kept_after (v ∷ vs) h = kept_after vs (fine_answer v h).kept

  none_two : (vs : List Call) {l : Ledger} {s : Station} → Kept c me l s → count 2 (codes definition vs s) ≡ 0
  unfolding codes count
  none_two [] h = refl
  none_two (v ∷ vs) {s = s} h =
      omega (arith, is_not 2 (result_of v s).code (ne_eqb 2 (result_of v s).code (λ e. (fine_answer v h).not_two (sym e))), none_two vs (fine_answer v h).kept)

  pub none_eight : (vs : List Call) {l : Ledger} {s : Station} → Kept c me l s → count 8 (codes definition vs s) ≡ 0
  unfolding codes answered count
  none_eight [] h = refl
  none_eight (v ∷ vs) {s = s} h =
      let room = length v.output in
      let n = by_side (λ (a : Result). a.code ≡ 8 → ⊥) v.side s v.event v.draws room (other s room) (never_eight s (rules_of s ranges h) (draws_from v.side v.draws) room v.event v.are_bytes) in
      omega (arith, is_not 8 (result_of v s).code (ne_eqb 8 (result_of v s).code (λ e. n (sym e))), none_eight vs (fine_answer v h).kept)

-- a new station
pub kept_new : (me : ℕ) (d : Data) (c : Config) → NewGiven me d → in_range c ≡ true → short_data d ≡ true → Kept c me empty_ledger (new_station me d c)
unfolding new_station empty_ledger count up_after sent_after keys subset Rising Each Small All
kept_new me d c given r sd =
    let g = ranges_of c r in record {
      core = record {
        still = record { fixed = refl; mine = refl; ranges = g; alone_stays = λ y. refl };
        seats = record {
          one = λ x. omega (arith, is_le x me);
          guests = λ x. omega (arith, is_le x me);
          within = λ x. omega arith;
          slots_left = omega arith;
          places_left = omega arith;
          marks = λ x. omega arith;
          narrow = λ x y. absurd (omega arith);
        };
        waits = record {
          barring = λ x. omega arith;
          apart = λ x. omega (arith, is_le x me);
          known = λ x. omega arith;
          boots = λ x. omega arith;
          few = omega arith;
          rooting = λ x. omega arith;
        };
        tally = record { noted = λ x. omega arith; bound = omega arith };
      };
      law = record {
        requests_ok = record { numbered = record { rise = tt; below = tt; next_top = omega arith }; few = omega arith };
        joins_ok = record { rise = tt; below = tt; next_top = omega arith };
        held_ok = record { rise = tt; few = omega arith; shorts = tt; not_own = refl };
        own_ok = data_true d sd;
        alive_ok = record { rise = tt };
        refused_ok = record { rise = tt; few = omega arith };
        fill_ok = tt;
        recent_ok = record { once = λ x. omega arith; few = omega arith };
        pace_ok = record { low = omega (arith, g.some_time); high = omega arith };
        alone_ok = record { high = omega arith };
        short_ok = record { high = omega arith };
        pins_ok = record { rise = tt; among = λ x. omega arith; few = omega arith };
      };
      narrow = record {
        settings = g;
        named = ((given.narrow, tt), (tt, (tt, (tt, (tt, (tt, (tt, (tt, (tt, (tt, (tt, tt)))))))))));
        mine = own_held d (data_true d sd) given.are_bytes;
        held = tt;
        pace = omega arith;
        requests_top = omega arith;
        joins_top = omega arith;
      };
      covered = refl;
    }

-- as demand 3 says it
module _ {c : Config} {me : ℕ} {l : Ledger} {s : Station} (b : Kept c me l s) where
  views_of : Views me c s
  unfolding up_after sent_after count
  views_of =
      let h = b.core in
      let act = s.active in
      let pas = s.passive in
      let slots : s.config.active_view_capacity ≡ c.active_view_capacity = ap (λ (w : Config). w.active_view_capacity) h.still.fixed in
      let places : s.config.passive_view_capacity ≡ c.passive_view_capacity = ap (λ (w : Config). w.passive_view_capacity) h.still.fixed in
      let self : is me s.me ≡ 1 = subst (λ (y : ℕ). is me y ≡ 1) (sym h.still.mine) (is_self me) in
      record {
        active_fits = omega (arith, h.seats.slots_left);
        passive_fits = omega (arith, h.seats.places_left);
        active_once = distinct_yes act (λ x. omega (arith, h.seats.one x));
        passive_once = distinct_yes pas (λ x. omega (arith, h.seats.one x));
        disjoint = λ x m. mem_no x pas (omega (arith, h.seats.one x, mem_true x act m));
        not_in_active = mem_no me act (omega (arith, h.seats.one me));
        not_in_passive = mem_no me pas (omega (arith, h.seats.one me));
        alive_passive = λ x m. mem_yes x pas (omega (arith, h.seats.marks x, mem_true x s.alive m));
        joins_not_active = λ x m. mem_no x act (omega (arith, h.waits.apart x, mem_true x (keys s.joins) m));
        joins_bootstrap = λ x m. mem_yes x s.bootstrap (omega (arith, h.waits.known x, mem_true x (keys s.joins) m));
        bootstrap_few = h.waits.few;
      }

  booked_of : Booked s l
  unfolding up_after sent_after count
  booked_of =
      let h = b.core in
      let act = s.active in
      record {
        same_peers = λ x. split (mem x act) (λ m. mem_yes x l.up (omega (arith, h.tally.noted x, mem_true x act m)) ∙ sym m) (λ m. mem_no x l.up (omega (arith, h.tally.noted x, mem_false x act m)) ∙ sym m);
        allowed = omega (arith, h.tally.bound, same_length l.up act (λ x. omega (arith, h.tally.noted x)));
        allowed_held = omega (arith, h.tally.bound);
      }

-- `new` answers 0 only where the settings are in range and own data is short
pub accepted_new : (me : ℕ) (d : Data) (c : Config) → (new me d c).code ≡ 0 → (in_range c && short_data d) ≡ true
unfolding new
accepted_new me d c =
    by_choice (λ (m : Made). m.code ≡ 0 → (in_range c && short_data d) ≡ true) (in_range c && short_data d) (λ e z. e) (λ e z. absurd (omega arith))

-- Demand 3. Whatever is brought to a new station, in whatever order, with whatever draws and room: no call finds a broken station, the
-- neighbours are those that the notices say, and the messages sent keep within the allowance.
pub demand_3 : Demand3Holds
unfolding new
demand_3 me d c given z vs =
    let t = accepted_new me d c z in
    let r = and_left (in_range c) (short_data d) t in
    let e : (new me d c).state ≡ new_station me d c = ap (λ (m : Made). m.state) (choose_yes (in_range c && short_data d) _ _ t) in
    let k = kept_new me d c given r (and_right (in_range c) (short_data d) t) in
    let h = kept_after r vs k in
    subst (λ (s : Station). Demand3 definition (λ x. x) station_ok me c s vs) (sym e) (record {
      none_is_two = mem_no 2 _ (none_two r vs k);
      rules_hold = rules_of _ r h;
      views = views_of h;
      booked = booked_of h;
    })

-- 02, S-5: no call after a new station is answered 8
pub eight_never : NeverEightAfter
unfolding new
eight_never me d c given z vs =
    let t = accepted_new me d c z in
    let r = and_left (in_range c) (short_data d) t in
    let e : (new me d c).state ≡ new_station me d c = ap (λ (m : Made). m.state) (choose_yes (in_range c && short_data d) _ _ t) in
    subst (λ (s : Station). mem 8 (codes definition vs s) ≡ false) (sym e) (mem_no 8 _ (none_eight r vs (kept_new me d c given r (and_right (in_range c) (short_data d) t))))
