-- In every history whose shuffle timers fire when due, the station's shuffle timers are those of the definition.
-- Assumes nothing.
use mathlib.Core.Path.{◌≡◌, refl, sym, ap, subst, ◌∙◌}
use mathlib.Core.Bool.{Bool, true, false, ◌&&◌}
use mathlib.Core.List.{List, [], ◌∷◌, ◌++◌}
use Prim.Native.Nat.{ℕ, ◌+◌, ◌-◌, ◌≤◌, ◌<◌}
use native.Mathlib.Omega.{arith}
use lib.ListN.{length, get_or, replicate}
use lib.Dec.{ltb, eqb}
use borrow.Author.Tests.{eqb-true, lt-ltb}
use Rattle.base_lists.specs.Lists.{choose}
use Rattle.base_lists.proofs.Choice.{by_choice, split, choose_yes, choose_no, and_left, and_right, clash}
use Rattle.base_timing.specs.Timing.{in_range, delay}
use Rattle.base_timing.specs.declared.Config.{Config}
use Rattle.base_peer.specs.Data.{Data}
use Rattle.record.specs.Kinds.{is_event_kind}
use Rattle.record.specs.Format.{Rec}
use Rattle.record.specs.InForm.{InForm}
use Rattle.record.specs.Read.{Reading, read_event, rec_of, rec_of_by, header_of_by}
use Rattle.record.specs.Walk.{kind_in, headers}
use Rattle.spec_hyparview.specs.Station.{Station, draws_end}
use Rattle.spec_hyparview.specs.Run.{Run}
use Rattle.spec_hyparview.specs.Rules.{all_under, station_ok, short_data}
use Rattle.spec_hyparview.specs.Handle.{Result, new_station, start, steps, refusal, accepted, finish, handle_reading, handle}
use Rattle.base_lists.proofs.Members.{both}
use Rattle.spec_hyparview.proofs.Reading.{Readable, by_form}
use Rattle.spec_hyparview.specs.Sides.{draws_from}
use Rattle.spec_hyparview.proofs.Sides.{by_side, under_from}
use Rattle.spec_hyparview.proofs.Whole.{ok_steps}
use Rattle.spec_hyparview.proofs.Tested.{rules_of}
use Rattle.spec_history.specs.Ledger.{Ledger, number_of}
use Rattle.spec_history.specs.Calls.{NewGiven, result_of, answered, definition}
use Rattle.spec_history.proofs.Kept.{Kept, pays, fine_answer, kept_new}
use Rattle.spec_hyparview.specs.Written.{encode_all}
use Rattle.spec_chatter.proofs.History.{few_of}
use Rattle.shuffle_times.specs.Times.{highest_draw, first_interval, next_interval, dues}
use Rattle.shuffle_times.specs.Histories.{Brought, timer_delays, after, set_by, shuffles_due, counts, start_of, fires, is_first, on_time}
use Rattle.shuffle_times.specs.Claims.{Tied}
use Rattle.shuffle_times.proofs.Delays.{Interval, delay_few, delay_rises}
use Rattle.shuffle_times.proofs.Asked.{top_of}
use Rattle.shuffle_times.proofs.Told.{timers_of, told, none_told}
use Rattle.shuffle_times.proofs.Quiet.{clock, Still}
use Rattle.shuffle_times.proofs.Sets.{Starts, plain, first, fired}

-- the due times that an answer at time t asks for
abbrev set_of : ℕ → Result → List ℕ
set_of t a = after t (timer_delays 1 (headers a.output))

pub out_told : (n : ℕ) (es : List Rec) (out : List ℕ) (zeros : ℕ) (l : List ℕ) → out ≡ encode_all es → timers_of n es ≡ l → length out ≤ 8192 → all_under draws_end l ≡ true → timer_delays n (headers (out ++ replicate zeros 0)) ≡ l
out_told n es out zeros l e f h u =
    let s : length (encode_all es) < 65536 = omega (arith, ap length e) in
    rw e (told n es zeros s (subst (λ (x : List ℕ). all_under draws_end x ≡ true) (sym f) u) ∙ f)

-- one shuffle timer is set
record New (t : ℕ) (s : Station) (a : Result) : Type 0 where
  draw_of : ℕ
  low : draw_of < draws_end
  set : set_of t a ≡ (t + delay s.next_interval draw_of) ∷ []
  pace : a.state.next_interval ≡ next_interval s.config.shuffle_interval s.next_interval
  mark : a.state.scheduled ≡ true

-- what a call with the event b at time t does to a station
record Called (t : ℕ) (b : List ℕ) (s : Station) (a : Result) : Type 0 where
  refused : eqb a.code 0 ≡ false → (set_of t a ≡ []) × (clock a.state ≡ clock s)
  quiet : eqb a.code 0 ≡ true → eqb (kind_in b) 1 ≡ false → s.scheduled ≡ true → (set_of t a ≡ []) × (clock a.state ≡ clock s)
  sets : eqb a.code 0 ≡ true → eqb (kind_in b) 1 ≡ s.scheduled → New t s a
  known : eqb a.code 0 ≡ true → is_event_kind (kind_in b) ≡ true

called_refusal : (t : ℕ) (b : List ℕ) (s : Station) (n room : ℕ) → (n ≡ 0 → ⊥) → Called t b s (refusal n s room)
unfolding refusal after
called_refusal t b s n room ne = record {
  refused = λ e. (ap (after t) (none_told 1 room), refl);
  quiet = λ e. absurd (ne (eqb-true n 0 e));
  sets = λ e. absurd (ne (eqb-true n 0 e));
  known = λ e. absurd (ne (eqb-true n 0 e));
}

pub interval_of : {c : Config} {me : ℕ} {l : Ledger} {s : Station} → in_range c ≡ true → Kept c me l s → Interval s.next_interval
interval_of {c} r h =
    let top = top_of c r in
    let e = ap (λ (w : Config). w.shuffle_interval) h.core.still.fixed in
    record { least = h.law.pace_ok.low; most = omega (arith, h.law.pace_ok.high, e, top.most) }

pub delay_under : (i d : ℕ) → Interval i → d < draws_end → all_under draws_end (delay i d ∷ []) ≡ true
unfolding all_under
delay_under i d h l = both (ltb (delay i d) draws_end) true (lt-ltb (delay i d) draws_end (omega (arith, delay_few i h, delay_rises i d highest_draw (omega arith)))) refl

module _ {c : Config} {me : ℕ} {l : Ledger} {s : Station} (ranges : in_range c ≡ true) (h : Kept c me l s) (t : ℕ) (b ds : List ℕ) (room : ℕ) (low : all_under draws_end ds ≡ true) where
  -- an accepted run that sets one
  newly : (r : Run) → length r.out ≤ 8192 → Starts [] ds s.next_interval s.config.shuffle_interval r → New t s (accepted r)
  unfolding accepted after
  newly r small k =
      let g = k.sets in
      let d = g.low low in
      record {
        draw_of = g.draw_of;
        low = d;
        set = ap (after t) (out_told 1 g.adds.records r.out (r.room - length r.out) _ g.adds.is g.adds.timers small (delay_under s.next_interval g.draw_of (interval_of ranges h) d));
        pace = g.pace;
        mark = k.mark;
      }

  quietly : (r : Run) → length r.out ≤ 8192 → Still (start s ds room) r → (set_of t (accepted r) ≡ []) × (clock (accepted r).state ≡ clock s)
  unfolding accepted after all_under
  quietly r small k = (ap (after t) (out_told 1 k.adds.records r.out (r.room - length r.out) [] k.adds.is k.adds.timers small refl), k.same_clock)

  called_event : Readable (rec_of b) → InForm (rec_of b) → Called t b s (finish s (steps (rec_of b) (start s ds room)))
  unfolding finish accepted kind_in rec_of_by header_of_by
  called_event w in_form =
      let a = c.active_view_capacity in
      let e = rec_of b in
      let r = steps e (start s ds room) in
      let k = ok_steps (number_of a b) ds room e w (pays a b) h in
      by_choice (Called t b s) (eqb r.code 0)
      (λ z. let fine = eqb-true r.code 0 z in
      let small : length r.out ≤ 8192 = omega (arith, (k.good fine).bytes_left) in
      let on-or-off : (m : Bool) → s.scheduled ≡ m → eqb (get_or b 0 0) 1 ≡ m → New t s (accepted r) = λ m f i. by_mark m f i fine small in
      record {
        refused = λ f. clash true refl f;
        quiet = λ _ i m. quietly r small (plain e w (few_of e in_form) s ds room i m fine);
        sets = λ _ i. on-or-off s.scheduled refl i;
        known = λ _. w.known;
      })
      (λ z. called_refusal t b s r.code r.room (λ f. clash _ (ap (λ (n : ℕ). eqb n 0) f) z))
    where
      by_mark : (m : Bool) → s.scheduled ≡ m → eqb (get_or b 0 0) 1 ≡ m → (steps (rec_of b) (start s ds room)).code ≡ 0 → length (steps (rec_of b) (start s ds room)).out ≤ 8192 → New t s (accepted (steps (rec_of b) (start s ds room)))
      by_mark true f i fine small = newly _ small (fired (rec_of b) w (few_of (rec_of b) in_form) s ds room i f fine)
      by_mark false f i fine small = newly _ small (first (rec_of b) w (few_of (rec_of b) in_form) s ds room i f fine)

called : {c : Config} {me : ℕ} {l : Ledger} {s : Station} → in_range c ≡ true → Kept c me l s → (v : Brought) → Called v.at v.call.event s (result_of v.call s)
unfolding answered handle handle_reading
called {s = s} ranges h v =
    let b = v.call.event in
    let ds = draws_from v.call.side v.call.draws in
    let room = length v.call.output in
    by_side (Called v.at b s) v.call.side s b v.call.draws room (called_refusal v.at b s 16 room (λ e. omega arith))
    (rw (choose_yes (station_ok s) (handle_reading (read_event b) s ds room) (refusal 2 s room) (rules_of s ranges h))
    (by_form b v.call.are_bytes (λ (x : Reading). Called v.at b s (handle_reading x s ds room))
    (λ n i j. called_refusal v.at b s n room (λ e. omega arith)) (λ w f. called_event ranges h v.at b ds room (under_from draws_end v.call.side v.call.draws v.are_draws) w f)))

-- due times as the definition has them, from the interval i at time t
record Row (top i t : ℕ) (xs : List ℕ) : Type 0 where
  draws : List ℕ
  are_draws : all_under draws_end draws ≡ true
  same : xs ≡ dues top i t draws

row_more : (top i t d : ℕ) (xs ys : List ℕ) (j : ℕ) → d < draws_end → xs ≡ (t + delay i d) ∷ [] → j ≡ next_interval top i → Row top j (t + delay i d) ys → Row top i t (xs ++ ys)
unfolding dues all_under
row_more top i t d xs ys j l e f k = record {
  draws = d ∷ k.draws;
  are_draws = both (ltb d draws_end) _ (lt-ltb d draws_end l) k.are_draws;
  same = ap (λ (z : List ℕ). z ++ ys) e ∙ ap (λ (z : List ℕ). (t + delay i d) ∷ z) (k.same ∙ ap (λ (n : ℕ). dues top n (t + delay i d) k.draws) f);
}

row_same : (top i j t : ℕ) (xs ys : List ℕ) → xs ≡ [] → j ≡ i → Row top j t ys → Row top i t (xs ++ ys)
row_same top i j t xs ys e f k = record {
  draws = k.draws;
  are_draws = k.are_draws;
  same = ap (λ (z : List ℕ). z ++ ys) e ∙ (k.same ∙ ap (λ (n : ℕ). dues top n t k.draws) f);
}

and_no : (x y : Bool) → y ≡ false → (x && y) ≡ false
and_no true y e = e
and_no false y e = refl

not_kind : (x y : Bool) → (x && y) ≡ false → y ≡ true → x ≡ false
not_kind true y f z = clash y z f
not_kind false y f z = refl

abbrev interval_in : Bool × (ℕ × Config) → ℕ
interval_in p = p.1.0

abbrev mark_in : Bool × (ℕ × Config) → Bool
mark_in p = p.0

module _ {c : Config} {me : ℕ} (ranges : in_range c ≡ true) where
  top_is : {l : Ledger} {s : Station} → Kept c me l s → s.config.shuffle_interval ≡ c.shuffle_interval
  top_is h = ap (λ (w : Config). w.shuffle_interval) h.core.still.fixed

  -- with one timer that waits, due at time p
  tied_on : (vs : List Brought) {l : Ledger} {s : Station} → Kept c me l s → s.scheduled ≡ true → (p : ℕ) → on_time definition vs s (p ∷ []) ≡ true → Row c.shuffle_interval s.next_interval p (shuffles_due definition vs s)
  unfolding shuffles_due on_time set_by fires is_first dues all_under
  tied_on [] h m p o = record { draws = []; are_draws = refl; same = refl }
  tied_on (v ∷ vs) {s = s} h m p o =
      let a = result_of v.call s in
      let k = called ranges h v in
      let more = (fine_answer ranges v.call h).kept in
      let kind = eqb (kind_in v.call.event) 1 in
      let set = set_of v.at a in
      let top = c.shuffle_interval in
      let stays : (set ≡ []) × (clock a.state ≡ clock s) → on_time definition vs a.state ((p ∷ []) ++ set) ≡ true → Row top s.next_interval p (set ++ shuffles_due definition vs a.state) =
      λ q y. row_same top s.next_interval a.state.next_interval p set _ q.0 (ap interval_in q.1)
      (tied_on vs more (ap mark_in q.1 ∙ m) p (subst (λ (x : List ℕ). on_time definition vs a.state ((p ∷ []) ++ x) ≡ true) q.0 y)) in
      split (kind && eqb a.code 0)
      (λ f. let y = sym (choose_yes (kind && eqb a.code 0) _ _ f) ∙ o in
      let n = k.sets (and_right kind _ f) (and_left kind _ f ∙ sym m) in
      let at_p : v.at ≡ p = eqb-true v.at p (and_left (eqb v.at p) _ y) in
      let due_then : v.at + delay s.next_interval n.draw_of ≡ p + delay s.next_interval n.draw_of = ap (λ (x : ℕ). x + delay s.next_interval n.draw_of) at_p in
      let set_is : set ≡ (p + delay s.next_interval n.draw_of) ∷ [] = n.set ∙ ap (λ (x : ℕ). x ∷ []) due_then in
      row_more top s.next_interval p n.draw_of set _ a.state.next_interval n.low set_is
      (n.pace ∙ ap (λ (x : ℕ). next_interval x s.next_interval) (top_is h))
      (tied_on vs more n.mark _ (subst (λ (x : List ℕ). on_time definition vs a.state x ≡ true) set_is (and_right (eqb v.at p) _ y))))
      (λ f. let y = sym (choose_no (kind && eqb a.code 0) _ _ f) ∙ o in
      split (eqb a.code 0)
      (λ z. stays (k.quiet z (not_kind kind (eqb a.code 0) f z) m) y)
      (λ z. stays (k.refused z) y))

  -- before the first accepted call
  tied_off : (vs : List Brought) {l : Ledger} {s : Station} → Kept c me l s → s.scheduled ≡ false → on_time definition vs s [] ≡ true → Row c.shuffle_interval s.next_interval (start_of definition vs s) (shuffles_due definition vs s)
  unfolding shuffles_due start_of counts on_time set_by fires is_first dues all_under
  tied_off [] h m o = record { draws = []; are_draws = refl; same = refl }
  tied_off (v ∷ vs) {s = s} h m o =
      let a = result_of v.call s in
      let k = called ranges h v in
      let more = (fine_answer ranges v.call h).kept in
      let kind = eqb (kind_in v.call.event) 1 in
      let set = set_of v.at a in
      let top = c.shuffle_interval in
      let low = is_event_kind (kind_in v.call.event) in
      let start = choose (low && eqb a.code 0) v.at (start_of definition vs a.state) in
      split (kind && eqb a.code 0)
      (λ f. let y = sym (choose_yes (kind && eqb a.code 0) _ _ f) ∙ o in clash false y refl)
      (λ f. let y = sym (choose_no (kind && eqb a.code 0) _ _ f) ∙ o in
      split (eqb a.code 0)
      (λ z. let at_start : start ≡ v.at = choose_yes (low && eqb a.code 0) _ _ (both low _ (k.known z) z) in
      let n = k.sets z (not_kind kind (eqb a.code 0) f z ∙ sym m) in
      subst (λ (x : ℕ). Row top s.next_interval x (set ++ shuffles_due definition vs a.state)) (sym at_start)
      (row_more top s.next_interval v.at n.draw_of set _ a.state.next_interval n.low n.set
      (n.pace ∙ ap (λ (x : ℕ). next_interval x s.next_interval) (top_is h))
      (tied_on vs more n.mark _ (subst (λ (x : List ℕ). on_time definition vs a.state x ≡ true) n.set y))))
      (λ z. let q = k.refused z in
      let later : start ≡ start_of definition vs a.state = choose_no (low && eqb a.code 0) _ _ (and_no low _ z) in
      subst (λ (x : ℕ). Row top s.next_interval x (set ++ shuffles_due definition vs a.state)) (sym later)
      (row_same top s.next_interval a.state.next_interval (start_of definition vs a.state) set _ q.0 (ap interval_in q.1)
      (tied_off vs more (ap mark_in q.1 ∙ m) (subst (λ (x : List ℕ). on_time definition vs a.state x ≡ true) q.0 y)))))

-- The station's shuffle timers are due when the definition says, with draws of its own.
pub due_times_tied : (me : ℕ) (d : Data) (c : Config) → NewGiven me d → in_range c ≡ true → short_data d ≡ true → (vs : List Brought) → on_time definition vs (new_station me d c) [] ≡ true → Tied definition c (new_station me d c) vs
unfolding new_station first_interval
due_times_tied me d c given r sd vs o =
    let w = tied_off r vs (kept_new me d c given r sd) refl o in
    record { draws = w.draws; are_draws = w.are_draws; same = w.same }
