-- A history for every list of draws: a Quit at the start, and then each shuffle timer and each maintenance timer when it is due.
-- Assumes nothing.
use mathlib.Core.Path.{◌≡◌, refl, sym, ap, subst, ◌∙◌}
use mathlib.Core.Bool.{Bool, true, false, ◌&&◌}
use mathlib.Core.List.{List, [], ◌∷◌, ◌++◌}
use Prim.Native.Nat.{ℕ, zero, suc, ◌+◌, ◌*◌, ◌-◌, ◌≤◌, ◌<◌}
use native.Mathlib.Omega.{arith}
use lib.ListN.{length, replicate}
use lib.Dec.{leb, ltb, eqb}
use borrow.Author.Tests.{eq-eqb, lt-ltb, ltb-true, leb-true, leb-false, le-leb}
use Rattle.base_lists.specs.Lists.{choose, null, without_all}
use Rattle.base_lists.specs.Maps.{retain}
use Rattle.base_lists.specs.Bytes.{le, read_le}
use Rattle.base_lists.specs.Tests.{every, All}
use Rattle.base_lists.proofs.Choice.{by_choice, choose_yes, split, and_left, and_right}
use Rattle.base_lists.proofs.Members.{both}
use Rattle.base_timing.specs.Timing.{in_range, delay, backoff_due, maintenance_interval}
use Rattle.base_timing.specs.declared.Config.{Config}
use Rattle.base_peer.specs.Data.{Data}
use Rattle.record.specs.Kinds.{Quit, is_event_kind, DoShuffle, DoMaintenance, kind_byte}
use Rattle.record.specs.Format.{Rec, header_length, size_by, datas, header_by, entries_by, encode, encode_by}
use Rattle.record.specs.Read as Rd
use Rattle.record.specs.Read.{event, read_event}
use Rattle.record.specs.Walk.{kind_in, headers}
use Rattle.spec_hyparview.specs.Sides.{Side, wired, handle_from}
use Rattle.spec_hyparview.specs.Station.{Station, is_alone, draws_end, top_passes}
use Rattle.spec_hyparview.specs.Setters.{set_scheduled, set_next_interval, set_passes_alone}
use Rattle.spec_hyparview.specs.Run.{Run, guard, on, emit, emit_all, draw, require, drawn, timer, notice}
use Rattle.spec_hyparview.specs.Rules.{all_under, station_ok}
use Rattle.spec_hyparview.specs.Events as E
use Rattle.spec_hyparview.specs.Timers as T
use Rattle.spec_hyparview.specs.Handle as H
use Rattle.spec_hyparview.specs.Handle.{Result, new_station, start, steps, accepted, finish, handle_reading, handle}
use Rattle.spec_hyparview.proofs.Tested.{rules_of}
use Rattle.spec_history.specs.Ledger.{Ledger}
use Rattle.spec_history.specs.Calls.{Call, result_of, answered, definition}
use Rattle.spec_history.proofs.Kept.{Kept, fine_answer}
use Rattle.spec_hyparview.specs.Written.{encode_all}
use Rattle.shuffle_times.specs.Times.{highest_draw, first_interval, next_interval, dues}
use Rattle.shuffle_times.specs.Histories.{Brought, timer_delays, after, set_by, shuffles_due, counts, start_of, fires, punctual, every_timer_fires, none_asked, none_numbered, in_time_order}
use Rattle.shuffle_times.proofs.Delays.{Interval, delay_few, delay_rises, first_ok}
use Rattle.shuffle_times.proofs.Asked.{top_of}
use Rattle.shuffle_times.proofs.Told.{timers_of}
use Rattle.shuffle_times.proofs.Tied.{out_told, interval_of}
use Rattle.shuffle_times.proofs.Punctual.{fired, passed, waits}

-- the bytes of both timers of a first event
abbrev two_records : ℕ
two_records = 2 * header_length

-- a call with the event e, one draw and room for the records that it asks for
unfoldable quit_call : ℕ → Call
unfolding encode_by header_by entries_by datas size_by le all_under
quit_call x = record { side = wired; event = encode (notice (kind_byte Quit) 0); are_bytes = refl; draws = x ∷ []; output = replicate two_records 0 }

unfoldable shuffle_call : ℕ → Call
unfolding encode_by header_by entries_by datas size_by le all_under
shuffle_call x = record { side = wired; event = encode (timer (kind_byte DoShuffle) 0 0 0); are_bytes = refl; draws = x ∷ []; output = replicate header_length 0 }

unfoldable maintenance_call : Call
unfolding encode_by header_by entries_by datas size_by le all_under
maintenance_call = record { side = wired; event = encode (timer (kind_byte DoMaintenance) 0 0 0); are_bytes = refl; draws = []; output = replicate header_length 0 }

-- the same at a time
one_under : (x : ℕ) → x < draws_end → all_under draws_end (x ∷ []) ≡ true
unfolding all_under
one_under x u = both (ltb x draws_end) true (lt-ltb x draws_end u) refl

unfoldable quit_at : (t x : ℕ) → x < draws_end → Brought
unfolding quit_call
quit_at t x u = record { at = t; call = quit_call x; are_draws = one_under x u }

unfoldable shuffle_at : (t x : ℕ) → x < draws_end → Brought
unfolding shuffle_call
shuffle_at t x u = record { at = t; call = shuffle_call x; are_draws = one_under x u }

unfoldable maintenance_at : ℕ → Brought
unfolding maintenance_call all_under
maintenance_at t = record { at = t; call = maintenance_call; are_draws = refl }

quit_time : (t x : ℕ) (u : x < draws_end) → (quit_at t x u).at ≡ t
unfolding quit_at
quit_time t x u = refl

shuffle_time : (t x : ℕ) (u : x < draws_end) → (shuffle_at t x u).at ≡ t
unfolding shuffle_at
shuffle_time t x u = refl

maintenance_time : (t : ℕ) → (maintenance_at t).at ≡ t
unfolding maintenance_at
maintenance_time t = refl

quit_kind : (t x : ℕ) (u : x < draws_end) → kind_in (quit_at t x u).call.event ≡ 8
unfolding quit_at quit_call kind_in encode_by header_by
quit_kind t x u = refl

quit_counts : (t x : ℕ) (u : x < draws_end) → is_event_kind (kind_in (quit_at t x u).call.event) ≡ true
unfolding quit_at quit_call kind_in encode_by header_by is_event_kind choose
quit_counts t x u = refl

shuffle_is_1 : (t x : ℕ) (u : x < draws_end) → kind_in (shuffle_at t x u).call.event ≡ 1
unfolding shuffle_at shuffle_call kind_in encode_by header_by
shuffle_is_1 t x u = refl

maintenance_is_2 : (t : ℕ) → kind_in (maintenance_at t).call.event ≡ 2
unfolding maintenance_at maintenance_call kind_in encode_by header_by
maintenance_is_2 t = refl

read_quit : read_event (encode (notice (kind_byte Quit) 0)) ≡ event (notice (kind_byte Quit) 0)
unfolding choose le read_le encode_by header_by entries_by datas size_by read_event Rd.header_of_by Rd.fixed_size Rd.is_message Rd.is_timer Rd.is_data Rd.kind_ok Rd.flags_ok Rd.count_ok Rd.peer_ok Rd.fields_ok Rd.header_ok Rd.entries_ok_by Rd.well_formed_by Rd.nodes_of_by Rd.rec_of_by Rd.is_event
read_quit = refl

read_shuffle : read_event (encode (timer (kind_byte DoShuffle) 0 0 0)) ≡ event (timer (kind_byte DoShuffle) 0 0 0)
unfolding choose le read_le encode_by header_by entries_by datas size_by read_event Rd.header_of_by Rd.fixed_size Rd.is_message Rd.is_timer Rd.is_data Rd.kind_ok Rd.flags_ok Rd.count_ok Rd.peer_ok Rd.fields_ok Rd.header_ok Rd.entries_ok_by Rd.well_formed_by Rd.nodes_of_by Rd.rec_of_by Rd.is_event
read_shuffle = refl

read_maintenance : read_event (encode (timer (kind_byte DoMaintenance) 0 0 0)) ≡ event (timer (kind_byte DoMaintenance) 0 0 0)
unfolding choose le read_le encode_by header_by entries_by datas size_by read_event Rd.header_of_by Rd.fixed_size Rd.is_message Rd.is_timer Rd.is_data Rd.kind_ok Rd.flags_ok Rd.count_ok Rd.peer_ok Rd.fields_ok Rd.header_ok Rd.entries_ok_by Rd.well_formed_by Rd.nodes_of_by Rd.rec_of_by Rd.is_event
read_maintenance = refl

-- a call that reads as the event e, to a station that keeps the rules
answer_of : (v : Call) (e : Rec) (s : Station) → v.side ≡ wired → station_ok s ≡ true → read_event v.event ≡ event e → result_of v s ≡ finish s (steps e (start s v.draws (length v.output)))
unfolding answered handle_from handle handle_reading
answer_of v e s w ok r = ap (λ (side : Side). handle_from side s v.event v.draws (length v.output)) w ∙ (choose_yes (station_ok s) _ _ ok ∙ rw r)

-- what a call leads to, by the records that it writes
record Leads (v : Brought) (s t : Station) (es : List Rec) : Type 0 where
  code : (result_of v.call s).code ≡ 0
  state : (result_of v.call s).state ≡ t
  sets : (k : ℕ) → set_by k definition v s ≡ after v.at (timers_of k es)

-- delays of 32 bits
timers_under : (k : ℕ) (es : List Rec) → All (λ e. e.second < draws_end) es → all_under draws_end (timers_of k es) ≡ true
unfolding All timers_of all_under
timers_under k [] a = refl
timers_under k (e ∷ es) a =
    by_choice (λ (l : List ℕ). all_under draws_end l ≡ true) (eqb e.kind k)
    (λ _. both (ltb e.second draws_end) _ (lt-ltb e.second draws_end a.0) (timers_under k es a.1)) (λ _. timers_under k es a.1)

leads : (v : Brought) (s t : Station) (w : Run) (es : List Rec) → result_of v.call s ≡ accepted w → w.station ≡ t → w.out ≡ encode_all es → length w.out ≤ 8192 → All (λ e. e.second < draws_end) es → Leads v s t es
unfolding accepted set_by
leads v s t w es e f g small u = record {
  code = ap (λ (a : Result). a.code) e;
  state = ap (λ (a : Result). a.state) e ∙ f;
  sets = λ k. ap (λ (a : Result). after v.at (timer_delays k (headers a.output))) e
      ∙ ap (after v.at) (out_told k es w.out (w.room - length w.out) (timers_of k es) g refl small (timers_under k es u));
}

-- one that asks for no timer of kind k in front of others
asks_none : (k : ℕ) (v : Brought) (vs : List Brought) (s t : Station) → (result_of v.call s).state ≡ t → set_by k definition v s ≡ [] → none_asked k definition vs t ≡ true → none_asked k definition (v ∷ vs) s ≡ true
unfolding none_asked null
asks_none k v vs s t to e h = both _ _ (ap null e) (subst (λ (z : Station). none_asked k definition vs z ≡ true) (sym to) h)

-- whether a call fires a timer, by the kind of its event
fires_yes : (k : ℕ) (v : Brought) (s : Station) → kind_in v.call.event ≡ k → (result_of v.call s).code ≡ 0 → fires k definition v s ≡ true
unfolding fires
fires_yes k v s e z = both _ _ (eq-eqb _ k e) (eq-eqb _ 0 z)

fires_no : (k n : ℕ) (v : Brought) (s : Station) → kind_in v.call.event ≡ n → eqb n k ≡ false → fires k definition v s ≡ false
unfolding fires
fires_no k n v s e f = ap (λ (j : ℕ). eqb j k && eqb (result_of v.call s).code 0) e ∙ ap (λ (b : Bool). b && eqb (result_of v.call s).code 0) f

module _ (me : ℕ) (d : Data) (c : Config) where
  abbrev top : ℕ
  top = c.shuffle_interval

  -- the station with timers scheduled, the next interval x and n passes alone
  abbrev ticking : ℕ → ℕ → Station
  ticking x n = set_next_interval x (set_scheduled true (set_passes_alone n (new_station me d c)))

  abbrev shuffle_timer : ℕ → ℕ → Rec
  shuffle_timer i x = timer (kind_byte DoShuffle) 0 (delay i x) 0

  abbrev maintenance_timer : Rec
  maintenance_timer = timer (kind_byte DoMaintenance) 0 maintenance_interval 0

  quit_run : ℕ → Run
  quit_run x = record {
    station = ticking (next_interval top (first_interval top)) 0;
    draws = x ∷ [];
    used = 1;
    room = two_records;
    out = encode (shuffle_timer (first_interval top) x) ++ encode maintenance_timer;
    code = 0;
  }

  quit_steps : (x : ℕ) → finish (new_station me d c) (steps (notice (kind_byte Quit) 0) (start (new_station me d c) (x ∷ []) two_records)) ≡ accepted (quit_run x)
  unfolding quit_run next_interval first_interval choose finish steps H.forget_declined H.dispatch H.first_timers H.note_scheduled E.handle_quit E.quit_all E.clear_all T.schedule_maintenance T.schedule_shuffle T.double_interval new_station retain guard on emit draw drawn size_by datas encode_by header_by entries_by le
  quit_steps x = refl

  shuffle_run : ℕ → ℕ → ℕ → Run
  shuffle_run i n x = record {
    station = ticking (next_interval top i) n;
    draws = x ∷ [];
    used = 1;
    room = header_length;
    out = encode (shuffle_timer i x);
    code = 0;
  }

  shuffle_steps : (i n x : ℕ) → finish (ticking i n) (steps (timer (kind_byte DoShuffle) 0 0 0) (start (ticking i n) (x ∷ []) header_length)) ≡ accepted (shuffle_run i n x)
  unfolding shuffle_run next_interval choose null is_alone finish steps H.forget_declined H.dispatch H.first_timers T.handle_shuffle_timer T.shuffle_any T.schedule_shuffle T.double_interval new_station retain guard on emit draw drawn size_by datas encode_by header_by entries_by le
  shuffle_steps i n x = refl

  maintenance_run : ℕ → ℕ → Run
  maintenance_run i n = record {
    station = ticking i (n + 1);
    draws = [];
    used = 0;
    room = header_length;
    out = encode maintenance_timer;
    code = 0;
  }

  -- with no peer known a pass only counts, also where a rejoin is due: there is nobody to ask
  idle : ℕ → ℕ → Run
  idle i n = start (ticking i n) [] header_length

  counted : (i n : ℕ) → n < top_passes → T.count_alone (idle i n) ≡ idle i (n + 1)
  unfolding idle T.count_alone T.alone_counts T.add_alone require on guard choose new_station
  counted i n h = rw (lt-ltb n top_passes h)

  nobody : (i n : ℕ) → T.rejoin (idle i n) ≡ idle i n
  unfolding idle T.rejoin T.rejoin_recent T.rejoin_bootstrap T.other_recent without_all null choose emit_all new_station
  nobody i n = refl

  not_asked : (i n : ℕ) → T.rejoin_if_due (idle i n) ≡ idle i n
  unfolding T.rejoin_if_due
  not_asked i n = by_choice (λ (r : Run). r ≡ idle i n) (backoff_due (idle i n).station.passes_alone) (λ _. nobody i n) (λ _. refl)

  maintenance_first : (i n : ℕ) → steps (timer (kind_byte DoMaintenance) 0 0 0) (idle i n) ≡ on H.forget_declined (H.first_timers (T.schedule_maintenance (T.rejoin_if_due (T.count_alone (idle i n)))))
  unfolding idle steps H.dispatch T.handle_maintenance_timer T.maintain T.knows_none T.pass_alone T.remember_all T.renew_all on guard choose null new_station
  maintenance_first i n = refl

  maintenance_last : (i n : ℕ) → finish (ticking i n) (on H.forget_declined (H.first_timers (T.schedule_maintenance (idle i (n + 1))))) ≡ accepted (maintenance_run i n)
  unfolding idle maintenance_run choose finish H.forget_declined H.first_timers T.schedule_maintenance new_station retain guard on emit size_by datas encode_by header_by entries_by le
  maintenance_last i n = refl

  maintenance_steps : (i n : ℕ) → n < top_passes → finish (ticking i n) (steps (timer (kind_byte DoMaintenance) 0 0 0) (start (ticking i n) [] header_length)) ≡ accepted (maintenance_run i n)
  unfolding idle
  maintenance_steps i n h =
      ap (finish (ticking i n)) (maintenance_first i n)
      ∙ (ap (λ (r : Run). finish (ticking i n) (on H.forget_declined (H.first_timers (T.schedule_maintenance r)))) (ap T.rejoin_if_due (counted i n h) ∙ not_asked i (n + 1)) ∙ maintenance_last i n)

  quit_told : (x : ℕ) → (quit_run x).out ≡ encode_all (shuffle_timer (first_interval top) x ∷ maintenance_timer ∷ [])
  unfolding quit_run encode_all encode_by header_by entries_by datas size_by le
  quit_told x = refl

  quit_short : (x : ℕ) → length (quit_run x).out ≤ 8192
  unfolding quit_run encode_by header_by entries_by datas size_by le
  quit_short x = omega arith

  shuffle_told : (i n x : ℕ) → (shuffle_run i n x).out ≡ encode_all (shuffle_timer i x ∷ [])
  unfolding shuffle_run encode_all encode_by header_by entries_by datas size_by le
  shuffle_told i n x = refl

  shuffle_short : (i n x : ℕ) → length (shuffle_run i n x).out ≤ 8192
  unfolding shuffle_run encode_by header_by entries_by datas size_by le
  shuffle_short i n x = omega arith

  maintenance_told : (i n : ℕ) → (maintenance_run i n).out ≡ encode_all (maintenance_timer ∷ [])
  unfolding maintenance_run encode_all encode_by header_by entries_by datas size_by le
  maintenance_told i n = refl

  maintenance_short : (i n : ℕ) → length (maintenance_run i n).out ≤ 8192
  unfolding maintenance_run encode_by header_by entries_by datas size_by le
  maintenance_short i n = omega arith

  module _ (ranges : in_range c ≡ true) where
    -- a delay is at most 4,500,000 ms
    short_delay : (i x : ℕ) → Interval i → x < draws_end → delay i x ≤ 4500000
    short_delay i x h u = omega (arith, delay_few i h, delay_rises i x highest_draw (omega arith))

    quit_leads : {l : Ledger} → Kept c me l (new_station me d c) → (t x : ℕ) (u : x < draws_end)
        → Leads (quit_at t x u) (new_station me d c) (ticking (next_interval top (first_interval top)) 0) (shuffle_timer (first_interval top) x ∷ maintenance_timer ∷ [])
    unfolding quit_at quit_call quit_run All
    quit_leads h t x u =
        leads (quit_at t x u) (new_station me d c) _ (quit_run x) _
        (answer_of (quit_call x) (notice (kind_byte Quit) 0) (new_station me d c) refl (rules_of (new_station me d c) ranges h) read_quit ∙ quit_steps x)
        refl (quit_told x) (quit_short x) (omega (arith, short_delay (first_interval top) x (first_ok top (top_of c ranges)) u), (omega arith, tt))

    shuffle_leads : {l : Ledger} {i n : ℕ} → Kept c me l (ticking i n) → (t x : ℕ) (u : x < draws_end) → Leads (shuffle_at t x u) (ticking i n) (ticking (next_interval top i) n) (shuffle_timer i x ∷ [])
    unfolding shuffle_at shuffle_call shuffle_run All
    shuffle_leads {i = i} {n = n} h t x u =
        leads (shuffle_at t x u) (ticking i n) _ (shuffle_run i n x) _
        (answer_of (shuffle_call x) (timer (kind_byte DoShuffle) 0 0 0) (ticking i n) refl (rules_of (ticking i n) ranges h) read_shuffle ∙ shuffle_steps i n x)
        refl (shuffle_told i n x) (shuffle_short i n x) (omega (arith, short_delay i x (interval_of ranges h) u), tt)

    maintenance_leads : {l : Ledger} {i n : ℕ} → Kept c me l (ticking i n) → (t : ℕ) → n < top_passes → Leads (maintenance_at t) (ticking i n) (ticking i (n + 1)) (maintenance_timer ∷ [])
    unfolding maintenance_at maintenance_call maintenance_run All
    maintenance_leads {i = i} {n = n} h t few =
        leads (maintenance_at t) (ticking i n) _ (maintenance_run i n) _
        (answer_of maintenance_call (timer (kind_byte DoMaintenance) 0 0 0) (ticking i n) refl (rules_of (ticking i n) ranges h) read_maintenance ∙ maintenance_steps i n few)
        refl (maintenance_told i n) (maintenance_short i n) (omega arith, tt)

    -- timers from now on: the next shuffle timer is due at p, the next maintenance timer at q
    record Chain (i n p q : ℕ) (ds : List ℕ) : Type 0 where
      calls : List Brought
      shuffles_fire : punctual 1 definition calls (ticking i n) (p ∷ []) ≡ true
      maintenance_fires : punctual 2 definition calls (ticking i n) (q ∷ []) ≡ true
      no_others : (k : ℕ) → eqb 1 k ≡ false → eqb 2 k ≡ false → punctual k definition calls (ticking i n) [] ≡ true
      none_of : (k : ℕ) → eqb 1 k ≡ false → eqb 2 k ≡ false → none_asked k definition calls (ticking i n) ≡ true
      ordered : (r : ℕ) → r ≤ p → r ≤ q → in_time_order r calls ≡ true
      same : shuffles_due definition calls (ticking i n) ≡ dues top i p ds

    -- a maintenance timer in front, which is due no later than the shuffle timer
    passes_first : {l : Ledger} {i n : ℕ} → Kept c me l (ticking i n) → (p q : ℕ) (ds : List ℕ) → q ≤ p → n < top_passes → Chain i (n + 1) p (q + maintenance_interval) ds → Chain i n p q ds
    unfolding maintenance_at in_time_order shuffles_due timers_of choose after every
    passes_first {i = i} {n = n} h p q ds near few w =
        let v = maintenance_at q in
        let s = ticking i n in
        let t = ticking i (n + 1) in
        let k = maintenance_leads h q few in
        let two = maintenance_is_2 q in
        record {
          calls = v ∷ w.calls;
          shuffles_fire = passed 1 v w.calls s t k.state [] (k.sets 1) (p ∷ []) (waits q p near) w.shuffles_fire (fires_no 1 2 v s two refl);
          maintenance_fires = fired 2 v w.calls s t k.state ((q + maintenance_interval) ∷ []) (k.sets 2) [] refl w.maintenance_fires q refl (fires_yes 2 v s two k.code);
          no_others = λ j a b. passed j v w.calls s t k.state [] (k.sets j ∙ ap (λ (x : Bool). after q (choose x (maintenance_interval ∷ []) [])) b) [] refl (w.no_others j a b) (fires_no j 2 v s two b);
          none_of = λ j a b. asks_none j v w.calls s t k.state (k.sets j ∙ ap (λ (x : Bool). after q (choose x (maintenance_interval ∷ []) [])) b) (w.none_of j a b);
          ordered = λ r f g. both _ _ (le-leb r q g) (w.ordered q near (omega arith));
          same = ap (λ (l : List ℕ). l ++ shuffles_due definition w.calls (result_of v.call s).state) (k.sets 1) ∙ (ap (shuffles_due definition w.calls) k.state ∙ w.same);
        }

    -- a shuffle timer in front, which is due no later than the maintenance timer
    shuffles_first : {l : Ledger} {i n : ℕ} → Kept c me l (ticking i n) → (p q x : ℕ) (u : x < draws_end) (ds : List ℕ) → p ≤ q → Chain (next_interval top i) n (p + delay i x) q ds → Chain i n p q (x ∷ ds)
    unfolding shuffle_at in_time_order shuffles_due dues timers_of choose after every
    shuffles_first {i = i} {n = n} h p q x u ds near w =
        let v = shuffle_at p x u in
        let s = ticking i n in
        let t = ticking (next_interval top i) n in
        let k = shuffle_leads h p x u in
        let one = shuffle_is_1 p x u in
        record {
          calls = v ∷ w.calls;
          shuffles_fire = fired 1 v w.calls s t k.state ((p + delay i x) ∷ []) (k.sets 1) [] refl w.shuffles_fire p refl (fires_yes 1 v s one k.code);
          maintenance_fires = passed 2 v w.calls s t k.state [] (k.sets 2) (q ∷ []) (waits p q near) w.maintenance_fires (fires_no 2 1 v s one refl);
          no_others = λ j a b. passed j v w.calls s t k.state [] (k.sets j ∙ ap (λ (y : Bool). after p (choose y (delay i x ∷ []) [])) a) [] refl (w.no_others j a b) (fires_no j 1 v s one a);
          none_of = λ j a b. asks_none j v w.calls s t k.state (k.sets j ∙ ap (λ (y : Bool). after p (choose y (delay i x ∷ []) [])) a) (w.none_of j a b);
          ordered = λ r f g. both _ _ (le-leb r p f) (w.ordered p (omega arith) near);
          same = ap (λ (l : List ℕ). l ++ shuffles_due definition w.calls (result_of v.call s).state) (k.sets 1)
              ∙ ap (λ (l : List ℕ). (p + delay i x) ∷ l) (ap (shuffles_due definition w.calls) k.state ∙ w.same);
        }

    -- how long the timers of a history can go on after its start t₀: 1,000 delays, in which no more passes are counted than a count can have
    module _ (t₀ : ℕ) where
      abbrev limit : ℕ
      limit = t₀ + 4500000000

      -- the maintenance timers that are due before the next shuffle timer, of which there are at most j, and then what follows them
      passes : (i p : ℕ) (ds : List ℕ) → p ≤ limit
          → ((l : Ledger) (n : ℕ) → Kept c me l (ticking i n) → (q : ℕ) → q ≡ t₀ + maintenance_interval * (n + 1) → p ≤ q → Chain i n p q ds)
          → (j : ℕ) {l : Ledger} {n : ℕ} → Kept c me l (ticking i n) → (q : ℕ) → q ≡ t₀ + maintenance_interval * (n + 1) → p ≤ q + maintenance_interval * j → Chain i n p q ds
      passes i p ds far then zero {l = o} {n = n} h q e l = then o n h q e (omega arith)
      passes i p ds far then (suc j) {l = o} {n = n} h q e l =
          split (leb q p)
          (λ y. let near = leb-true q p y in
          let few : n < top_passes = omega (arith, e, near, far) in
          let more = subst (Kept c me _) (maintenance_leads h q few).state (fine_answer ranges (maintenance_at q).call h).kept in
          passes_first h p q ds near few (passes i p ds far then j more (q + maintenance_interval) (omega arith) (omega arith)))
          (λ y. then o n h q e (omega (arith, leb-false q p y)))

      -- one shuffle timer for each draw, the next of which is due at p
      chain : (ds : List ℕ) → all_under draws_end ds ≡ true → {l : Ledger} {i n : ℕ} → Kept c me l (ticking i n) → (p q : ℕ) → q ≡ t₀ + maintenance_interval * (n + 1)
          → p + length ds * 4500000 ≤ limit → Chain i n p q ds
      unfolding all_under punctual none_asked in_time_order shuffles_due dues
      chain [] u h p q e l = record { calls = []; shuffles_fire = refl; maintenance_fires = refl; no_others = λ k a b. refl; none_of = λ k a b. refl; ordered = λ r f g. refl; same = refl }
      chain (x ∷ ds) u {i = i} h p q e l =
          let low = ltb-true x draws_end (and_left (ltb x draws_end) (all_under draws_end ds) u) in
          let rest = and_right (ltb x draws_end) (all_under draws_end ds) u in
          passes i p (x ∷ ds) (omega arith)
          (λ o n g r f near.
          let more = subst (Kept c me _) (shuffle_leads g p x low).state (fine_answer ranges (shuffle_at p x low).call g).kept in
          shuffles_first g p r x low ds near (chain ds rest more (p + delay i x) r f (omega (arith, short_delay i x (interval_of ranges g) low))))
          p h q e (omega arith)

    -- the whole history, from the start t on
    pub record History (t : ℕ) (ds : List ℕ) : Type 0 where
      pub calls : List Brought
      pub fire : every_timer_fires definition calls (new_station me d c) ≡ true
      pub alone : none_numbered definition calls (new_station me d c) ≡ true
      pub ordered : in_time_order 0 calls ≡ true
      pub starts : start_of definition calls (new_station me d c) ≡ t
      pub same : shuffles_due definition calls (new_station me d c) ≡ dues top (first_interval top) t ds

    pub history : {l : Ledger} → Kept c me l (new_station me d c) → (t x : ℕ) (ds : List ℕ) → all_under draws_end (x ∷ ds) ≡ true → length (x ∷ ds) ≤ 1000 → History t (x ∷ ds)
    unfolding quit_at in_time_order shuffles_due start_of counts dues all_under every_timer_fires none_numbered every timers_of choose after
    history h t x ds u short =
        let s = new_station me d c in
        let low = ltb-true x draws_end (and_left (ltb x draws_end) (all_under draws_end ds) u) in
        let v = quit_at t x low in
        let i = first_interval top in
        let k = quit_leads h t x low in
        let p = t + delay i x in
        let q = t + maintenance_interval in
        let z = ticking (next_interval top i) 0 in
        let more = subst (Kept c me _) k.state (fine_answer ranges v.call h).kept in
        let w = chain t ds (and_right (ltb x draws_end) (all_under draws_end ds) u) more p q (omega arith) (omega (arith, short_delay i x (first_ok top (top_of c ranges)) low)) in
        let eight = quit_kind t x low in
        let one = passed 1 v w.calls s z k.state (p ∷ []) (k.sets 1) [] refl w.shuffles_fire (fires_no 1 8 v s eight refl) in
        let two = passed 2 v w.calls s z k.state (q ∷ []) (k.sets 2) [] refl w.maintenance_fires (fires_no 2 8 v s eight refl) in
        let three = passed 3 v w.calls s z k.state [] (k.sets 3) [] refl (w.no_others 3 refl refl) (fires_no 3 8 v s eight refl) in
        let four = passed 4 v w.calls s z k.state [] (k.sets 4) [] refl (w.no_others 4 refl refl) (fires_no 4 8 v s eight refl) in
        record {
          calls = v ∷ w.calls;
          fire = both _ _ one (both _ _ two (both _ _ three (both _ _ four refl)));
          alone = both _ _ (asks_none 3 v w.calls s z k.state (k.sets 3) (w.none_of 3 refl refl)) (both _ _ (asks_none 4 v w.calls s z k.state (k.sets 4) (w.none_of 4 refl refl)) refl);
          ordered = both _ _ (le-leb 0 t (omega arith)) (w.ordered t (omega arith) (omega arith));
          starts = choose_yes (counts definition v s) t _ (both _ _ (quit_counts t x low) (eq-eqb _ 0 k.code));
          same = ap (λ (l : List ℕ). l ++ shuffles_due definition w.calls (result_of v.call s).state) (k.sets 1)
              ∙ ap (λ (l : List ℕ). p ∷ l) (ap (shuffles_due definition w.calls) k.state ∙ w.same);
        }
