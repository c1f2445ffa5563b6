-- One accepted event: its records, what the book makes of them, and the timers that they schedule.
-- Assumes nothing.
use mathlib.Core.Path.{◌≡◌, refl, sym, ap, subst, ◌∙◌}
use mathlib.Core.Bool.{Bool, true, false, ◌&&◌}
use mathlib.Core.List.{List, ◌++◌}
use Prim.Native.Nat.{ℕ, ◌+◌, ◌≤◌, ◌<◌}
use native.Mathlib.Omega.{arith}
use Rattle.base_lists.specs.Lists.{choose, is}
use mathlib.Core.Option.{some}
use Rattle.base_lists.specs.Maps.{lookup, cut}
use Rattle.base_lists.specs.Tests.{All}
use Rattle.base_lists.proofs.Choice.{by_choice, choose_yes, choose_no, split, clash}
use Rattle.record.specs.Kinds.{Message, DoShuffle, DoMaintenance, RetryJoin, is_event_kind, kind_byte}
use Rattle.record.specs.Format.{Rec}
use Rattle.spec_hyparview.specs.Station.{Station, peers_end}
use Rattle.spec_hyparview.specs.Run.{Run, on}
use Rattle.spec_hyparview.specs.Sending as S
use Rattle.spec_hyparview.specs.Messages as M
use Rattle.spec_hyparview.specs.Timers.{is_number}
use Rattle.spec_hyparview.specs.Timers as T
use Rattle.spec_hyparview.specs.Handle as H
use Rattle.spec_hyparview.specs.Handle.{start, steps}
use Rattle.spec_hyparview.specs.Written.{encode_all}
use Rattle.spec_hyparview.proofs.Among.{all_append}
use Rattle.spec_hyparview.proofs.Keeping.{on_code, emit_station, draw_station}
use Rattle.spec_hyparview.proofs.Entering.{on_same}
use Rattle.spec_history.proofs.Ticks.{on_out}
use Rattle.spec_chatter.proofs.Book.{Book, note_event}
use Rattle.spec_chatter.proofs.Moves.{sent_all, may_all, kinds, sent_append, may_append, kinds_append, lows_more, adds_more, Adds, Low, Quiet, changes, book_of, Turn, quietly, after, on_station, Awaited, await_then}
use Rattle.spec_chatter.proofs.Lists.{look_cut}
use Rattle.spec_chatter.proofs.Waits.{number_yes}
use Rattle.spec_chatter.proofs.Steps.{schedule_shuffle, schedule_maintenance, open_alike, dispatch}

pub record Done (e : Rec) (s : Station) (w : Run) : Type 0 where
  pub records : List Rec
  pub out : w.out ≡ encode_all records
  pub books : sent_all records (note_event e.kind e.message e.peer e.number (book_of s)) ≡ book_of w.station
  pub clean : may_all records (note_event e.kind e.message e.peer e.number (book_of s)) ≡ true
  pub shuffles : kinds (kind_byte DoShuffle) records ≡ is e.kind (kind_byte DoShuffle) + choose s.scheduled 0 1
  pub passes : kinds (kind_byte DoMaintenance) records ≡ is e.kind (kind_byte DoMaintenance) + choose s.scheduled 0 1
  pub low : All (Low w.station.next_request w.station.next_join) records
  pub awaited : Awaited records w.station.joins s.joins
  -- a join whose timer expired does not await it
  pub gone : e.kind ≡ kind_byte RetryJoin → lookup e.peer w.station.joins ≡ some e.number → ⊥
  pub mark : w.station.scheduled ≡ true

declined : (w : Run) → Quiet w (on H.forget_declined w)
unfolding H.forget_declined
declined w = changes _ (λ s. refl) w

timers_fine : (w : Run) → (H.first_timers w).code ≡ 0 → w.code ≡ 0
unfolding H.first_timers
timers_fine w =
    by_choice (λ (v : Run). v.code ≡ 0 → w.code ≡ 0) w.station.scheduled (λ e z. z)
    (λ e z. subst (λ (c : ℕ). c ≡ 0) (on_code H.note_scheduled w) ((schedule_shuffle _).so ((schedule_maintenance _).so z).fine).fine)

timers_kept : (w : Run) → w.station.scheduled ≡ true → H.first_timers w ≡ w
unfolding H.first_timers
timers_kept w e = choose_yes w.station.scheduled _ _ e

timers_new : (w : Run) → w.station.scheduled ≡ false → H.first_timers w ≡ T.schedule_maintenance (T.schedule_shuffle (on H.note_scheduled w))
unfolding H.first_timers
timers_new w e = choose_no w.station.scheduled _ _ e

noted_book : (w : Run) → book_of (on H.note_scheduled w).station ≡ book_of w.station
unfolding H.note_scheduled
noted_book w = on_same book_of H.note_scheduled (λ s. refl) w

noted_next : (w : Run) → (on H.note_scheduled w).station.next_request ≡ w.station.next_request
unfolding H.note_scheduled
noted_next w = on_same (λ s. s.next_request) H.note_scheduled (λ s. refl) w

noted_joins : (w : Run) → ((on H.note_scheduled w).station.next_join ≡ w.station.next_join) × ((on H.note_scheduled w).station.joins ≡ w.station.joins)
unfolding H.note_scheduled
noted_joins w = (on_same (λ s. s.next_join) H.note_scheduled (λ s. refl) w, on_same (λ s. s.joins) H.note_scheduled (λ s. refl) w)

noted_mark : (w : Run) → w.code ≡ 0 → (on H.note_scheduled w).station.scheduled ≡ true
unfolding H.note_scheduled
noted_mark w z = ap (λ (s : Station). s.scheduled) (on_station _ w z)

-- the last steps leave the joins alone
shuffle_joins : (w : Run) → (T.schedule_shuffle w).station.joins ≡ w.station.joins
unfolding T.schedule_shuffle T.double_interval
shuffle_joins w = ap (λ (s : Station). s.joins) (emit_station _ _ ∙ draw_station 1 _) ∙ on_same (λ s. s.joins) T.double_interval (λ s. refl) w

timers_joins : (w : Run) → (H.first_timers w).station.joins ≡ w.station.joins
unfolding H.first_timers T.schedule_maintenance
timers_joins w =
    by_choice (λ (v : Run). v.station.joins ≡ w.station.joins) w.station.scheduled (λ _. refl)
    (λ _. ap (λ (s : Station). s.joins) (emit_station _ _) ∙ (shuffle_joins (on H.note_scheduled w) ∙ (noted_joins w).1))

rest_joins : (w : Run) → (on H.forget_declined (H.first_timers w)).station.joins ≡ w.station.joins
unfolding H.forget_declined
rest_joins w = on_same (λ s. s.joins) H.forget_declined (λ s. refl) (H.first_timers w) ∙ timers_joins w

-- a retry timer
retry_dispatch : (e : Rec) → e.kind ≡ kind_byte RetryJoin → (r : Run) → H.dispatch e r ≡ T.retry_join e.peer e.number r
unfolding H.dispatch choose
retry_dispatch e k r = rw k

dropped : (p : ℕ) (r : Run) → r.code ≡ 0 → (S.join p (on (M.drop_join p) r)).station.joins ≡ cut p r.station.joins
unfolding S.join M.drop_join
dropped p r z = ap (λ (s : Station). s.joins) (emit_station _ _ ∙ on_station (M.drop_join p) r z)

retry_gone : (p id : ℕ) (r : Run) → r.code ≡ 0 → lookup p (T.retry_join p id r).station.joins ≡ some id → ⊥
unfolding T.retry_join T.join_is
retry_gone p id r z =
    by_choice (λ (v : Run). lookup p v.station.joins ≡ some id → ⊥) (is_number id (lookup p r.station.joins))
    (λ _ q. (look_cut p p r.station.joins id (subst (λ (m : List (ℕ × ℕ)). lookup p m ≡ some id) (dropped p r z) q)).0 refl)
    (λ f q. clash (is_number id (lookup p r.station.joins)) (open_alike id _ ∙ number_yes id (lookup p r.station.joins) q) f)

module _ (e : Rec) (known : is_event_kind e.kind ≡ true) (narrow : e.peer < peers_end) (few : e.kind ≡ kind_byte Message → e.message ≤ 5) (s : Station) (ds : List ℕ) (room : ℕ) where
  abbrev f : Book → Book
  f = note_event e.kind e.message e.peer e.number

  expired_gone : e.kind ≡ kind_byte RetryJoin → (H.dispatch e (start s ds room)).code ≡ 0 → lookup e.peer (H.dispatch e (start s ds room)).station.joins ≡ some e.number → ⊥
  expired_gone k z q = retry_gone e.peer e.number (start s ds room) refl (subst (λ (w : Run). lookup e.peer w.station.joins ≡ some e.number) (retry_dispatch e k (start s ds room)) q)

  -- timers were scheduled before
  later : (w : Run) → s.scheduled ≡ true → Turn f (is e.kind (kind_byte DoShuffle)) (is e.kind (kind_byte DoMaintenance)) (start s ds room) w → (e.kind ≡ kind_byte RetryJoin → lookup e.peer (on H.forget_declined w).station.joins ≡ some e.number → ⊥) → (on H.forget_declined w).code ≡ 0 → Done e s (on H.forget_declined w)
  later w m t g z =
      let k = (after (record { so = λ y. t }) (quietly (declined w))).so z in
      record {
        records = k.records;
        out = k.adds.is;
        books = k.books;
        clean = k.clean;
        shuffles = omega (arith, k.shuffles, choose_yes {A = ℕ} s.scheduled 0 1 m);
        passes = omega (arith, k.passes, choose_yes {A = ℕ} s.scheduled 0 1 m);
        low = k.low;
        awaited = k.awaited;
        gone = g;
        mark = k.mark ∙ m;
      }

  -- the first event
  first : (w : Run) → s.scheduled ≡ false → Turn f (is e.kind (kind_byte DoShuffle)) (is e.kind (kind_byte DoMaintenance)) (start s ds room) w → w.code ≡ 0 → (e.kind ≡ kind_byte RetryJoin → lookup e.peer (on H.forget_declined (T.schedule_maintenance (T.schedule_shuffle (on H.note_scheduled w)))).station.joins ≡ some e.number → ⊥) → (on H.forget_declined (T.schedule_maintenance (T.schedule_shuffle (on H.note_scheduled w)))).code ≡ 0 → Done e s (on H.forget_declined (T.schedule_maintenance (T.schedule_shuffle (on H.note_scheduled w))))
  first w m t y g z =
      let n = on H.note_scheduled w in
      let u = (after (after (schedule_shuffle n) (schedule_maintenance _)) (quietly (declined _))).so z in
      let d = f (book_of s) in
      let b : sent_all t.records d ≡ book_of n.station = t.books ∙ sym (noted_book w) in
      record {
        records = t.records ++ u.records;
        out = (adds_more t.adds (subst (λ (x : List ℕ). Adds u.records x (on H.forget_declined (T.schedule_maintenance (T.schedule_shuffle n))).out) (on_out H.note_scheduled w) u.adds)).is;
        books = sent_append t.records u.records d ∙ (ap (sent_all u.records) b ∙ u.books);
        clean = may_append t.records u.records d ∙ (ap (λ (x : Bool). x && may_all u.records (sent_all t.records d)) t.clean ∙ (ap (may_all u.records) b ∙ u.clean));
        shuffles = omega (arith, kinds_append 1 t.records u.records, t.shuffles, u.shuffles, choose_no {A = ℕ} s.scheduled 0 1 m);
        passes = omega (arith, kinds_append 2 t.records u.records, t.passes, u.passes, choose_no {A = ℕ} s.scheduled 0 1 m);
        low = all_append (Low _ _) t.records u.records (lows_more _ _ _ _ t.records (omega (arith, noted_next w, u.rises)) (omega (arith, (noted_joins w).0, u.joins_rise)) t.low) u.low;
        awaited = await_then t.records u.records _ _ _ t.awaited (subst (λ (x : List (ℕ × ℕ)). Awaited u.records (on H.forget_declined (T.schedule_maintenance (T.schedule_shuffle n))).station.joins x) (noted_joins w).1 u.awaited);
        gone = g;
        mark = u.mark ∙ noted_mark w y;
      }

  pub done : (steps e (start s ds room)).code ≡ 0 → Done e s (steps e (start s ds room))
  unfolding steps
  done z =
      let w = H.dispatch e (start s ds room) in
      let y = timers_fine w ((declined (H.first_timers w)).so z).fine in
      let t = (dispatch e narrow few (start s ds room) known).so y in
      let g : e.kind ≡ kind_byte RetryJoin → lookup e.peer (on H.forget_declined (H.first_timers w)).station.joins ≡ some e.number → ⊥ =
      (λ k q. expired_gone k y (subst (λ (x : List (ℕ × ℕ)). lookup e.peer x ≡ some e.number) (rest_joins w) q)) in
      split s.scheduled
      (λ m. subst (λ (v : Run). (e.kind ≡ kind_byte RetryJoin → lookup e.peer (on H.forget_declined v).station.joins ≡ some e.number → ⊥) → (on H.forget_declined v).code ≡ 0 → Done e s (on H.forget_declined v)) (sym (timers_kept w (t.mark ∙ m))) (later w m t) g z)
      (λ m. subst (λ (v : Run). (e.kind ≡ kind_byte RetryJoin → lookup e.peer (on H.forget_declined v).station.joins ≡ some e.number → ⊥) → (on H.forget_declined v).code ≡ 0 → Done e s (on H.forget_declined v)) (sym (timers_new w (t.mark ∙ m))) (first w m t y) g z)
