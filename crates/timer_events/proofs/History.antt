-- The queue over every list of calls: it holds what was put in and not yet taken out, is never answered 2, and hands out what is due, earliest and oldest.
-- Assumes nothing.
use Prim.Native.Nat.{ℕ, ◌+◌, ◌≤◌, ◌<◌}
use mathlib.Core.Path.{◌≡◌, refl, sym, ap, ◌∙◌, subst}
use mathlib.Core.Bool.{Bool, true, false, not, ◌&&◌}
use mathlib.Core.List.{List, [], ◌∷◌, ◌++◌, append_assoc, append-nil}
use mathlib.Core.Option.{Option, none, some}
use native.Mathlib.Omega.{arith}
use lib.ListN.{length, get_or, replicate}
use lib.Dec.{leb, eqb}
use borrow.Author.Tests.{eq-eqb, ne_eqb, leb-true, leb-false}
use Rattle.base_lists.specs.Lists.{choose, null, mem, index_of, shift_remove}
use Rattle.base_lists.proofs.Choice.{split, clash, and_right, choose_yes, choose_no}
use Rattle.record_writer.specs.Write.{fits, written}
use Rattle.timer_map.specs.Entries as E
use Rattle.timer_map.specs.Entries.{Put, due_times, soonest, first_entry, is_due, no_queue_entry}
use Rattle.timer_map.specs.Words.{pack_queue}
use Rattle.timer_map.specs.Calls as C
use Rattle.timer_map.specs.Calls.{PutWords, PoppedWords, packed_put, refused_pop, inserted, taken_out, first_in, first_of, count_in, renewed}
use Rattle.timer_map.specs.declared.Timer.{Timer}
use Rattle.timer_map.specs.declared.TimerMapEntry.{TimerMapEntry}
use Rattle.timer_map.specs.declared.Popped.{Popped}
use Rattle.timer_map.specs.declared.First.{First}
use Rattle.timer_map.specs.declared.Len.{Len}
use Rattle.timer_map.proofs.Pack.{entries_pack}
use Rattle.timer_map.proofs.Order.{first_place, first_earliest, first_oldest, soonest_below}
use Rattle.timer_map.proofs.Ways.{due_some, popped_none, popped_one, null_not}
use Rattle.timer_map.proofs.Kept.{Good, good_none, good_ok, good_insert, good_remove, due_ok, Inserts, refused, done, inserts}
use Rattle.timer_events.specs.declared.ScheduleTimer.{ScheduleTimer}
use Rattle.timer_events.specs.declared.PoppedEvent.{PoppedEvent}
use Rattle.timer_events.specs.Records.{timers_in, insert_all, all_or_none, records_inserted}
use Rattle.timer_events.specs.Records as R
use Rattle.timer_events.specs.Events.{event_rec, Taken, untaken, event_popped, event_taken}
use Rattle.timer_events.specs.History.{QueueCall, insert, insert_records, pop_before, pop_event, first, count, Reply, code, popped, event, next, held, QueueOutcome, queue_answered, reply_code, entries_from, asked, time_out, cut_at, booked, queue_after, reply_codes, book_after, Right}
use Rattle.timer_events.specs.Claims.{EventRight, TakesOut, QueueHolds}
use Rattle.timer_events.proofs.Inserting.{good_all}
use Rattle.timer_events.proofs.Taking.{none_event, no_room, an_event}
use Rattle.timer_events.proofs.RoundTrip.{reads_out}

-- ---- the definitions at packed words

module _ (es : List TimerMapEntry) (g : Good es) where
  insert_packed : (time delay : ℕ) (x : Timer) → inserted time delay x (pack_queue es) ≡ packed_put (E.insert_timer time delay x es)
  unfolding inserted
  insert_packed time delay x = choose_yes _ _ _ (good_ok es g) ∙ ap (λ (l : List TimerMapEntry). packed_put (E.insert_timer time delay x l)) (entries_pack es)

  records_packed : (time : ℕ) (out : List ℕ) → records_inserted time out (pack_queue es) ≡ packed_put (R.insert_records time out es)
  unfolding records_inserted
  records_packed time out = choose_yes _ _ _ (good_ok es g) ∙ ap (λ (l : List TimerMapEntry). packed_put (R.insert_records time out l)) (entries_pack es)

  pop_packed : (limit : ℕ) → taken_out limit (pack_queue es) ≡ C.popped_words limit es
  unfolding taken_out
  pop_packed limit = choose_yes _ _ _ (good_ok es g) ∙ ap (C.popped_words limit) (entries_pack es)

  event_packed : (limit : ℕ) (out : List ℕ) → event_taken limit (pack_queue es) out ≡ event_popped limit es out
  unfolding event_taken
  event_packed limit out = choose_yes _ _ _ (good_ok es g) ∙ ap (λ (l : List TimerMapEntry). event_popped limit l out) (entries_pack es)

  first_packed : first_in (pack_queue es) ≡ first_of es
  unfolding first_in
  first_packed = choose_yes _ _ _ (good_ok es g) ∙ ap first_of (entries_pack es)

  count_packed : count_in (pack_queue es) ≡ record { code = 0; count = length es }
  unfolding count_in
  count_packed = choose_yes _ _ _ (good_ok es g) ∙ ap (λ (l : List TimerMapEntry). record { code = 0; count = length l }) (entries_pack es)

-- ---- one call

record Step (v : QueueCall) (es : List TimerMapEntry) : Type 0 where
  reply : Reply
  after : List TimerMapEntry
  is : queue_answered v (pack_queue es) ≡ record { reply = reply; words = pack_queue after }
  book : after ≡ booked v reply es
  good : Good after
  not_two : reply_code reply ≡ 2 → ⊥

kept : (v : QueueCall) (r : Reply) (es : List TimerMapEntry) → (reply_code r ≡ 0 → ⊥) → es ≡ booked v r es
unfolding booked
kept v r es n = sym (choose_no _ _ _ (ne_eqb (reply_code r) 0 n))

grown : (v : QueueCall) (r : Reply) (es : List TimerMapEntry) → reply_code r ≡ 0 → time_out r ≡ none → es ++ asked v ≡ booked v r es
unfolding booked cut_at
grown v r es c t = sym (choose_yes _ _ _ (eq-eqb (reply_code r) 0 c) ∙ ap (λ (o : Option ℕ). cut_at o (es ++ asked v)) t)

-- nothing is put in, nothing comes out
same : (v : QueueCall) (r : Reply) (es : List TimerMapEntry) → reply_code r ≡ 0 → time_out r ≡ none → asked v ≡ [] → es ≡ booked v r es
same v r es c t a = sym (append-nil es) ∙ ap (λ (l : List TimerMapEntry). es ++ l) (sym a) ∙ grown v r es c t

-- the first of a due time comes out
gone : (v : QueueCall) (r : Reply) (es : List TimerMapEntry) (t : ℕ) → reply_code r ≡ 0 → time_out r ≡ some t → asked v ≡ [] → shift_remove (index_of t (due_times es)) es ≡ booked v r es
unfolding booked cut_at
gone v r es t c o a =
    sym (choose_yes _ _ _ (eq-eqb (reply_code r) 0 c) ∙ ap (λ (y : Option ℕ). cut_at y (es ++ asked v)) o
    ∙ ap (λ (l : List TimerMapEntry). shift_remove (index_of t (due_times l)) l) (ap (λ (l : List TimerMapEntry). es ++ l) a ∙ append-nil es))

abbrev of_put : PutWords → QueueOutcome
of_put w = record { reply = code w.code; words = w.words }

code_reply : (c : ℕ) → reply_code (code c) ≡ c
unfolding reply_code
code_reply c = refl

inserted_way : (time delay : ℕ) (x : Timer) (es : List TimerMapEntry) → Good es → (p : Put) → E.insert_timer time delay x es ≡ p → queue_answered (insert time delay x) (pack_queue es) ≡ record { reply = code p.code; words = pack_queue p.entries }
unfolding queue_answered packed_put
inserted_way time delay x es g p e = ap of_put (insert_packed es g time delay x ∙ ap packed_put e)

records_way : (time : ℕ) (out : List ℕ) (es : List TimerMapEntry) → Good es → (p : Put) → R.insert_records time out es ≡ p → queue_answered (insert_records time out) (pack_queue es) ≡ record { reply = code p.code; words = pack_queue p.entries }
unfolding queue_answered packed_put
records_way time out es g p e = ap of_put (records_packed es g time out ∙ ap packed_put e)

insert_book : (time delay : ℕ) (x : Timer) (es : List TimerMapEntry) → es ++ (record { time = time + delay; item = x } ∷ []) ≡ booked (insert time delay x) (code 0) es
unfolding asked time_out reply_code
insert_book time delay x es = grown (insert time delay x) (code 0) es refl refl

records_book : (time : ℕ) (out : List ℕ) (es : List TimerMapEntry) → es ++ entries_from time (timers_in out) ≡ booked (insert_records time out) (code 0) es
unfolding asked time_out reply_code
records_book time out es = grown (insert_records time out) (code 0) es refl refl

step_insert : (time delay : ℕ) (x : Timer) (es : List TimerMapEntry) → Good es → Step (insert time delay x) es
step_insert time delay x es g = go (inserts time delay x es)
  where
    way : (p : Put) → E.insert_timer time delay x es ≡ p → queue_answered (insert time delay x) (pack_queue es) ≡ record { reply = code p.code; words = pack_queue p.entries }
    way p e = inserted_way time delay x es g p e

    go : Inserts time delay x es → Step (insert time delay x) es
    go (refused c n m e) = record { reply = code c; after = es; is = way (record { code = c; entries = es }) e; book = kept (insert time delay x) (code c) es (λ z. n (sym (code_reply c) ∙ z)); good = g; not_two = λ z. m (sym (code_reply c) ∙ z) }
    go (done t l e) =
        let fs : List TimerMapEntry = es ++ (record { time = time + delay; item = x } ∷ []) in
        record {
          reply = code 0;
          after = fs;
          is = way (record { code = 0; entries = fs }) e;
          book = insert_book time delay x es;
          good = subst (λ (p : Put). Good p.entries) e (good_insert time delay x es g);
          not_two = λ z. omega (arith, sym (code_reply 0) ∙ z);
        }

first_refused : (time : ℕ) (x : ScheduleTimer) (xs : List ScheduleTimer) (es : List TimerMapEntry) (c : ℕ) → (c ≡ 0 → ⊥) → E.insert_timer time x.delay x.item es ≡ record { code = c; entries = es } → insert_all time (x ∷ xs) es ≡ record { code = c; entries = es }
unfolding insert_all
first_refused time x xs es c n e = choose_no _ _ _ (ap (λ (p : Put). eqb p.code 0) e ∙ ne_eqb c 0 n) ∙ e

first_done : (time : ℕ) (x : ScheduleTimer) (xs : List ScheduleTimer) (es : List TimerMapEntry) {fs : List TimerMapEntry} → E.insert_timer time x.delay x.item es ≡ record { code = 0; entries = fs } → insert_all time (x ∷ xs) es ≡ insert_all time xs fs
unfolding insert_all
first_done time x xs es e = choose_yes _ _ _ (ap (λ (p : Put). eqb p.code 0) e) ∙ ap (λ (p : Put). insert_all time xs p.entries) e

-- all timers of an output: accepted, they stand behind what was held
data AllIn (time : ℕ) (xs : List ScheduleTimer) (es : List TimerMapEntry) : Type 0 where
  all_refused : (c : ℕ) (fs : List TimerMapEntry) → (c ≡ 0 → ⊥) → (c ≡ 2 → ⊥) → insert_all time xs es ≡ record { code = c; entries = fs } → AllIn time xs es
  all_done : insert_all time xs es ≡ record { code = 0; entries = es ++ entries_from time xs } → AllIn time xs es

all_in : (time : ℕ) (xs : List ScheduleTimer) (es : List TimerMapEntry) → AllIn time xs es
unfolding insert_all entries_from
all_in time [] es = all_done (ap (λ (l : List TimerMapEntry). record { code = 0; entries = l }) (sym (append-nil es)))
all_in time (x ∷ xs) es = go (inserts time x.delay x.item es) (λ fs. all_in time xs fs)
  where
    go : Inserts time x.delay x.item es → ((fs : List TimerMapEntry) → AllIn time xs fs) → AllIn time (x ∷ xs) es
    go (refused c n m e) f = all_refused c es n m (first_refused time x xs es c n e)
    go (done t l e) f = more (f (es ++ (record { time = time + x.delay; item = x.item } ∷ [])))
      where
        more : AllIn time xs (es ++ (record { time = time + x.delay; item = x.item } ∷ [])) → AllIn time (x ∷ xs) es
        more (all_refused c fs n m k) = all_refused c fs n m (first_done time x xs es e ∙ k)
        more (all_done k) = all_done (first_done time x xs es e ∙ k ∙ ap (λ (r : List TimerMapEntry). record { code = 0; entries = r }) (append_assoc es (record { time = time + x.delay; item = x.item } ∷ []) (entries_from time xs)))

undone : (time : ℕ) (out : List ℕ) (es : List TimerMapEntry) (c : ℕ) (fs : List TimerMapEntry) → (c ≡ 0 → ⊥) → insert_all time (timers_in out) es ≡ record { code = c; entries = fs } → R.insert_records time out es ≡ record { code = c; entries = es }
unfolding R.insert_records all_or_none
undone time out es c fs n e = ap (all_or_none es) e ∙ choose_no _ _ _ (ne_eqb c 0 n)

all_did : (time : ℕ) (out : List ℕ) (es : List TimerMapEntry) {fs : List TimerMapEntry} → insert_all time (timers_in out) es ≡ record { code = 0; entries = fs } → R.insert_records time out es ≡ record { code = 0; entries = fs }
unfolding R.insert_records all_or_none
all_did time out es e = ap (all_or_none es) e ∙ choose_yes (eqb 0 0) _ _ refl

step_records : (time : ℕ) (out : List ℕ) (es : List TimerMapEntry) → Good es → Step (insert_records time out) es
step_records time out es g = go (all_in time (timers_in out) es)
  where
    go : AllIn time (timers_in out) es → Step (insert_records time out) es
    go (all_refused c fs n m e) = record {
      reply = code c;
      after = es;
      is = records_way time out es g (record { code = c; entries = es }) (undone time out es c fs n e);
      book = kept (insert_records time out) (code c) es (λ z. n (sym (code_reply c) ∙ z));
      good = g;
      not_two = λ z. m (sym (code_reply c) ∙ z);
    }
    go (all_done e) = record {
      reply = code 0;
      after = es ++ entries_from time (timers_in out);
      is = records_way time out es g (record { code = 0; entries = es ++ entries_from time (timers_in out) }) (all_did time out es e);
      book = records_book time out es;
      good = subst (λ (p : Put). Good p.entries) e (good_all time (timers_in out) es g);
      not_two = λ z. omega (arith, sym (code_reply 0) ∙ z);
    }

-- ---- taking out

abbrev of_pop : PoppedWords → QueueOutcome
of_pop w = record { reply = popped w.answer; words = w.words }

abbrev of_event : Taken → QueueOutcome
of_event w = record { reply = event w.answer w.output; words = w.words }

pop_way : (limit : ℕ) (es : List TimerMapEntry) → Good es → (w : PoppedWords) → C.popped_words limit es ≡ w → queue_answered (pop_before limit) (pack_queue es) ≡ of_pop w
unfolding queue_answered
pop_way limit es g w e = ap of_pop (pop_packed es g limit ∙ e)

event_way : (limit : ℕ) (out : List ℕ) (es : List TimerMapEntry) → Good es → (w : Taken) → event_popped limit es out ≡ w → queue_answered (pop_event limit out) (pack_queue es) ≡ of_event w
unfolding queue_answered
event_way limit out es g w e = ap of_event (event_packed es g limit out ∙ e)

-- the place of the entry that goes
place : (limit : ℕ) (es : List TimerMapEntry) → is_due limit es ≡ true → shift_remove (soonest es) es ≡ shift_remove (index_of (first_entry es).time (due_times es)) es
place limit es d = ap (λ (n : ℕ). shift_remove n es) (sym (first_place es (due_some limit es d)))

smaller : (limit : ℕ) (es : List TimerMapEntry) → Good es → is_due limit es ≡ true → Good (shift_remove (soonest es) es)
smaller limit es g d = good_remove (soonest es) es (soonest_below es (due_some limit es d)) g

pop_found : (limit : ℕ) (es : List TimerMapEntry) → shift_remove (index_of (first_entry es).time (due_times es)) es ≡ booked (pop_before limit) (popped (record { code = 0; found = true; entry = first_entry es })) es
unfolding reply_code time_out asked choose
pop_found limit es = gone (pop_before limit) (popped (record { code = 0; found = true; entry = first_entry es })) es (first_entry es).time refl refl refl

pop_nothing : (limit : ℕ) (es : List TimerMapEntry) → es ≡ booked (pop_before limit) (popped (refused_pop 0)) es
unfolding reply_code time_out asked choose
pop_nothing limit es = same (pop_before limit) (popped (refused_pop 0)) es refl refl refl

popped_code : (a : Popped) → reply_code (popped a) ≡ a.code
unfolding reply_code
popped_code a = refl

event_code : (a : PoppedEvent) (out : List ℕ) → reply_code (event a out) ≡ a.code
unfolding reply_code
event_code a out = refl

step_pop : (limit : ℕ) (es : List TimerMapEntry) → Good es → Step (pop_before limit) es
step_pop limit es g =
    split (is_due limit es)
    (λ d. record {
      reply = popped (record { code = 0; found = true; entry = first_entry es });
      after = shift_remove (soonest es) es;
      is = pop_way limit es g _ (popped_one limit es d);
      book = place limit es d ∙ pop_found limit es;
      good = smaller limit es g d;
      not_two = λ z. omega (arith, sym (popped_code (record { code = 0; found = true; entry = first_entry es })) ∙ z);
    })
    (λ d. record {
      reply = popped (refused_pop 0);
      after = es;
      is = pop_way limit es g _ (popped_none limit es d);
      book = pop_nothing limit es;
      good = g;
      not_two = λ z. omega (arith, sym (popped_code (refused_pop 0)) ∙ z);
    })

abbrev no_pop : ℕ → PoppedEvent
no_pop c = record { code = c; found = false; time = 0 }

abbrev pop_one : TimerMapEntry → PoppedEvent
pop_one e = record { code = 0; found = true; time = e.time }

event_found : (limit : ℕ) (out bytes : List ℕ) (es : List TimerMapEntry) → shift_remove (index_of (first_entry es).time (due_times es)) es ≡ booked (pop_event limit out) (event (pop_one (first_entry es)) bytes) es
unfolding reply_code time_out asked choose
event_found limit out bytes es = gone (pop_event limit out) (event (pop_one (first_entry es)) bytes) es (first_entry es).time refl refl refl

abbrev blank : List ℕ → List ℕ
blank out = replicate (length out) 0

event_nothing : (limit : ℕ) (out : List ℕ) (es : List TimerMapEntry) → es ≡ booked (pop_event limit out) (event (no_pop 0) (blank out)) es
unfolding reply_code time_out asked choose
event_nothing limit out es = same (pop_event limit out) (event (no_pop 0) (blank out)) es refl refl refl

event_kept : (limit : ℕ) (out : List ℕ) (es : List TimerMapEntry) → Good es → (c : ℕ) → (c ≡ 0 → ⊥) → (c ≡ 2 → ⊥) → event_popped limit es out ≡ untaken c (pack_queue es) out → Step (pop_event limit out) es
event_kept limit out es g c n m e = record {
  reply = event (no_pop c) (blank out);
  after = es;
  is = event_way limit out es g (untaken c (pack_queue es) out) e;
  book = kept (pop_event limit out) (event (no_pop c) (blank out)) es (λ z. n (sym (event_code (no_pop c) (blank out)) ∙ z));
  good = g;
  not_two = λ z. m (sym (event_code (no_pop c) (blank out)) ∙ z);
}

step_event : (limit : ℕ) (out : List ℕ) (es : List TimerMapEntry) → Good es → Step (pop_event limit out) es
step_event limit out es g =
    split (is_due limit es)
    (λ d. split (fits (event_rec (first_entry es)) 0 (length out))
    (λ f. record {
      reply = event (pop_one (first_entry es)) (written (event_rec (first_entry es)) 0 out);
      after = shift_remove (soonest es) es;
      is = event_way limit out es g _ (an_event limit es out d f);
      book = place limit es d ∙ event_found limit out (written (event_rec (first_entry es)) 0 out) es;
      good = smaller limit es g d;
      not_two = λ z. omega (arith, sym (event_code (pop_one (first_entry es)) (written (event_rec (first_entry es)) 0 out)) ∙ z);
    })
    (λ f. event_kept limit out es g 9 (λ z. omega (arith, z)) (λ z. omega (arith, z)) (no_room limit es out d f)))
    (λ d. record {
      reply = event (no_pop 0) (blank out);
      after = es;
      is = event_way limit out es g (untaken 0 (pack_queue es) out) (none_event limit es out d);
      book = event_nothing limit out es;
      good = g;
      not_two = λ z. omega (arith, sym (event_code (no_pop 0) (blank out)) ∙ z);
    })

first_code : (es : List TimerMapEntry) → (first_of es).code ≡ 0
unfolding first_of choose
first_code es = split (null es) (λ t. rw t) (λ t. rw t)

step_first : (es : List TimerMapEntry) → Good es → Step first es
unfolding queue_answered reply_code time_out asked
step_first es g = record {
  reply = next (first_of es);
  after = es;
  is = ap (λ (a : First). record { reply = next a; words = pack_queue es }) (first_packed es g);
  book = same first (next (first_of es)) es (first_code es) refl refl;
  good = g;
  not_two = λ z. omega (arith, first_code es, z);
}

step_count : (es : List TimerMapEntry) → Good es → Step count es
unfolding queue_answered reply_code time_out asked
step_count es g = record {
  reply = held (record { code = 0; count = length es });
  after = es;
  is = ap (λ (a : Len). record { reply = held a; words = pack_queue es }) (count_packed es g);
  book = same count (held (record { code = 0; count = length es })) es refl refl refl;
  good = g;
  not_two = λ z. omega (arith, z);
}

step : (v : QueueCall) (es : List TimerMapEntry) → Good es → Step v es
step (insert time delay x) es g = step_insert time delay x es g
step (insert_records time out) es g = step_records time out es g
step (pop_before limit) es g = step_pop limit es g
step (pop_event limit out) es g = step_event limit out es g
step first es g = step_first es g
step count es g = step_count es g

-- ---- what is taken out

due_limit : (limit : ℕ) (es : List TimerMapEntry) → is_due limit es ≡ true → (first_entry es).time ≤ limit
unfolding is_due
due_limit limit es d = leb-true (first_entry es).time limit (and_right (not (null es)) _ d)

-- none is due: each entry is due later
later : (limit : ℕ) (es : List TimerMapEntry) → is_due limit es ≡ false → (k : ℕ) → k < length es → limit < (get_or es k no_queue_entry).time
unfolding is_due
later limit es d k h =
    let s : 0 < length es = omega arith in
    let n : leb (first_entry es).time limit ≡ false = sym (ap (λ (b : Bool). not b && leb (first_entry es).time limit) (null_not es s)) ∙ d in
    omega (arith, leb-false (first_entry es).time limit n, first_earliest es s k h)

first_got : (es : List TimerMapEntry) → get_or es (soonest es) no_queue_entry ≡ first_entry es
unfolding first_entry
first_got es = refl

right : (limit : ℕ) (es : List TimerMapEntry) → is_due limit es ≡ true → Right limit es (first_entry es)
right limit es d =
    let s : 0 < length es = due_some limit es d in
    let p : index_of (first_entry es).time (due_times es) ≡ soonest es = first_place es s in
    record {
      due = due_limit limit es d;
      there = subst (λ (n : ℕ). n < length es) (sym p) (soonest_below es s);
      is = ap (λ (n : ℕ). get_or es n no_queue_entry) p ∙ first_got es;
      earliest = first_earliest es s;
      oldest = λ k h. first_oldest es s k (subst (λ (n : ℕ). k < n) p h);
    }

popped_is : (a b : Popped) → popped a ≡ popped b → a ≡ b
popped_is a b e = cc

event_is : (a b : PoppedEvent) (x y : List ℕ) → event a x ≡ event b y → (a ≡ b) × (x ≡ y)
event_is a b x y e = ((cc), (cc))

pop_reply : (limit : ℕ) (es : List TimerMapEntry) → Good es → (a : Popped) → (queue_answered (pop_before limit) (pack_queue es)).reply ≡ popped a → a ≡ (C.popped_words limit es).answer
pop_reply limit es g a e = popped_is a (C.popped_words limit es).answer (sym e ∙ ap (λ (o : QueueOutcome). o.reply) (pop_way limit es g (C.popped_words limit es) refl))

popped_good : (es : List TimerMapEntry) → Good es → (limit : ℕ) (a : Popped) → (queue_answered (pop_before limit) (pack_queue es)).reply ≡ popped a → a.found ≡ true → Right limit es a.entry
popped_good es g limit a e f =
    let q : a ≡ (C.popped_words limit es).answer = pop_reply limit es g a e in
    split (is_due limit es)
    (λ d. subst (λ (y : Popped). Right limit es y.entry) (sym (q ∙ ap (λ (w : PoppedWords). w.answer) (popped_one limit es d))) (right limit es d))
    (λ d. clash a.found f (ap (λ (y : Popped). y.found) (q ∙ ap (λ (w : PoppedWords). w.answer) (popped_none limit es d))))

none_good : (es : List TimerMapEntry) → Good es → (limit : ℕ) (a : Popped) → (queue_answered (pop_before limit) (pack_queue es)).reply ≡ popped a → a.found ≡ false → (k : ℕ) → k < length es → limit < (get_or es k no_queue_entry).time
none_good es g limit a e f =
    let q : a ≡ (C.popped_words limit es).answer = pop_reply limit es g a e in
    split (is_due limit es)
    (λ d. clash a.found (ap (λ (y : Popped). y.found) (q ∙ ap (λ (w : PoppedWords). w.answer) (popped_one limit es d))) f)
    (λ d. later limit es d)

module _ (es : List TimerMapEntry) (g : Good es) (limit : ℕ) (out : List ℕ) (a : PoppedEvent) (bytes : List ℕ) (e : (queue_answered (pop_event limit out) (pack_queue es)).reply ≡ event a bytes) where
  told : (w : Taken) → event_popped limit es out ≡ w → (a ≡ w.answer) × (bytes ≡ w.output)
  told w k = event_is a w.answer bytes w.output (sym e ∙ ap (λ (o : QueueOutcome). o.reply) (event_way limit out es g w k))

  event_good : a.found ≡ true → EventRight limit es out a bytes
  event_good f =
      split (is_due limit es)
      (λ d. split (fits (event_rec (first_entry es)) 0 (length out))
      (λ k. let q = told _ (an_event limit es out d k) in
      record { entry = first_entry es; right = right limit es d; time = ap (λ (y : PoppedEvent). y.time) q.0; ok = due_ok limit es g.timers d; bytes_are = q.1; reads = reads_out (first_entry es) out bytes (due_ok limit es g.timers d) k q.1 })
      (λ k. silent _ refl (no_room limit es out d k)))
      (λ d. silent _ refl (none_event limit es out d))
    where
      silent : (w : Taken) → w.answer.found ≡ false → event_popped limit es out ≡ w → EventRight limit es out a bytes
      silent w n k = clash a.found f (ap (λ (y : PoppedEvent). y.found) (told w k).0 ∙ n)

  blank_good : a.found ≡ false → bytes ≡ blank out
  blank_good f =
      split (is_due limit es)
      (λ d. split (fits (event_rec (first_entry es)) 0 (length out))
      (λ k. clash a.found (ap (λ (y : PoppedEvent). y.found) (told _ (an_event limit es out d k)).0) f)
      (λ k. (told _ (no_room limit es out d k)).1))
      (λ d. (told _ (none_event limit es out d)).1)

not_mem : (c : ℕ) (cs : List ℕ) → (c ≡ 2 → ⊥) → mem 2 cs ≡ false → mem 2 (c ∷ cs) ≡ false
unfolding mem
not_mem c cs n e = rw (ne_eqb 2 c (λ z. n (sym z))) e

new_empty : (ws : List ℕ) → (renewed ws).code ≡ 0 → (l : List ℕ) → l ≡ (renewed ws).words → l ≡ pack_queue []
unfolding renewed
new_empty ws c l e =
    split (eqb (length ws) 513)
    (λ t. e ∙ ap (λ (w : PutWords). w.words) (choose_yes _ _ _ t))
    (λ t. absurd (omega (arith, sym (ap (λ (w : PutWords). w.code) (choose_no (eqb (length ws) 513) (record { code = 0; words = pack_queue [] }) (record { code = 2; words = ws }) t)) ∙ c)))

-- ---- lists of calls

takes : (es : List TimerMapEntry) → Good es → TakesOut (pack_queue es) es
takes es g = record { popped_right = popped_good es g; none_due = none_good es g; event_right = event_good es g; none_left = blank_good es g }

record After (ws : List ℕ) (vs : List QueueCall) (es : List TimerMapEntry) : Type 0 where
  held_words : queue_after vs ws ≡ pack_queue (book_after vs ws es)
  no_two : mem 2 (reply_codes vs ws) ≡ false
  next_takes : TakesOut (queue_after vs ws) (book_after vs ws es)

after : (vs : List QueueCall) (es : List TimerMapEntry) → Good es → After (pack_queue es) vs es
unfolding queue_after book_after reply_codes mem
after [] es g = record { held_words = refl; no_two = refl; next_takes = takes es g }
after (v ∷ vs) es g =
    let s : Step v es = step v es g in
    let b : s.after ≡ booked v (queue_answered v (pack_queue es)).reply es = s.book ∙ sym (ap (λ (y : QueueOutcome). booked v y.reply es) s.is) in
    let w : pack_queue s.after ≡ (queue_answered v (pack_queue es)).words = sym (ap (λ (y : QueueOutcome). y.words) s.is) in
    let t : After (queue_answered v (pack_queue es)).words vs (booked v (queue_answered v (pack_queue es)).reply es) =
    subst (λ (ws : List ℕ). After ws vs (booked v (queue_answered v (pack_queue es)).reply es)) w (subst (λ (fs : List TimerMapEntry). After (pack_queue s.after) vs fs) b (after vs s.after s.good)) in
    record {
      held_words = t.held_words;
      no_two = not_mem (reply_code (queue_answered v (pack_queue es)).reply) (reply_codes vs (queue_answered v (pack_queue es)).words) (λ z. s.not_two (sym (ap (λ (y : QueueOutcome). reply_code y.reply) s.is) ∙ z)) t.no_two;
      next_takes = t.next_takes;
    }

-- "From empty on, the queue is proved to hold what was put in and not yet taken out, and never to be answered 2."
pub queue_holds : QueueHolds
queue_holds ws c vs =
    let b : After (renewed ws).words vs [] = subst (λ (y : List ℕ). After y vs []) (sym (new_empty ws c (renewed ws).words refl)) (after vs [] good_none) in
    record { holds = b.held_words; none_is_two = b.no_two; takes = b.next_takes }
