-- The timer records of an accepted output are in form, so the queue finds each of them a timer; and what it holds is timers, which all have an event: neither is answered 3.
-- Assumes nothing.
use Prim.Native.Nat.{ℕ, ◌≤◌}
use mathlib.Core.Path.{◌≡◌, refl, sym, ap, ◌∙◌, subst}
use mathlib.Core.Bool.{true}
use mathlib.Core.List.{List, [], ◌∷◌, ◌++◌, append_assoc, flat_map}
use native.Mathlib.Omega.{arith}
use lib.ListN.{length, take, replicate, length-append}
use lib.Seq.{take_at}
use lib.Dec.{leb, eqb}
use borrow.Author.Tests.{le-ltb, leb-true}
use Rattle.base_lists.specs.Tests.{All}
use Rattle.base_lists.proofs.Choice.{by_choice, and_left, and_right, choose_yes, choose_no}
use Rattle.record.specs.Format.{Rec, size, header_by, encode, encode_by}
use Rattle.record.specs.Read.{header_of, header_of_by, is_timer, well_formed}
use Rattle.record.specs.InForm.{InForm, header_in, header_in_by}
use Rattle.record.specs.Walk.{whole_length, records_in}
use Rattle.record.specs.Answers.{answer}
use Rattle.std.specs.Prelude.{Some, None}
use Rattle.record.specs.declared.Header.{Header}
use Rattle.record.proofs.Format.{length_encode}
use Rattle.record.proofs.Forth.{header_read, well_formed_encode}
use Rattle.record.proofs.Walk.{whole_is, records_written, records_zeros}
use Rattle.spec_hyparview.specs.Written.{encode_all, WrittenOut}
use Rattle.spec_history.proofs.Outputs.{form_small}
use Rattle.timer_map.specs.Entries.{Put, timer_ok, insert_timer}
use Rattle.timer_map.specs.Words.{entries_of, queue_ok}
use Rattle.timer_map.specs.Calls.{PutWords, packed_put}
use Rattle.timer_map.specs.declared.TimerMapEntry.{TimerMapEntry}
use Rattle.timer_map.proofs.Kept.{timer_codes}
use Rattle.timer_events.specs.declared.ScheduleTimer.{ScheduleTimer}
use Rattle.timer_events.specs.Records.{started, started_by, schedule_of, timer_of, timers_in, insert_all, all_or_none, insert_records, records_inserted}
use Rattle.timer_events.specs.Events.{Taken, event_popped, event_taken}
use Rattle.timer_events.specs.History.{queue_answered, reply_code}
use Rattle.timer_events.specs.Claims.{EventsNeverMalformed, NotMalformed}
use Rattle.timer_events.proofs.Events.{said}
use Rattle.timer_events.proofs.RoundTrip.{Plain, plain}

-- ---- a record in form, with more bytes behind it

abbrev Ok : ScheduleTimer → Type 0
Ok x = timer_ok x.item ≡ true

same_kind : (e : Rec) (rest : List ℕ) → is_timer (header_of (encode e ++ rest)) ≡ is_timer (header_in e)
unfolding is_timer header_of_by encode_by header_by header_in_by
same_kind e rest = refl

started_ok : (h : Header) → is_timer h ≡ true → Plain h → Ok (started h)
unfolding is_timer
started_ok h t p =
    said (record { time = 0; item = (started h).item })
    (record { low = leb-true 1 h.kind (and_left (leb 1 h.kind) _ t); high = leb-true h.kind 4 (and_right (leb 1 h.kind) _ t); bare = p.bare }) refl

form_plain : (e : Rec) → InForm e → is_timer (header_in e) ≡ true → Plain (header_in e)
unfolding is_timer header_in_by
form_plain e f t = plain (header_in e) (leb-true 1 e.kind (and_left (leb 1 e.kind) _ t)) (leb-true e.kind 4 (and_right (leb 1 e.kind) _ t)) f.header

module _ (e : Rec) (rest : List ℕ) (f : InForm e) where
  abbrev b : List ℕ
  b = encode e ++ rest

  cut : take (whole_length b) b ≡ encode e
  cut = ap (λ (n : ℕ). take n b) (whole_is e rest (form_small e f)) ∙ take_at (encode e) rest (size e) (length_encode e)

  fits : whole_length b ≤ length b
  fits = omega (arith, whole_is e rest (form_small e f), length_encode e, length-append (encode e) rest)

  -- the timer that it starts
  starts : schedule_of (whole_length b) b ≡ started (header_in e)
  unfolding schedule_of started_by answer
  starts =
      choose_no _ _ _ (le-ltb (length b) (whole_length b) fits)
      ∙ ap (λ (l : List ℕ). started_by (answer l)) cut
      ∙ ap started_by (choose_yes (well_formed (encode e)) (Some (header_of (encode e))) None (well_formed_encode e f))
      ∙ ap started (header_read e f)

  one_ok : All Ok (timer_of b)
  unfolding timer_of All
  one_ok =
      by_choice (All Ok) (is_timer (header_of b))
      (λ t. let u : is_timer (header_in e) ≡ true = sym (same_kind e rest) ∙ t in
      (subst Ok (sym starts) (started_ok (header_in e) u (form_plain e f u)), tt))
      (λ t. tt)

all_append : (xs ys : List ScheduleTimer) → All Ok xs → All Ok ys → All Ok (xs ++ ys)
unfolding All
all_append [] ys a b = b
all_append (x ∷ xs) ys a b = (a.0, all_append xs ys a.1 b)

all_timers : (es : List Rec) (zeros : ℕ) → All InForm es → All Ok (timers_in (encode_all es ++ replicate zeros 0))
unfolding timers_in flat_map encode_all All
all_timers [] zeros a = subst (λ (bs : List (List ℕ)). All Ok (flat_map timer_of bs)) (sym (records_zeros zeros)) tt
all_timers (e ∷ es) zeros a =
    let rest : List ℕ = encode_all es ++ replicate zeros 0 in
    subst (λ (l : List ℕ). All Ok (flat_map timer_of (records_in l))) (sym (append_assoc (encode e) (encode_all es) (replicate zeros 0)))
    (subst (λ (bs : List (List ℕ)). All Ok (flat_map timer_of bs)) (sym (records_written e rest (form_small e a.0)))
    (all_append (timer_of (encode e ++ rest)) (flat_map timer_of (records_in rest)) (one_ok e rest a.0) (all_timers es zeros a.1)))

-- ---- putting timers in

abbrev Other : ℕ → Type 0
Other c = c ≡ 3 → ⊥

one_in : (time : ℕ) (x : ScheduleTimer) (es : List TimerMapEntry) → Ok x → Other (insert_timer time x.delay x.item es).code
one_in time x es t = timer_codes Other (λ z. omega (arith, z)) (λ z. omega (arith, z)) (λ z. omega (arith, z)) time x.delay x.item es t

all_in : (time : ℕ) (xs : List ScheduleTimer) (es : List TimerMapEntry) → All Ok xs → Other (insert_all time xs es).code
unfolding insert_all All
all_in time [] es a = λ z. omega (arith, z)
all_in time (x ∷ xs) es a =
    by_choice (λ (p : Put). Other p.code) (eqb (insert_timer time x.delay x.item es).code 0)
    (λ t. all_in time xs (insert_timer time x.delay x.item es).entries a.1)
    (λ t. one_in time x es a.0)

records_in_queue : (time : ℕ) (out : List ℕ) (es : List TimerMapEntry) → All Ok (timers_in out) → Other (insert_records time out es).code
unfolding insert_records all_or_none
records_in_queue time out es a =
    by_choice (λ (p : Put). Other p.code) (eqb (insert_all time (timers_in out) es).code 0) (λ t. all_in time (timers_in out) es a) (λ t. all_in time (timers_in out) es a)

-- what is written, in form, is never answered 3
pub written_taken : (out : List ℕ) → WrittenOut out → NotMalformed out
unfolding queue_answered reply_code records_inserted packed_put
written_taken out w time ws =
    by_choice (λ (p : PutWords). Other p.code) (queue_ok ws)
    (λ t. records_in_queue time out (entries_of ws) (subst (λ (l : List ℕ). All Ok (timers_in l)) (sym w.bytes) (all_timers w.records w.zeros w.in_form)))
    (λ t z. omega (arith, z))

-- ---- taking events out

pub events_never_malformed : EventsNeverMalformed
unfolding queue_answered reply_code event_taken event_popped
events_never_malformed limit out ws =
    by_choice (λ (k : Taken). Other k.answer.code) (queue_ok ws)
    (λ t. by_choice (λ (k : Taken). Other k.answer.code) _ (λ _. by_choice (λ (k : Taken). Other k.answer.code) _ (λ _ z. omega (arith, z)) (λ _ z. omega (arith, z))) (λ _ z. omega (arith, z)))
    (λ t z. omega (arith, z))
