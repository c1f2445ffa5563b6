-- Laws of the loop over an output's timers.
-- Assumes nothing.
use Prim.Native.Nat.{ℕ, ◌+◌, ◌-◌, ◌≤◌, ◌<◌}
use mathlib.Core.Path.{◌≡◌, refl, sym, ap, ◌∙◌, subst}
use mathlib.Core.Bool.{Bool, true, false, ◌&&◌}
use mathlib.Core.List.{List, [], ◌∷◌, ◌++◌, append_assoc, append-nil, flat_map}
use native.Mathlib.Omega.{arith}
use lib.ListN.{length, take, length-append}
use lib.Seq.{take-append_seam}
use lib.Dec.{leb, eqb}
use borrow.Author.Tests.{lt-ltb, le-ltb, eq-eqb, ne_eqb}
use Rattle.base_lists.specs.Lists.{choose}
use Rattle.base_lists.proofs.Choice.{by_choice, split, choose_yes, choose_no}
use Rattle.record.specs.declared.Header.{Header}
use Rattle.record.specs.Read.{header_of, is_timer}
use Rattle.record.specs.Answers.{answer}
use Rattle.record.specs.Walk.{whole_length, records_in}
use Rattle.record.proofs.Walk.{size_is}
use Rattle.timer_map.specs.Entries.{Put, timer_ok, insert_timer}
use Rattle.timer_map.specs.Words.{queue_count, entries_of, queue_ok, pack_queue, SoundQueue}
use Rattle.std.specs.Prelude.{Option, Some, None, Result, Ok, Err}
use Rattle.std.specs.Result.{is_err}
use Rattle.timer_map.specs.Calls.{PutWords, packed_put, code_in}
use Rattle.timer_map.specs.declared.QueueRefusal.{QueueRefusal}
use Rattle.timer_map.specs.declared.TimerMapEntry.{TimerMapEntry}
use Rattle.timer_map.proofs.Pack.{entries_pack}
use Rattle.timer_map.proofs.Ways.{insert_malformed, some_number}
use Rattle.timer_map.proofs.Kept.{Good, good_insert, good_sound, sound_good, Inserts, refused, done, inserts}
use Rattle.timer_events.specs.declared.ScheduleTimer.{ScheduleTimer}
use Rattle.timer_events.specs.Records.{no_start, started, started_by, schedule_of, timer_of, timers_in, insert_all, all_or_none, insert_records, records_inserted}

-- ---- the timer of one record

module _ (n : ℕ) (b : List ℕ) where
  pub short_start : length b < n → no_start ≡ schedule_of n b
  unfolding schedule_of
  short_start h = sym (choose_yes _ _ _ (lt-ltb (length b) n h))

  -- what was read of the first n bytes
  pub read_there : (a : Option Header) (part : List ℕ) → part ≡ take (n - 0) b → a ≡ answer part → a ≡ answer (take n b)
  read_there a part e p = let z : n - 0 ≡ n = omega arith in p ∙ ap answer (e ∙ ap (λ (m : ℕ). take m b) z)

  pub read_start : (r : ScheduleTimer) (a : Option Header) (h : Header) → n ≤ length b → a ≡ answer (take n b) → a ≡ Some h → r ≡ started h → r ≡ schedule_of n b
  unfolding schedule_of started_by
  read_start r a h l p q e = e ∙ sym (choose_no _ _ _ (le-ltb (length b) n l) ∙ ap started_by (sym p ∙ q))

  pub no_record : (a : Option Header) → n ≤ length b → a ≡ answer (take n b) → a ≡ None → no_start ≡ schedule_of n b
  unfolding schedule_of started_by
  no_record a l p q = sym (choose_no _ _ _ (le-ltb (length b) n l) ∙ ap started_by (sym p ∙ q))

-- ---- one after the other

unfoldable next : ℕ → List ScheduleTimer → Put → Put
next time ys p = choose (eqb p.code 0) (insert_all time ys p.entries) p

insert_all_append : (time : ℕ) (xs ys : List ScheduleTimer) (es : List TimerMapEntry) → insert_all time (xs ++ ys) es ≡ next time ys (insert_all time xs es)
unfolding insert_all next
insert_all_append time [] ys es = sym (choose_yes (eqb 0 0) _ _ refl)
insert_all_append time (x ∷ xs) ys es =
    let p : Put = insert_timer time x.delay x.item es in
    split (eqb p.code 0)
    (λ t. choose_yes _ _ _ t ∙ insert_all_append time xs ys p.entries ∙ ap (next time ys) (sym (choose_yes (eqb p.code 0) (insert_all time xs p.entries) p t)))
    (λ t. choose_no _ _ _ t ∙ sym (ap (next time ys) (choose_no (eqb p.code 0) (insert_all time xs p.entries) p t) ∙ choose_no _ _ _ t))

-- a single one
one_insert : (time : ℕ) (x : ScheduleTimer) (es : List TimerMapEntry) → insert_all time (x ∷ []) es ≡ insert_timer time x.delay x.item es
unfolding insert_all
one_insert time x es = go (inserts time x.delay x.item es)
  where
    go : Inserts time x.delay x.item es → choose (eqb (insert_timer time x.delay x.item es).code 0) (record { code = 0; entries = (insert_timer time x.delay x.item es).entries }) (insert_timer time x.delay x.item es) ≡ insert_timer time x.delay x.item es
    go (refused c n m e) = choose_no _ _ _ (ap (λ (p : Put). eqb p.code 0) e ∙ ne_eqb c 0 n)
    go (done t l e) = choose_yes _ _ _ (ap (λ (p : Put). eqb p.code 0) e) ∙ (λ i. record { code = ap (λ (p : Put). p.code) (sym e) i; entries = (insert_timer time x.delay x.item es).entries })

pub good_all : (time : ℕ) (xs : List ScheduleTimer) (es : List TimerMapEntry) → Good es → Good (insert_all time xs es).entries
unfolding insert_all
good_all time [] es g = g
good_all time (x ∷ xs) es g =
    by_choice (λ (p : Put). Good p.entries) (eqb (insert_timer time x.delay x.item es).code 0)
    (λ t. good_all time xs (insert_timer time x.delay x.item es).entries (good_insert time x.delay x.item es g))
    (λ t. good_insert time x.delay x.item es g)

-- what was held stays in front
pub record Extends (es fs : List TimerMapEntry) : Type 0 where
  pub more : List TimerMapEntry
  pub is : fs ≡ es ++ more

extends_insert : (time delay : ℕ) (x : ScheduleTimer) (es : List TimerMapEntry) → Extends es (insert_timer time x.delay x.item es).entries
extends_insert time delay x es = go (inserts time x.delay x.item es)
  where
    go : Inserts time x.delay x.item es → Extends es (insert_timer time x.delay x.item es).entries
    go (refused c n m e) = record { more = []; is = ap (λ (p : Put). p.entries) e ∙ sym (append-nil es) }
    go (done t l e) = record { more = record { time = time + x.delay; item = x.item } ∷ []; is = ap (λ (p : Put). p.entries) e }

pub extends_all : (time : ℕ) (xs : List ScheduleTimer) (es : List TimerMapEntry) → Extends es (insert_all time xs es).entries
unfolding insert_all
extends_all time [] es = record { more = []; is = sym (append-nil es) }
extends_all time (x ∷ xs) es =
    by_choice (λ (p : Put). Extends es p.entries) (eqb (insert_timer time x.delay x.item es).code 0)
    (λ t. let a : Extends es (insert_timer time x.delay x.item es).entries = extends_insert time 0 x es in
    let b : Extends (insert_timer time x.delay x.item es).entries (insert_all time xs (insert_timer time x.delay x.item es).entries).entries = extends_all time xs (insert_timer time x.delay x.item es).entries in
    record { more = a.more ++ b.more; is = b.is ∙ ap (λ (l : List TimerMapEntry). l ++ b.more) a.is ∙ append_assoc es a.more b.more })
    (λ t. extends_insert time 0 x es)

-- ---- insert_record

abbrev words_of : ℕ → List ℕ → PutWords
words_of c l = record { code = c; words = l }

module _ (ws b : List ℕ) (h : Header) (time : ℕ) (v : SoundQueue ws) (e : h ≡ header_of b) where
  pub put_timer : (x : ScheduleTimer) (r : PutWords) → r ≡ packed_put (insert_timer time x.delay x.item (entries_of ws)) → x ≡ schedule_of h.size b → (leb 1 h.kind && leb h.kind 4) ≡ true
      → r ≡ packed_put (insert_all time (timer_of b) (entries_of ws))
  unfolding timer_of is_timer
  put_timer x r p q t =
      let k : x ≡ schedule_of (whole_length b) b = q ∙ ap (λ (n : ℕ). schedule_of n b) (size_is b h e) in
      let u : is_timer (header_of b) ≡ true = sym (ap is_timer e) ∙ t in
      p ∙ ap packed_put (sym (one_insert time x (entries_of ws)) ∙ ap (λ (y : ScheduleTimer). insert_all time (y ∷ []) (entries_of ws)) k ∙ ap (λ (l : List ScheduleTimer). insert_all time l (entries_of ws)) (sym (choose_yes _ _ _ u)))

  -- what starts no timer is refused
  pub put_none : no_start ≡ schedule_of h.size b → (leb 1 h.kind && leb h.kind 4) ≡ true → record { code = 3; words = ws } ≡ packed_put (insert_all time (timer_of b) (entries_of ws))
  unfolding packed_put timer_ok
  put_none q t = put_timer no_start (words_of 3 ws) (ap (words_of 3) v.is ∙ sym (ap packed_put (insert_malformed time 0 no_start.item (entries_of ws) refl))) q t

  pub put_other : (leb 1 h.kind && leb h.kind 4) ≡ false → record { code = 0; words = ws } ≡ packed_put (insert_all time (timer_of b) (entries_of ws))
  unfolding timer_of is_timer insert_all packed_put
  put_other t =
      let u : is_timer (header_of b) ≡ false = sym (ap is_timer e) ∙ t in
      ap (words_of 0) v.is ∙ ap (λ (l : List ScheduleTimer). packed_put (insert_all time l (entries_of ws))) (sym (choose_no _ _ _ u))

-- ---- the loop

-- The timers of `rest` are to come, and q has those before them.
pub record Inserting (time : ℕ) (whole : PutWords) (q rest : List ℕ) : Type 0 where
  pub sound : SoundQueue q
  pub same : whole ≡ packed_put (insert_all time (timers_in rest) (entries_of q))

module _ (time : ℕ) (whole : PutWords) (q rest : List ℕ) (v : Inserting time whole q rest) where
  by_records : (bs : List (List ℕ)) → records_in rest ≡ bs → whole ≡ packed_put (insert_all time (flat_map timer_of bs) (entries_of q))
  unfolding timers_in
  by_records bs e = v.same ∙ ap (λ (x : List (List ℕ)). packed_put (insert_all time (flat_map timer_of x) (entries_of q))) e

  pub inserting_end : records_in rest ≡ [] → record { code = 0; words = q } ≡ whole
  unfolding packed_put insert_all flat_map
  inserting_end e = ap (words_of 0) v.sound.is ∙ sym (by_records [] e)

  -- the next record is b, and its timer is put in
  module _ (b more : List ℕ) (r : records_in rest ≡ b ∷ records_in more) (code : ℕ) (q' : List ℕ) (e : record { code = code; words = q' } ≡ packed_put (insert_all time (timer_of b) (entries_of q))) where
    step : whole ≡ packed_put (next time (timers_in more) (insert_all time (timer_of b) (entries_of q)))
    unfolding flat_map timers_in
    step = by_records (b ∷ records_in more) r ∙ ap packed_put (insert_all_append time (timer_of b) (flat_map timer_of (records_in more)) (entries_of q))

    code_is : code ≡ (insert_all time (timer_of b) (entries_of q)).code
    unfolding packed_put
    code_is = ap (λ (y : PutWords). y.code) e

    words_is : q' ≡ pack_queue (insert_all time (timer_of b) (entries_of q)).entries
    unfolding packed_put
    words_is = ap (λ (y : PutWords). y.words) e

    pub inserting_refused : (code ≡ 0 → ⊥) → record { code = code; words = q' } ≡ whole
    unfolding next
    inserting_refused n = e ∙ sym (step ∙ ap packed_put (choose_no _ _ _ (ne_eqb _ 0 (λ o. n (code_is ∙ o)))))

    held : entries_of q' ≡ (insert_all time (timer_of b) (entries_of q)).entries
    held = ap entries_of words_is ∙ entries_pack _

    pub inserting_next : code ≡ 0 → Inserting time whole q' more
    unfolding next
    inserting_next c = record {
      sound = subst SoundQueue (sym words_is) (good_sound _ (good_all time (timer_of b) (entries_of q) (sound_good q v.sound)));
      same = step ∙ ap packed_put (choose_yes _ _ _ (eq-eqb _ 0 (sym code_is ∙ c))) ∙ ap (λ (l : List TimerMapEntry). packed_put (insert_all time (timers_in more) l)) (sym held);
    }

-- what an answer's code is

pub ok_code : (r : Result (Unit {0}) QueueRefusal) → is_err r ≡ false → code_in r ≡ 0
ok_code (Ok x) e = refl
ok_code (Err why) e = cc

pub err_code : (r : Result (Unit {0}) QueueRefusal) → is_err r ≡ true → code_in r ≡ 0 → ⊥
err_code (Ok x) e z = cc
err_code (Err why) e z = some_number why z

-- ---- all or none

module _ (ws out : List ℕ) (time : ℕ) (v : SoundQueue ws) (code : ℕ) (q : List ℕ)
    (e : record { code = code; words = q } ≡ packed_put (insert_all time (timers_in out) (entries_of ws))) where
  all_words : q ≡ pack_queue (insert_all time (timers_in out) (entries_of ws)).entries
  unfolding packed_put
  all_words = ap (λ (y : PutWords). y.words) e

  all_code : code ≡ (insert_all time (timers_in out) (entries_of ws)).code
  unfolding packed_put
  all_code = ap (λ (y : PutWords). y.code) e

  all_held : entries_of q ≡ (insert_all time (timers_in out) (entries_of ws)).entries
  all_held = ap entries_of all_words ∙ entries_pack _

  pub all_sound : SoundQueue q
  all_sound = subst SoundQueue (sym all_words) (good_sound _ (good_all time (timers_in out) (entries_of ws) (sound_good ws v)))

  front : Extends (entries_of ws) (entries_of q)
  front = subst (Extends (entries_of ws)) (sym all_held) (extends_all time (timers_in out) (entries_of ws))

  pub all_more : queue_count ws ≤ queue_count q
  all_more = omega (arith, v.count, all_sound.count, ap length front.is, length-append (entries_of ws) front.more)

  old_front : take (queue_count ws) (entries_of q) ≡ entries_of ws
  old_front = ap (λ (n : ℕ). take n (entries_of q)) (sym v.count) ∙ ap (take (length (entries_of ws))) front.is ∙ take-append_seam (entries_of ws) front.more

  pub none_put : (r : List ℕ) → r ≡ pack_queue (take (queue_count ws) (entries_of q)) → (code ≡ 0 → ⊥) → record { code = code; words = r } ≡ packed_put (insert_records time out (entries_of ws))
  unfolding insert_records all_or_none packed_put
  none_put r p n =
      (λ i. words_of (all_code i) ((p ∙ ap pack_queue old_front) i))
      ∙ ap packed_put (sym (choose_no (eqb (insert_all time (timers_in out) (entries_of ws)).code 0) (insert_all time (timers_in out) (entries_of ws)) (record { code = (insert_all time (timers_in out) (entries_of ws)).code; entries = entries_of ws }) (ne_eqb _ 0 (λ o. n (all_code ∙ o)))))

  pub all_put : code ≡ 0 → record { code = 0; words = q } ≡ packed_put (insert_records time out (entries_of ws))
  unfolding insert_records all_or_none
  all_put c = ap (λ (n : ℕ). words_of n q) (sym c) ∙ e ∙ ap packed_put (sym (choose_yes (eqb (insert_all time (timers_in out) (entries_of ws)).code 0) (insert_all time (timers_in out) (entries_of ws)) (record { code = (insert_all time (timers_in out) (entries_of ws)).code; entries = entries_of ws }) (eq-eqb _ 0 (sym all_code ∙ c))))

module _ (ws out : List ℕ) (time : ℕ) (b : Bool) (e : b ≡ queue_ok ws) where
  pub records_asked : (k c : ℕ) (after : List ℕ) → b ≡ true → k ≡ c → record { code = c; words = after } ≡ packed_put (insert_records time out (entries_of ws)) → record { code = k; words = after } ≡ records_inserted time out ws
  unfolding records_inserted
  records_asked k c after t q p = ap (λ (n : ℕ). words_of n after) q ∙ p ∙ sym (choose_yes _ _ _ (sym e ∙ t))

  pub records_broken : b ≡ false → record { code = 2; words = ws } ≡ records_inserted time out ws
  unfolding records_inserted
  records_broken t = sym (choose_no _ _ _ (sym e ∙ t))
