-- One law for each way through a function of the queue.
-- Assumes nothing.
use Prim.Native.Nat.{ℕ, ◌+◌, ◌*◌, ◌≤◌, ◌<◌}
use mathlib.Core.Path.{◌≡◌, refl, sym, ap, ◌∙◌, subst}
use mathlib.Core.Bool.{Bool, true, false, ◌&&◌}
use mathlib.Core.List.{List, [], ◌∷◌, ◌++◌}
use native.Mathlib.Omega.{arith}
use lib.ListN.{length, drop, get_or, replicate}
use lib.Dec.{ltb, leb}
use Rattle.std.specs.Prelude.{Option, Some, None}
use borrow.Author.Tests.{eq-eqb, ne_eqb, ltb-false, lt-ltb, le-ltb, leb-false, le-leb, lt-leb}
use Rattle.base_lists.specs.Lists.{null, shift_remove}
use Rattle.base_lists.specs.Tests.{every}
use Rattle.base_lists.proofs.Choice.{split, choose_yes, choose_no}
use Rattle.timer_map.specs.Entries.{latest, queue_entry_ok, timer_ok, insert_refusal, insert_timer, soonest, first_entry, is_due, popped_entries, no_queue_entry}
use Rattle.timer_map.specs.Words.{queue_count, queue_entry_at, queue_entries_at, entries_of, unused_word, queue_ok, queue_rows, pack_queue, SoundQueue}
use Rattle.timer_map.specs.Calls.{queue_code, PutWords, packed_put, inserted, PoppedWords, refused_pop, refused_first, due_in, popped, popped_words, taken_out, first_of, first_in, count_in, renewed}
use Rattle.timer_map.specs.declared.Timer.{Timer}
use Rattle.timer_map.specs.declared.TimerMapEntry.{TimerMapEntry}
use Rattle.timer_map.specs.declared.QueueRefusal.{QueueRefusal}
use Rattle.timer_map.specs.declared.QueueRefusal.TheVariants as Refusals
use Rattle.timer_map.specs.declared.Due.{Due}
use Rattle.timer_map.specs.declared.Popped.{Popped}
use Rattle.timer_map.specs.declared.First.{First}
use Rattle.timer_map.proofs.Order.{soonest_below}
use Rattle.timer_map.proofs.Pack.{sound, getD_entries}

-- ---- due_time

pub too_late : (time delay n : ℕ) → latest < time + delay → 12 ≡ insert_refusal time delay n
unfolding insert_refusal
too_late time delay n h = sym (choose_yes _ _ _ (lt-ltb latest (time + delay) h))

pub too_many : (time delay n : ℕ) → time + delay ≤ latest → 64 ≤ n → 11 ≡ insert_refusal time delay n
unfolding insert_refusal
too_many time delay n h m = sym (choose_no _ _ _ (le-ltb latest (time + delay) h) ∙ choose_yes _ _ _ (le-leb 64 n m))

pub may : (time delay n : ℕ) → time + delay ≤ latest → n < 64 → 0 ≡ insert_refusal time delay n
unfolding insert_refusal
may time delay n h m = sym (choose_no _ _ _ (le-ltb latest (time + delay) h) ∙ choose_no _ _ _ (lt-leb 64 n m))

-- what no refusal says
pub record FitsIn (time delay n : ℕ) : Type 0 where
  pub due : time + delay ≤ latest
  pub room : n < 64

pub accepted : (time delay n : ℕ) → insert_refusal time delay n ≡ 0 → FitsIn time delay n
unfolding insert_refusal
accepted time delay n e =
    split (ltb latest (time + delay))
    (λ t. absurd (omega (arith, sym (choose_yes _ _ _ t) ∙ e)))
    (λ t. split (leb 64 n)
    (λ u. absurd (omega (arith, sym (choose_no _ _ _ t ∙ choose_yes _ _ _ u) ∙ e)))
    (λ u. record { due = ltb-false latest (time + delay) t; room = leb-false 64 n u }))

-- ---- queue_ok

pub wrong_length : (ws : List ℕ) → (length ws ≡ 513 → ⊥) → false ≡ queue_ok ws
unfolding queue_ok
wrong_length ws h = rw (ne_eqb (length ws) 513 h)

pub overfull : (ws : List ℕ) → length ws ≡ 513 → 64 < queue_count ws → false ≡ queue_ok ws
unfolding queue_ok
overfull ws l h = rw (eq-eqb (length ws) 513 l, lt-leb (queue_count ws) 64 h)

pub judged : (ws : List ℕ) (a b : Bool) → length ws ≡ 513 → queue_count ws ≤ 64 → a ≡ every queue_entry_ok (queue_entries_at ws 1 (queue_count ws)) → b ≡ every unused_word (drop (1 + 8 * queue_count ws) ws) → (a && b) ≡ queue_ok ws
unfolding queue_ok entries_of
judged ws a b l h p q = rw (eq-eqb (length ws) 513 l, le-leb (queue_count ws) 64 h, p, q)

-- ---- putting in, on lists

module _ (time delay : ℕ) (x : Timer) (es : List TimerMapEntry) where
  pub insert_malformed : timer_ok x ≡ false → insert_timer time delay x es ≡ record { code = 3; entries = es }
  unfolding insert_timer
  insert_malformed t = choose_no _ _ _ t

  pub insert_refused : timer_ok x ≡ true → (insert_refusal time delay (length es) ≡ 0 → ⊥) → insert_timer time delay x es ≡ record { code = insert_refusal time delay (length es); entries = es }
  unfolding insert_timer
  insert_refused t r = choose_yes _ _ _ t ∙ choose_no _ _ _ (ne_eqb (insert_refusal time delay (length es)) 0 r)

  pub insert_done : timer_ok x ≡ true → insert_refusal time delay (length es) ≡ 0 → insert_timer time delay x es ≡ record { code = 0; entries = es ++ (record { time = time + delay; item = x } ∷ []) }
  unfolding insert_timer
  insert_done t r = choose_yes _ _ _ t ∙ choose_yes _ _ _ (eq-eqb (insert_refusal time delay (length es)) 0 r)

-- ---- insert_ok

abbrev pub words_of : ℕ → List ℕ → PutWords
words_of c l = record { code = c; words = l }

-- no refusal has the number 0
pub some_number : (why : QueueRefusal) → queue_code why ≡ 0 → ⊥
some_number Refusals.Broken e = omega (arith, e)
some_number Refusals.NoTimer e = omega (arith, e)
some_number Refusals.Full e = omega (arith, e)
some_number Refusals.TooLate e = omega (arith, e)

module _ (ws : List ℕ) (time delay : ℕ) (x : Timer) (b : Bool) (v : SoundQueue ws) (p : b ≡ timer_ok x) where
  pub put_malformed : b ≡ false → record { code = 3; words = ws } ≡ packed_put (insert_timer time delay x (entries_of ws))
  unfolding packed_put
  put_malformed t = ap (words_of 3) v.is ∙ sym (ap packed_put (insert_malformed time delay x (entries_of ws) (sym p ∙ t)))

  pub put_refused : b ≡ true → (why : QueueRefusal) → queue_code why ≡ insert_refusal time delay (queue_count ws) → record { code = queue_code why; words = ws } ≡ packed_put (insert_timer time delay x (entries_of ws))
  unfolding packed_put
  put_refused t why q =
      let r : queue_code why ≡ insert_refusal time delay (length (entries_of ws)) = q ∙ ap (insert_refusal time delay) (sym v.count) in
      (λ i. words_of (r i) (v.is i)) ∙ sym (ap packed_put (insert_refused time delay x (entries_of ws) (sym p ∙ t) (λ z. some_number why (r ∙ z))))

  pub put_done : (due : ℕ) (after : List ℕ) → b ≡ true → 0 ≡ insert_refusal time delay (queue_count ws) → due ≡ time + delay → after ≡ pack_queue (entries_of ws ++ (record { time = due; item = x } ∷ [])) → record { code = 0; words = after } ≡ packed_put (insert_timer time delay x (entries_of ws))
  unfolding packed_put
  put_done due after t q d e =
      ap (words_of 0) (e ∙ ap (λ (n : ℕ). pack_queue (entries_of ws ++ (record { time = n; item = x } ∷ []))) d)
      ∙ sym (ap packed_put (insert_done time delay x (entries_of ws) (sym p ∙ t) (ap (insert_refusal time delay) v.count ∙ sym q)))

pub room_left : (time delay n : ℕ) → 0 ≡ insert_refusal time delay n → n < 64
room_left time delay n e = (accepted time delay n (sym e)).room

-- ---- the functions that C calls: the rules are asked first

module _ (ws : List ℕ) (b : Bool) (e : b ≡ queue_ok ws) where
  pub sound_asked : b ≡ true → SoundQueue ws
  sound_asked t = sound ws (sym e ∙ t)

  pub lent : b ≡ true → 0 < length ws
  lent t = omega (arith, (sound_asked t).long)

  pub insert_asked : (time delay : ℕ) (x : Timer) (k c : ℕ) (after : List ℕ) → b ≡ true → k ≡ c → record { code = c; words = after } ≡ packed_put (insert_timer time delay x (entries_of ws)) → record { code = k; words = after } ≡ inserted time delay x ws
  unfolding inserted
  insert_asked time delay x k c after t q p = ap (λ (n : ℕ). words_of n after) q ∙ p ∙ sym (choose_yes _ _ _ (sym e ∙ t))

  pub insert_broken : (time delay : ℕ) (x : Timer) → b ≡ false → record { code = 2; words = ws } ≡ inserted time delay x ws
  unfolding inserted
  insert_broken time delay x t = sym (choose_no _ _ _ (sym e ∙ t))

  pub pop_asked : (limit : ℕ) (r : PoppedWords) → b ≡ true → r ≡ popped_words limit (entries_of ws) → r ≡ taken_out limit ws
  unfolding taken_out
  pop_asked limit r t p = p ∙ sym (choose_yes _ _ _ (sym e ∙ t))

  pub pop_broken : (limit : ℕ) (a : Popped) → b ≡ false → a ≡ refused_pop 2 → record { answer = a; words = ws } ≡ taken_out limit ws
  unfolding taken_out
  pop_broken limit a t p = ap (λ (y : Popped). record { answer = y; words = ws }) p ∙ sym (choose_no _ _ _ (sym e ∙ t))

  pub first_asked : (r : First) → b ≡ true → r ≡ first_of (entries_of ws) → r ≡ first_in ws
  unfolding first_in
  first_asked r t p = p ∙ sym (choose_yes _ _ _ (sym e ∙ t))

  pub first_broken : (a : First) → b ≡ false → a ≡ refused_first 2 → a ≡ first_in ws
  unfolding first_in
  first_broken a t p = p ∙ sym (choose_no _ _ _ (sym e ∙ t))

  pub len_asked : b ≡ true → record { code = 0; count = queue_count ws } ≡ count_in ws
  unfolding count_in
  len_asked t = ap (λ (n : ℕ). record { code = 0; count = n }) (sym (sound_asked t).count) ∙ sym (choose_yes _ _ _ (sym e ∙ t))

  pub len_broken : b ≡ false → record { code = 2; count = 0 } ≡ count_in ws
  unfolding count_in
  len_broken t = sym (choose_no _ _ _ (sym e ∙ t))

pub new_broken : (ws : List ℕ) → (length ws ≡ 513 → ⊥) → record { code = 2; words = ws } ≡ renewed ws
unfolding renewed
new_broken ws h = sym (choose_no _ _ _ (ne_eqb (length ws) 513 h))

pub new_done : (ws after : List ℕ) → length ws ≡ 513 → after ≡ replicate (length ws) 0 → record { code = 0; words = after } ≡ renewed ws
unfolding renewed pack_queue queue_rows
new_done ws after l e = ap (words_of 0) (e ∙ ap (λ (k : ℕ). replicate k 0) l) ∙ sym (choose_yes _ _ _ (eq-eqb (length ws) 513 l))

-- ---- taking out

first_is : (ws : List ℕ) (i : ℕ) (e : TimerMapEntry) → SoundQueue ws → i ≡ soonest (queue_entries_at ws 1 (queue_count ws)) → i < queue_count ws → e ≡ queue_entry_at ws (1 + 8 * i) → e ≡ first_entry (entries_of ws)
unfolding first_entry entries_of
first_is ws i e v p h q = q ∙ sym (ap (λ (k : ℕ). get_or (queue_entries_at ws 1 (queue_count ws)) k no_queue_entry) (sym p) ∙ getD_entries ws 1 (queue_count ws) i no_queue_entry h)

pub null_not : (es : List TimerMapEntry) → 0 < length es → null es ≡ false
unfolding null
null_not [] h = absurd (omega arith)
null_not (e ∷ es) h = refl

null_is : (es : List TimerMapEntry) → length es ≡ 0 → null es ≡ true
unfolding null
null_is [] h = refl
null_is (e ∷ es) h = absurd (omega arith)

none_due : (limit : ℕ) (es : List TimerMapEntry) → length es ≡ 0 → is_due limit es ≡ false
unfolding is_due
none_due limit es h = rw (null_is es h)

not_yet : (limit : ℕ) (es : List TimerMapEntry) → 0 < length es → limit < (first_entry es).time → is_due limit es ≡ false
unfolding is_due
not_yet limit es h k = rw (null_not es h, lt-leb (first_entry es).time limit k)

pub now_due : (limit : ℕ) (es : List TimerMapEntry) → 0 < length es → (first_entry es).time ≤ limit → is_due limit es ≡ true
unfolding is_due
now_due limit es h k = rw (null_not es h, le-leb (first_entry es).time limit k)

pub due_some : (limit : ℕ) (es : List TimerMapEntry) → is_due limit es ≡ true → 0 < length es
unfolding is_due null
due_some limit [] e = absurd (let z : ◌≡◌ {A = ℕ} 0 1 = cc in omega arith)
due_some limit (x ∷ es) e = omega arith

pub popped_none : (limit : ℕ) (es : List TimerMapEntry) → is_due limit es ≡ false → popped_words limit es ≡ record { answer = refused_pop 0; words = pack_queue es }
unfolding popped_words popped popped_entries
popped_none limit es e = λ i. record { answer = choose_no (is_due limit es) (record { code = 0; found = true; entry = first_entry es }) (refused_pop 0) e i; words = pack_queue (choose_no (is_due limit es) (shift_remove (soonest es) es) es e i) }

pub popped_one : (limit : ℕ) (es : List TimerMapEntry) → is_due limit es ≡ true
    → popped_words limit es ≡ record { answer = record { code = 0; found = true; entry = first_entry es }; words = pack_queue (shift_remove (soonest es) es) }
unfolding popped_words popped popped_entries
popped_one limit es e = λ i. record { answer = choose_yes (is_due limit es) (record { code = 0; found = true; entry = first_entry es }) (refused_pop 0) e i; words = pack_queue (choose_yes (is_due limit es) (shift_remove (soonest es) es) es e i) }

abbrev with_answer : Popped → List ℕ → PoppedWords
with_answer a l = record { answer = a; words = l }

due_none : (limit : ℕ) (es : List TimerMapEntry) → is_due limit es ≡ false → None ≡ due_in limit es
unfolding due_in
due_none limit es e = sym (choose_no _ _ _ e)

due_one : (limit : ℕ) (es : List TimerMapEntry) → is_due limit es ≡ true → Some (record { place = soonest es; entry = first_entry es }) ≡ due_in limit es
unfolding due_in
due_one limit es e = sym (choose_yes _ _ _ e)

module _ (ws : List ℕ) (limit : ℕ) (v : SoundQueue ws) where
  pub due_empty : queue_count ws ≡ 0 → None ≡ due_in limit (entries_of ws)
  due_empty z = due_none limit (entries_of ws) (none_due limit (entries_of ws) (v.count ∙ z))

  module _ (i : ℕ) (e : TimerMapEntry) (p : (i ≡ soonest (queue_entries_at ws 1 (queue_count ws))) × (i < queue_count ws)) (q : e ≡ queue_entry_at ws (1 + 8 * i)) where
    pub due_later : limit < e.time → None ≡ due_in limit (entries_of ws)
    due_later h =
        let k : e ≡ first_entry (entries_of ws) = first_is ws i e v p.0 p.1 q in
        due_none limit (entries_of ws) (not_yet limit (entries_of ws) (omega (arith, v.count, p.1)) (subst (λ (y : TimerMapEntry). limit < y.time) k h))

    pub due_found : e.time ≤ limit → Some (record { place = i; entry = e }) ≡ due_in limit (entries_of ws)
    unfolding entries_of
    due_found h =
        let k : e ≡ first_entry (entries_of ws) = first_is ws i e v p.0 p.1 q in
        (λ j. Some (record { place = p.0 j; entry = k j }))
        ∙ due_one limit (entries_of ws) (now_due limit (entries_of ws) (omega (arith, v.count, p.1)) (subst (λ (y : TimerMapEntry). y.time ≤ limit) k h))

-- what an answer of `find_due` says
module _ (limit : ℕ) (es : List TimerMapEntry) (o : Option Due) (e : o ≡ due_in limit es) where
  pub due_no : o ≡ None → is_due limit es ≡ false
  due_no z = split (is_due limit es) (λ u. absurd (let k : Some (record { place = soonest es; entry = first_entry es }) ≡ None = due_one limit es u ∙ sym e ∙ z in cc)) (λ u. u)

  pub due_yes : (d : Due) → o ≡ Some d → is_due limit es ≡ true
  due_yes d z = split (is_due limit es) (λ u. u) (λ u. absurd (let k : None ≡ Some d = due_none limit es u ∙ sym e ∙ z in cc))

  pub due_is : (d : Due) → o ≡ Some d → d ≡ record { place = soonest es; entry = first_entry es }
  due_is d z = let k : Some d ≡ Some (record { place = soonest es; entry = first_entry es }) = sym z ∙ e ∙ sym (due_one limit es (due_yes d z)) in cc

  pub due_below : (d : Due) → o ≡ Some d → d.place < length es
  due_below d z = subst (λ (n : ℕ). n < length es) (sym (ap (λ (y : Due). y.place) (due_is d z))) (soonest_below es (due_some limit es (due_yes d z)))

module _ (ws : List ℕ) (limit : ℕ) (v : SoundQueue ws) (o : Option Due) (e : o ≡ due_in limit (entries_of ws)) where
  pub place_below : (d : Due) → o ≡ Some d → d.place < queue_count ws
  place_below d z = omega (arith, due_below limit (entries_of ws) o e d z, v.count)

  pub pop_taken : (d : Due) (after : List ℕ) → o ≡ Some d → after ≡ pack_queue (shift_remove d.place (entries_of ws)) → record { answer = record { code = 0; found = true; entry = d.entry }; words = after } ≡ popped_words limit (entries_of ws)
  pop_taken d after z r =
      let k : d ≡ record { place = soonest (entries_of ws); entry = first_entry (entries_of ws) } = due_is limit (entries_of ws) o e d z in
      ap (with_answer (record { code = 0; found = true; entry = d.entry })) r
      ∙ (λ j. with_answer (record { code = 0; found = true; entry = (k j).entry }) (pack_queue (shift_remove (k j).place (entries_of ws))))
      ∙ sym (popped_one limit (entries_of ws) (due_yes limit (entries_of ws) o e d z))

  pub pop_none : (a : Popped) → a ≡ refused_pop 0 → o ≡ None → record { answer = a; words = ws } ≡ popped_words limit (entries_of ws)
  pop_none a p z = (λ i. with_answer (p i) (v.is i)) ∙ sym (popped_none limit (entries_of ws) (due_no limit (entries_of ws) o e z))

module _ (ws : List ℕ) (v : SoundQueue ws) where
  pub first_none : (a : First) → queue_count ws ≡ 0 → a ≡ refused_first 0 → a ≡ first_of (entries_of ws)
  unfolding first_of
  first_none a z e = e ∙ sym (choose_yes _ _ _ (null_is (entries_of ws) (v.count ∙ z)))

  pub first_some : (i : ℕ) (e : TimerMapEntry) → (i ≡ soonest (queue_entries_at ws 1 (queue_count ws))) × (i < queue_count ws) → e ≡ queue_entry_at ws (1 + 8 * i) → record { code = 0; found = true; time = e.time } ≡ first_of (entries_of ws)
  unfolding first_of
  first_some i e p q =
      ap (λ (y : TimerMapEntry). record { code = 0; found = true; time = y.time }) (first_is ws i e v p.0 p.1 q)
      ∙ sym (choose_no _ _ _ (null_not (entries_of ws) (omega (arith, v.count, p.1))))
