-- What is put in and taken out leaves a queue that keeps its rules.
-- Assumes nothing.
use Prim.Native.Nat.{ℕ, zero, suc, ◌+◌, ◌≤◌, ◌<◌}
use mathlib.Core.Path.{◌≡◌, refl, sym, ap, ◌∙◌, subst}
use mathlib.Core.Bool.{Bool, true, ◌&&◌, and_assoc}
use mathlib.Core.List.{List, [], ◌∷◌, ◌++◌}
use native.Mathlib.Omega.{arith}
use lib.ListN.{length, length-append}
use lib.Dec.{eqb}
use borrow.Author.Tests.{eqb-true, eqb-false}
use Rattle.base_lists.specs.Lists.{shift_remove}
use Rattle.base_lists.specs.Tests.{every}
use Rattle.base_lists.proofs.Array.{length_shift_remove}
use Rattle.base_lists.proofs.Choice.{by_choice, split, and_left, and_right}
use Rattle.base_lists.proofs.Tests.{both_true, every_true}
use Rattle.base_lists.proofs.Entries.{all_get_d}
use Rattle.timer_map.specs.Entries.{Put, timer_ok, queue_entry_ok, insert_refusal, insert_timer, soonest, first_entry, is_due, no_queue_entry}
use Rattle.timer_map.specs.Words.{entries_of, queue_ok, pack_queue, SoundQueue}
use Rattle.timer_map.specs.declared.Timer.{Timer}
use Rattle.timer_map.specs.declared.TimerMapEntry.{TimerMapEntry}
use Rattle.timer_map.proofs.Pack.{sound, ok_pack}
use Rattle.timer_map.proofs.Order.{soonest_below}
use Rattle.timer_map.proofs.Ways.{accepted, insert_malformed, insert_refused, insert_done, due_some}

-- the entries of a queue that keeps its rules
pub record Good (es : List TimerMapEntry) : Type 0 where
  pub few : length es ≤ 64
  pub timers : every queue_entry_ok es ≡ true

pub good_none : Good []
unfolding every
good_none = record { few = omega arith; timers = refl }

pub good_ok : (es : List TimerMapEntry) → Good es → queue_ok (pack_queue es) ≡ true
good_ok es g = ok_pack es g.few g.timers

pub good_sound : (es : List TimerMapEntry) → Good es → SoundQueue (pack_queue es)
good_sound es g = sound (pack_queue es) (good_ok es g)

pub sound_good : (ws : List ℕ) → SoundQueue ws → Good (entries_of ws)
sound_good ws v = record { few = omega (arith, v.count, v.few); timers = v.timers }

every_append : (xs ys : List TimerMapEntry) → every queue_entry_ok (xs ++ ys) ≡ (every queue_entry_ok xs && every queue_entry_ok ys)
unfolding every
every_append [] ys = refl
every_append (x ∷ xs) ys = ap (λ (b : Bool). queue_entry_ok x && b) (every_append xs ys) ∙ sym (and_assoc (queue_entry_ok x) (every queue_entry_ok xs) (every queue_entry_ok ys))

every_remove : (i : ℕ) (es : List TimerMapEntry) → every queue_entry_ok es ≡ true → every queue_entry_ok (shift_remove i es) ≡ true
unfolding every shift_remove
every_remove i [] h = refl
every_remove zero (e ∷ es) h = and_right (queue_entry_ok e) _ h
every_remove (suc i) (e ∷ es) h = both_true (queue_entry_ok e) _ (and_left (queue_entry_ok e) _ h) (every_remove i es (and_right (queue_entry_ok e) _ h))

one_ok : (e : TimerMapEntry) → timer_ok e.item ≡ true → every queue_entry_ok (e ∷ []) ≡ true
unfolding every queue_entry_ok
one_ok e t = both_true (timer_ok e.item) true t refl

-- the ways of `insert_timer`
pub data Inserts (time delay : ℕ) (x : Timer) (es : List TimerMapEntry) : Type 0 where
  refused : (c : ℕ) → (c ≡ 0 → ⊥) → (c ≡ 2 → ⊥) → insert_timer time delay x es ≡ record { code = c; entries = es } → Inserts time delay x es
  done : timer_ok x ≡ true → length es < 64 → insert_timer time delay x es ≡ record { code = 0; entries = es ++ (record { time = time + delay; item = x } ∷ []) } → Inserts time delay x es

-- a timer is put in, or is refused by 12 or 11
module _ (P : ℕ → Type 0) (late : P 12) (full : P 11) (done-so : P 0) where
  refusals : (time delay n : ℕ) → P (insert_refusal time delay n)
  unfolding insert_refusal
  refusals time delay n = by_choice P _ (λ _. late) (λ _. by_choice P _ (λ _. full) (λ _. done-so))

  pub timer_codes : (time delay : ℕ) (x : Timer) (es : List TimerMapEntry) → timer_ok x ≡ true → P (insert_timer time delay x es).code
  timer_codes time delay x es t =
      split (eqb (insert_refusal time delay (length es)) 0)
      (λ u. subst (λ (p : Put). P p.code) (sym (insert_done time delay x es t (eqb-true (insert_refusal time delay (length es)) 0 u))) done-so)
      (λ u. subst (λ (p : Put). P p.code) (sym (insert_refused time delay x es t (eqb-false (insert_refusal time delay (length es)) 0 u))) (refusals time delay (length es)))

not_two : (time delay n : ℕ) → insert_refusal time delay n ≡ 2 → ⊥
not_two time delay n = refusals (λ (c : ℕ). c ≡ 2 → ⊥) (λ e. omega (arith, e)) (λ e. omega (arith, e)) (λ e. omega (arith, e)) time delay n

pub inserts : (time delay : ℕ) (x : Timer) (es : List TimerMapEntry) → Inserts time delay x es
inserts time delay x es =
    split (timer_ok x)
    (λ t. split (eqb (insert_refusal time delay (length es)) 0)
    (λ u. let r : insert_refusal time delay (length es) ≡ 0 = eqb-true (insert_refusal time delay (length es)) 0 u in done t (accepted time delay (length es) r).room (insert_done time delay x es t r))
    (λ u. let n : insert_refusal time delay (length es) ≡ 0 → ⊥ = eqb-false (insert_refusal time delay (length es)) 0 u in
    refused (insert_refusal time delay (length es)) n (not_two time delay (length es)) (insert_refused time delay x es t n)))
    (λ t. refused 3 (λ e. omega (arith, e)) (λ e. omega (arith, e)) (insert_malformed time delay x es t))

pub good_insert : (time delay : ℕ) (x : Timer) (es : List TimerMapEntry) → Good es → Good (insert_timer time delay x es).entries
good_insert time delay x es g = go (inserts time delay x es)
  where
    go : Inserts time delay x es → Good (insert_timer time delay x es).entries
    go (refused c n m e) = subst (λ (p : Put). Good p.entries) (sym e) g
    go (done t l e) =
        let y : TimerMapEntry = record { time = time + delay; item = x } in
        subst (λ (p : Put). Good p.entries) (sym e)
        (record {
          few = omega (arith, length-append es (y ∷ []));
          timers = every_append es (y ∷ []) ∙ both_true (every queue_entry_ok es) _ g.timers (one_ok y t);
        })

-- what is due is a timer
pub due_ok : (limit : ℕ) (es : List TimerMapEntry) → every queue_entry_ok es ≡ true → is_due limit es ≡ true → timer_ok (first_entry es).item ≡ true
unfolding first_entry queue_entry_ok
due_ok limit es g d =
    all_get_d (λ (e : TimerMapEntry). timer_ok e.item ≡ true) es (soonest es) no_queue_entry (every_true queue_entry_ok (λ (e : TimerMapEntry). timer_ok e.item ≡ true) (λ e t. t) es g) (soonest_below es (due_some limit es d))

pub good_remove : (i : ℕ) (es : List TimerMapEntry) → i < length es → Good es → Good (shift_remove i es)
good_remove i es h g = record { few = omega (arith, length_shift_remove i es h, g.few); timers = every_remove i es g.timers }
