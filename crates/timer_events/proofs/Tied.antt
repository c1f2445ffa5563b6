-- The contract of `timer_map_new` says the equation with `renewed`, at which the claim over every list of calls begins, and from what the contracts of the six calls say follow the equations with `queue_answered`, of which it speaks; the seven ask nothing of the caller: one that said less, or asked more, would not be admitted here.
-- Assumes nothing.
use Prim.Native.Nat.{ℕ}
use mathlib.Core.Path.{◌≡◌, refl, ap}
use mathlib.Core.List.{List}
use seplogic.Ra.Ura.{Ura}
use base.Logic.{SProp, ent}
use prog.Memory.{Memory}
use prog.Routine.{Routine}
use types.Logic.{Logic}
use contract.Lifetimes.{Lfts}
use contract.Monad.{Fun, fact, fact_mono}
use contract.Notation.{connectives}
use Rattle.base_lists.specs.Lent.{Slice, MutSlice}
use Rattle.timer_map.specs.declared.Timer.{Timer}
use Rattle.timer_map.specs.declared.Popped.{Popped}
use Rattle.timer_map.specs.declared.First.{First}
use Rattle.timer_map.specs.declared.Len.{Len}
use Rattle.timer_map.specs.Calls.{PutWords, PoppedWords, renewed}
use Rattle.timer_map.specs.contracts.timer_map_new as new
use Rattle.timer_map.specs.contracts.timer_map_insert as insert_timer
use Rattle.timer_map.specs.contracts.timer_map_pop_before as pop-timer
use Rattle.timer_map.specs.contracts.timer_map_first as first-timer
use Rattle.timer_map.specs.contracts.timer_map_len as len
use Rattle.timer_events.specs.declared.PoppedEvent.{PoppedEvent}
use Rattle.timer_events.specs.Events.{Taken}
use Rattle.timer_events.specs.History.{insert, insert_records, pop_before, pop_event, first, count, Reply, code, popped, event, next, held, QueueCall, queue_answered}
use Rattle.timer_events.specs.contracts.timer_map_insert_records as put-records
use Rattle.timer_events.specs.contracts.timer_map_pop_event as take-event

module _ {M : Type 1} {𝓤 : Ura M} (𝓛 : Logic 𝓤) (at_mem : Memory → SProp 𝓤) (run : Routine → Fun 𝓤) where
  -- by what is said, the call at these words has this reply and leaves those
  abbrev Answers : SProp 𝓤 → QueueCall → List ℕ → Reply → List ℕ → Type 1
  Answers said v ws r ws' = ent 𝓤 said (fact 𝓤 (record { reply = r; words = ws' } ≡ queue_answered v ws))

  module _ (κs : Lfts 1) (q : MutSlice) where
    pub new_asks : (new.clauses 𝓛 at_mem run κs (q, tt)).requires tt ≡ (connectives 𝓤).⊤ₛ
    new_asks = refl

    pub new_says : (q' : MutSlice) (r : ℕ) → (new.clauses 𝓛 at_mem run κs (q, tt)).ensures tt r (q', tt) ≡ fact 𝓤 (record { code = r; words = q'.now } ≡ renewed q.now)
    new_says q' r = refl

    module _ (time delay : ℕ) (x : Timer) where
      pub insert_asks : (insert_timer.clauses 𝓛 at_mem run κs (q, (time, (delay, (x, tt))))).requires tt ≡ (connectives 𝓤).⊤ₛ
      insert_asks = refl

      pub insert_says : (q' : MutSlice) (r : ℕ)
          → Answers ((insert_timer.clauses 𝓛 at_mem run κs (q, (time, (delay, (x, tt))))).ensures tt r (q', (time, (delay, (x, tt))))) (insert time delay x) q.now (code r) q'.now
      unfolding queue_answered
      insert_says q' r = fact_mono 𝓤 _ _ (ap (λ (p : PutWords). record { reply = code p.code; words = p.words }))

    module _ (limit : ℕ) where
      pub pop_asks : (pop-timer.clauses 𝓛 at_mem run κs (q, (limit, tt))).requires tt ≡ (connectives 𝓤).⊤ₛ
      pop_asks = refl

      pub pop_says : (q' : MutSlice) (r : Popped)
          → Answers ((pop-timer.clauses 𝓛 at_mem run κs (q, (limit, tt))).ensures tt r (q', (limit, tt))) (pop_before limit) q.now (popped r) q'.now
      unfolding queue_answered
      pop_says q' r = fact_mono 𝓤 _ _ (ap (λ (p : PoppedWords). record { reply = popped p.answer; words = p.words }))

  module _ (κs : Lfts 1) (q : Slice) where
    pub first_asks : (first-timer.clauses 𝓛 at_mem run κs (q, tt)).requires tt ≡ (connectives 𝓤).⊤ₛ
    first_asks = refl

    pub first_says : (q' : Slice) (r : First) → Answers ((first-timer.clauses 𝓛 at_mem run κs (q, tt)).ensures tt r (q', tt)) first q.now (next r) q.now
    unfolding queue_answered
    first_says q' r = fact_mono 𝓤 _ _ (ap (λ (x : First). record { reply = next x; words = q.now }))

    pub len_asks : (len.clauses 𝓛 at_mem run κs (q, tt)).requires tt ≡ (connectives 𝓤).⊤ₛ
    len_asks = refl

    pub len_says : (q' : Slice) (r : Len) → Answers ((len.clauses 𝓛 at_mem run κs (q, tt)).ensures tt r (q', tt)) count q.now (held r) q.now
    unfolding queue_answered
    len_says q' r = fact_mono 𝓤 _ _ (ap (λ (x : Len). record { reply = held x; words = q.now }))

  module _ (κs : Lfts 2) (q : MutSlice) where
    module _ (time : ℕ) (out : Slice) where
      pub records_asks : (put-records.clauses 𝓛 at_mem run κs (q, (time, (out, tt)))).requires tt ≡ (connectives 𝓤).⊤ₛ
      records_asks = refl

      pub records_says : (q' : MutSlice) (out' : Slice) (r : ℕ)
          → Answers ((put-records.clauses 𝓛 at_mem run κs (q, (time, (out, tt)))).ensures tt r (q', (time, (out', tt)))) (insert_records time out.now) q.now (code r) q'.now
      unfolding queue_answered
      records_says q' out' r = fact_mono 𝓤 _ _ (ap (λ (p : PutWords). record { reply = code p.code; words = p.words }))

    module _ (limit : ℕ) (out : MutSlice) where
      pub event_asks : (take-event.clauses 𝓛 at_mem run κs (q, (limit, (out, tt)))).requires tt ≡ (connectives 𝓤).⊤ₛ
      event_asks = refl

      pub event_says : (q' out' : MutSlice) (r : PoppedEvent)
          → Answers ((take-event.clauses 𝓛 at_mem run κs (q, (limit, (out, tt)))).ensures tt r (q', (limit, (out', tt)))) (pop_event limit out.now) q.now (event r out'.now) q'.now
      unfolding queue_answered
      event_says q' out' r = fact_mono 𝓤 _ _ (ap (λ (p : Taken). record { reply = event p.answer p.output; words = p.words }))
