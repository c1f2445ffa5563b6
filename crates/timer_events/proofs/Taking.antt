-- One law for each way through the taking out of an event.
-- Assumes nothing.
use Prim.Native.Nat.{ℕ}
use mathlib.Core.Path.{◌≡◌, sym, ap, ◌∙◌}
use mathlib.Core.Bool.{Bool, true, false, not}
use mathlib.Core.List.{List, []}
use lib.ListN.{length, replicate}
use Rattle.base_lists.specs.Lists.{shift_remove}
use Rattle.base_lists.proofs.Choice.{split, choose_yes, choose_no}
use Rattle.record.specs.Format.{Rec}
use Rattle.record_writer.specs.Write.{rec_in, fits, written, reached, Wrote}
use Rattle.record_writer.specs.declared.Fields.{Fields}
use Rattle.timer_map.specs.Entries.{timer_ok, soonest, first_entry, is_due}
use Rattle.timer_map.specs.Words.{entries_of, queue_ok, pack_queue, SoundQueue}
use Rattle.std.specs.Prelude.{Option, Some, None}
use Rattle.std.specs.Option.{is_some}
use Rattle.std.proofs.lemmas.Bool.{false≢true}
use Rattle.timer_map.specs.Calls.{due_in}
use Rattle.timer_map.specs.declared.TimerMapEntry.{TimerMapEntry}
use Rattle.timer_map.specs.declared.Due.{Due}
use Rattle.timer_map.proofs.Ways.{due_yes, due_no, due_is}
use Rattle.timer_map.proofs.Kept.{due_ok}
use Rattle.timer_events.specs.declared.PoppedEvent.{PoppedEvent}
use Rattle.timer_events.specs.Events.{event_rec, Taken, without_event, untaken, event_popped, event_taken}

-- what a writer's answer says, where b is whether it is none
module _ (r : Rec) (out : List ℕ) (w : Option ℕ) (b : Bool) (e : w ≡ reached r 0 out) (s : is_some w ≡ not b) where
  wrote_fits : b ≡ false → fits r 0 (length out) ≡ true
  unfolding reached
  wrote_fits z = split (fits r 0 (length out)) (λ t. t) (λ t. absurd (false≢true (sym (ap is_some (e ∙ choose_no _ _ _ t)) ∙ s ∙ ap not z)))

  wrote_full : b ≡ true → fits r 0 (length out) ≡ false
  unfolding reached
  wrote_full z = split (fits r 0 (length out)) (λ t. absurd (false≢true (sym (sym (ap is_some (e ∙ choose_yes _ _ _ t)) ∙ s ∙ ap not z)))) (λ t. t)

unwritten : (r : Rec) (out : List ℕ) → fits r 0 (length out) ≡ false → written r 0 out ≡ out
unfolding written
unwritten r out t = choose_no _ _ _ t

-- without an event: the answer, and every byte
abbrev Nothing : ℕ → List ℕ → PoppedEvent → List ℕ → Type 0
Nothing code out a o = (a ≡ without_event code) × (o ≡ replicate (length out) 0)

nothing_is : (code : ℕ) (ws out : List ℕ) (v : SoundQueue ws) (a : PoppedEvent) (o : List ℕ) → Nothing code out a o → record { answer = a; words = ws; output = o } ≡ untaken code (pack_queue (entries_of ws)) out
nothing_is code ws out v a o p = λ i. record { answer = p.0 i; words = v.is i; output = p.1 i }

-- the ways of the definition
module _ (limit : ℕ) (es : List TimerMapEntry) (out : List ℕ) where
  pub none_event : is_due limit es ≡ false → event_popped limit es out ≡ untaken 0 (pack_queue es) out
  unfolding event_popped
  none_event d = choose_no _ _ _ d

  pub no_room : is_due limit es ≡ true → fits (event_rec (first_entry es)) 0 (length out) ≡ false → event_popped limit es out ≡ untaken 9 (pack_queue es) out
  unfolding event_popped
  no_room d f = choose_yes _ _ _ d ∙ choose_no _ _ _ f

  pub an_event : is_due limit es ≡ true → fits (event_rec (first_entry es)) 0 (length out) ≡ true
      → event_popped limit es out ≡ record { answer = record { code = 0; found = true; time = (first_entry es).time }; words = pack_queue (shift_remove (soonest es) es); output = written (event_rec (first_entry es)) 0 out }
  unfolding event_popped
  an_event d f = choose_yes _ _ _ d ∙ choose_yes _ _ _ f

module _ (ws : List ℕ) (limit : ℕ) (out : List ℕ) (v : SoundQueue ws) (x : Option Due) (e : x ≡ due_in limit (entries_of ws)) where
  pub took_none : (a : PoppedEvent) (o : List ℕ) → (a ≡ without_event 0) × (o ≡ replicate (length out) 0) → x ≡ None → record { answer = a; words = ws; output = o } ≡ event_popped limit (entries_of ws) out
  took_none a o p t = nothing_is 0 ws out v a o p ∙ sym (none_event limit (entries_of ws) out (due_no limit (entries_of ws) x e t))

  module _ (d : Due) (t : x ≡ Some d) where
    due : is_due limit (entries_of ws) ≡ true
    due = due_yes limit (entries_of ws) x e d t

    entry_is : d.entry ≡ first_entry (entries_of ws)
    entry_is = ap (λ (y : Due). y.entry) (due_is limit (entries_of ws) x e d t)

    place_is : d.place ≡ soonest (entries_of ws)
    place_is = ap (λ (y : Due). y.place) (due_is limit (entries_of ws) x e d t)

    pub entry_ok : timer_ok d.entry.item ≡ true
    entry_ok = ap (λ (y : TimerMapEntry). timer_ok y.item) entry_is ∙ due_ok limit (entries_of ws) v.timers due

    module _ (f : Fields) (w : Option ℕ) (o : List ℕ) (b : Bool) (r : rec_in f [] ≡ event_rec d.entry) (k : Wrote (rec_in f []) 0 out w o) (n : is_some w ≡ not b) where
      rec_is : rec_in f [] ≡ event_rec (first_entry (entries_of ws))
      rec_is = r ∙ ap event_rec entry_is

      pub took_full : (a : PoppedEvent) (z : List ℕ) → (a ≡ without_event 9) × (z ≡ replicate (length o) 0) → b ≡ true → record { answer = a; words = ws; output = z } ≡ event_popped limit (entries_of ws) out
      took_full a z s p =
          let y : fits (rec_in f []) 0 (length out) ≡ false = wrote_full (rec_in f []) out w b k.answer n p in
          nothing_is 9 ws out v a z (s.0, s.1 ∙ ap (λ (l : List ℕ). replicate (length l) 0) (k.bytes ∙ unwritten (rec_in f []) out y))
          ∙ sym (no_room limit (entries_of ws) out due (ap (λ (x : Rec). fits x 0 (length out)) (sym rec_is) ∙ y))

      pub took_event : (q : List ℕ) → b ≡ false → q ≡ pack_queue (shift_remove d.place (entries_of ws)) → record { answer = record { code = 0; found = true; time = d.entry.time }; words = q; output = o } ≡ event_popped limit (entries_of ws) out
      took_event q p s =
          let y : fits (rec_in f []) 0 (length out) ≡ true = wrote_fits (rec_in f []) out w b k.answer n p in
          (λ i. record {
            answer = record { code = 0; found = true; time = (entry_is i).time };
            words = (s ∙ ap (λ (j : ℕ). pack_queue (shift_remove j (entries_of ws))) place_is) i;
            output = (k.bytes ∙ ap (λ (x : Rec). written x 0 out) rec_is) i;
          })
          ∙ sym (an_event limit (entries_of ws) out due (ap (λ (x : Rec). fits x 0 (length out)) (sym rec_is) ∙ y))

module _ (ws : List ℕ) (limit : ℕ) (out : List ℕ) (b : Bool) (e : b ≡ queue_ok ws) where
  pub event_asked : (r : Taken) → b ≡ true → r ≡ event_popped limit (entries_of ws) out → r ≡ event_taken limit ws out
  unfolding event_taken
  event_asked r t p = p ∙ sym (choose_yes _ _ _ (sym e ∙ t))

  pub event_broken : (a : PoppedEvent) (o : List ℕ) → (a ≡ without_event 2) × (o ≡ replicate (length out) 0) → b ≡ false → record { answer = a; words = ws; output = o } ≡ event_taken limit ws out
  unfolding event_taken
  event_broken a o p t = (λ i. record { answer = p.0 i; words = ws; output = p.1 i }) ∙ sym (choose_no _ _ _ (sym e ∙ t))
