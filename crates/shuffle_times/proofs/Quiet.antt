-- Every step but the scheduling of a shuffle leaves the shuffle's interval as it is and writes no shuffle timer: read off the pass over the steps in spec_chatter.
-- Assumes nothing.
use mathlib.Core.Path.{◌≡◌, refl, sym, ap, subst, ◌∙◌}
use mathlib.Core.Bool.{Bool, false}
use mathlib.Core.List.{List, [], ◌∷◌, ◌++◌, append_assoc, append-nil}
use Prim.Native.Nat.{ℕ, ◌+◌, ◌≤◌}
use native.Mathlib.Omega.{arith}
use lib.Dec.{eqb}
use borrow.Author.Tests.{ne_eqb}
use Rattle.base_lists.specs.Lists.{is}
use Rattle.base_lists.proofs.Choice.{choose_no}
use Rattle.base_timing.specs.declared.Config.{Config}
use Rattle.record.specs.Kinds.{Message, DoShuffle, DoMaintenance, kind_byte}
use Rattle.record.specs.Format.{Rec, encode}
use Rattle.spec_hyparview.specs.Station.{Station}
use Rattle.spec_hyparview.specs.Run.{Run, on, emit}
use Rattle.spec_hyparview.specs.Timers as T
use Rattle.spec_hyparview.specs.Handle as H
use Rattle.spec_hyparview.specs.Written.{encode_all}
use Rattle.spec_hyparview.proofs.Reading.{Readable}
use Rattle.spec_history.proofs.Ticks.{emit_out}
use Rattle.spec_chatter.proofs.Book.{Book, note_event}
use Rattle.spec_chatter.proofs.Moves as pass
use Rattle.spec_chatter.proofs.Moves.{encode_all_append, kinds, Moves, full, quietly}
use Rattle.spec_chatter.proofs.Steps as step
use Rattle.shuffle_times.proofs.Told.{timers_of, shuffles, shuffles_append}

-- the output grew by records whose shuffle timers have these delays
pub record Adds (delays x y : List ℕ) : Type 0 where
  pub records : List Rec
  pub is : y ≡ x ++ encode_all records
  pub timers : shuffles records ≡ delays

pub adds_more : {a b x y z : List ℕ} → Adds a x y → Adds b y z → Adds (a ++ b) x z
adds_more {x = x} k l = record {
  records = k.records ++ l.records;
  is = l.is ∙ (ap (λ (w : List ℕ). w ++ encode_all l.records) k.is ∙ (append_assoc x (encode_all k.records) (encode_all l.records) ∙ ap (λ (w : List ℕ). x ++ w) (sym (encode_all_append k.records l.records))));
  timers = shuffles_append k.records l.records ∙ cc (k.timers, l.timers);
}

pub adds_one : (e : Rec) (r : Run) → (emit e r).code ≡ 0 → Adds (shuffles (e ∷ [])) r.out (emit e r).out
unfolding encode_all
adds_one e r z = record { records = e ∷ []; is = emit_out e r z ∙ ap (λ (w : List ℕ). r.out ++ w) (sym (append-nil (encode e))); timers = refl }

-- whether timers are scheduled, the next interval, and the settings that bound it
abbrev pub clock : Station → Bool × (ℕ × Config)
clock s = (s.scheduled, (s.next_interval, s.config))

-- from run r to run w, where w is not refused
pub record Still (r w : Run) : Type 0 where
  pub fine : r.code ≡ 0
  pub lent : w.draws ≡ r.draws
  pub same_clock : clock w.station ≡ clock r.station
  pub adds : Adds [] r.out w.out

pub record Quiet (r w : Run) : Type 0 where
  pub so : w.code ≡ 0 → Still r w

pub then : {r w v : Run} → Quiet r w → Quiet w v → Quiet r v
then g h = record {
  so = λ z. let b = h.so z in let a = g.so b.fine in record {
    fine = a.fine;
    lent = b.lent ∙ a.lent;
    same_clock = b.same_clock ∙ a.same_clock;
    adds = adds_more a.adds b.adds;
  };
}

-- ---- from the pass over the steps

other_kind : (e : Rec) (n : ℕ) → is e.kind 1 + n ≡ 0 → e.kind ≡ 1 → ⊥
unfolding is
other_kind e n h z = omega (arith, subst (λ (k : ℕ). is k 1 + n ≡ 0) z h)

-- where no record is of kind 1, there is no shuffle timer
none_timed : (es : List Rec) → kinds 1 es ≡ 0 → shuffles es ≡ []
unfolding kinds timers_of
none_timed [] h = refl
none_timed (e ∷ es) h =
    choose_no (eqb e.kind 1) _ _ (ne_eqb e.kind 1 (other_kind e (kinds 1 es) h)) ∙ none_timed es (omega (arith, h))

moves_none : {f : Book → Book} {b : ℕ} {r w : Run} → Moves f 0 b r w → Quiet r w
moves_none m = record {
  so = λ z. let k = m.so z in record {
    fine = k.fine;
    lent = k.lent;
    same_clock = λ i. (k.mark i, k.same_pace refl i);
    adds = record { records = k.records; is = k.adds.is; timers = none_timed k.records k.shuffles };
  };
}

pub changes : (f : Station → Station) → ((s : Station) → full (f s) ≡ full s) → (r : Run) → Quiet r (on f r)
changes f h r = moves_none (quietly (pass.changes f h r))

pub shuffle_any : (r : Run) → Quiet r (T.shuffle_any r)
shuffle_any r = moves_none (quietly (step.shuffle_any r))

pub schedule_maintenance : (r : Run) → Quiet r (T.schedule_maintenance r)
schedule_maintenance r = moves_none (step.schedule_maintenance r)

no_shuffle : (k : ℕ) → eqb k (kind_byte DoShuffle) ≡ false → is k (kind_byte DoShuffle) ≡ 0
unfolding is
no_shuffle k n = rw n

-- every event but a shuffle timer
pub dispatch : (e : Rec) → Readable e → (e.kind ≡ kind_byte Message → e.message ≤ 5) → eqb e.kind (kind_byte DoShuffle) ≡ false → (r : Run) → Quiet r (H.dispatch e r)
dispatch e w few n r =
    moves_none (subst (λ (a : ℕ). Moves (note_event e.kind e.message e.peer e.number) a (is e.kind (kind_byte DoMaintenance)) r (H.dispatch e r)) (no_shuffle e.kind n) (step.dispatch e w.narrow few r w.known))
