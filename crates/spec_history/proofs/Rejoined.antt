-- The rejoin promise holds.
-- Assumes nothing.
use mathlib.Core.Path.{◌≡◌, refl, sym, ap, subst, ◌∙◌}
use mathlib.Core.Bool.{true, false, ◌&&◌}
use mathlib.Core.List.{List, [], ◌∷◌, ◌++◌, append_assoc}
use Prim.Native.Nat.{ℕ, zero, suc, ◌+◌, ◌-◌, ◌%◌, ◌≤◌, ◌<◌}
use native.Mathlib.Omega.{arith}
use lib.ListN.{length, get_or, replicate}
use lib.Dec.{ltb, eqb}
use borrow.Author.Tests.{eqb-true, eqb-false, eq-eqb, le-ltb}
use Rattle.base_lists.proofs.Choice.{by_choice, choose_yes, choose_no, and_left, and_right, and_false, clash}
use Rattle.base_timing.specs.Timing.{backoff_due, in_range}
use Rattle.base_timing.specs.declared.Config.{Config}
use Rattle.record.specs.Read.{Reading, read_event, rec_of, rec_of_by, header_of_by}
use Rattle.record.specs.Walk.{kind_in}
use Rattle.spec_hyparview.specs.Station.{Station}
use Rattle.spec_hyparview.specs.Timers.{knows_none}
use Rattle.spec_hyparview.specs.Rules.{station_ok, short_data}
use Rattle.spec_hyparview.specs.Handle.{Result, Made, new, new_station, start, steps, refusal, accepted, finish, handle_reading, handle}
use Rattle.spec_hyparview.proofs.Reading.{Readable, by_reading}
use Rattle.spec_hyparview.proofs.Whole.{ok_steps}
use Rattle.spec_hyparview.proofs.Tested.{rules_of}
use Rattle.spec_hyparview.specs.Sides.{draws_from}
use Rattle.spec_hyparview.proofs.Sides.{by_side}
use Rattle.spec_history.specs.Ledger.{Ledger, number_of}
use Rattle.spec_history.specs.Calls.{Call, result_of, answered, definition}
use Rattle.spec_history.specs.Rejoin.{Tick, is_tick, ticks, all_alone, joins_to, Rejoins, Some, here, later, RejoinPromise}
use Rattle.spec_history.proofs.Kept.{Kept, pays, fine_answer, kept_new, accepted_new}
use Rattle.spec_history.proofs.Ticks.{Begins, tick_counts, tick_rejoins}

-- of twelve passes in a row one is due: the one whose number 12 divides
due_at : (n : ℕ) → backoff_due (n + 1 + (11 - n % 12)) ≡ true
unfolding backoff_due
due_at n =
    let k = n + 1 + (11 - n % 12) in
    choose_no (ltb k 12) _ _ (le-ltb k 12 (omega arith)) ∙ eq-eqb (k % 12) 0 (omega arith)

-- what a call does to the passes: a tick at a station with both views empty counts one, and rejoins where it is due; nothing but a tick counts
record Passed (b : List ℕ) (s : Station) (a : Result) : Type 0 where
  counts : (eqb (kind_in b) 2 && eqb a.code 0) ≡ true → knows_none s ≡ true → a.state.passes_alone ≡ s.passes_alone + 1
  rejoins : (eqb (kind_in b) 2 && eqb a.code 0) ≡ true → knows_none s ≡ true → backoff_due (s.passes_alone + 1) ≡ true → Rejoins (record { met = s; output = a.output })
  quiet : (eqb (kind_in b) 2 && eqb a.code 0) ≡ false → a.state.passes_alone ≡ s.passes_alone

passed_refusal : (b : List ℕ) (s : Station) (n room : ℕ) → (n ≡ 0 → ⊥) → Passed b s (refusal n s room)
unfolding refusal
passed_refusal b s n room ne = record {
  counts = λ z. absurd (ne (eqb-true n 0 (and_right (eqb (kind_in b) 2) _ z)));
  rejoins = λ z. absurd (ne (eqb-true n 0 (and_right (eqb (kind_in b) 2) _ z)));
  quiet = λ z. refl;
}

begun : (t : Tick) (out zeros : List ℕ) → t.output ≡ out ++ zeros → Begins (joins_to t.met.own_data t.met.bootstrap) out → Rejoins t
begun t out zeros e b = record {
  rest = b.rest ++ zeros;
  begins = e ∙ (ap (λ (l : List ℕ). l ++ zeros) b.is ∙ append_assoc (joins_to t.met.own_data t.met.bootstrap) b.rest zeros);
}

module _ {c : Config} {me : ℕ} {l : Ledger} {s : Station} (h : Kept c me l s) (b ds : List ℕ) (room : ℕ) where
  passed_event : Readable (rec_of b) → Passed b s (finish s (steps (rec_of b) (start s ds room)))
  unfolding finish accepted kind_in rec_of_by header_of_by
  passed_event w =
      let a = c.active_view_capacity in
      let e = rec_of b in
      let r = steps e (start s ds room) in
      let k = ok_steps (number_of a b) ds room e w (pays a b) h in
      by_choice (Passed b s) (eqb r.code 0)
      (λ z. let fine = eqb-true r.code 0 z in record {
        counts = λ t alone. tick_counts s ds room e (eqb-true (get_or b 0 0) 2 (and_left (eqb (get_or b 0 0) 2) _ t)) alone fine;
        rejoins = λ t alone due. begun _ r.out (replicate (r.room - length r.out) 0) refl (tick_rejoins s ds room e (eqb-true (get_or b 0 0) 2 (and_left (eqb (get_or b 0 0) 2) _ t)) alone due fine);
        quiet = λ t. and_false (eqb (get_or b 0 0) 2) _ t (λ f. (k.good fine).core.still.alone_stays (rw f)) (λ f. clash _ refl f);
      })
      (λ z. passed_refusal b s r.code r.room (eqb-false r.code 0 z))

passed : {c : Config} {me : ℕ} {l : Ledger} {s : Station} → in_range c ≡ true → Kept c me l s → (v : Call) → Passed v.event s (result_of v s)
unfolding answered handle handle_reading
passed {s = s} ranges h v =
    let room = length v.output in
    let ds = draws_from v.side v.draws in
    by_side (Passed v.event s) v.side s v.event v.draws room (passed_refusal v.event s 16 room (λ e. omega arith))
    (rw (choose_yes (station_ok s) (handle_reading (read_event v.event) s ds room) (refusal 2 s room) (rules_of s ranges h))
    (by_reading v.event v.are_bytes (λ (x : Reading). Passed v.event s (handle_reading x s ds room))
    (λ n i j. passed_refusal v.event s n room (λ e. omega arith)) (λ w. passed_event h v.event ds room w)))

-- the next tick meets a station that has counted n passes
unfoldable Next : ℕ → List Tick → Type 0
Next n [] = Unit {0}
Next n (t ∷ ts) = t.met.passes_alone ≡ n

-- ticks as a history has them
unfoldable Chained : List Tick → Type 0
Chained [] = Unit {0}
Chained (t ∷ ts) =
    (knows_none t.met ≡ true → Next (t.met.passes_alone + 1) ts)
    × ((knows_none t.met ≡ true → backoff_due (t.met.passes_alone + 1) ≡ true → Rejoins t) × Chained ts)

module _ {c : Config} {me : ℕ} (ranges : in_range c ≡ true) where
  chained : (vs : List Call) {l : Ledger} {s : Station} → Kept c me l s → Next s.passes_alone (ticks definition (λ x. x) vs s) × Chained (ticks definition (λ x. x) vs s)
  unfolding ticks is_tick Next Chained
  chained [] h = (tt, tt)
  chained (v ∷ vs) {s = s} h =
      let p = passed ranges h v in
      let i = chained vs (fine_answer ranges v h).kept in
      by_choice (λ ts. Next s.passes_alone ts × Chained ts) (eqb (kind_in v.event) 2 && eqb (result_of v s).code 0)
      (λ t. (refl, ((λ alone. subst (λ (n : ℕ). Next n (ticks definition (λ x. x) vs (result_of v s).state)) (p.counts t alone) i.0), ((λ alone due. p.rejoins t alone due), i.1))))
      (λ t. (subst (λ (n : ℕ). Next n (ticks definition (λ x. x) vs (result_of v s).state)) (p.quiet t) i.0, i.1))

drop_before : (before ts : List Tick) → Chained (before ++ ts) → Chained ts
unfolding Chained
drop_before [] ts h = h
drop_before (t ∷ before) ts h = drop_before before ts h.1.1

-- the j-th of the ticks is due
find : (j n : ℕ) (ts after : List Tick) → j < length ts → all_alone ts ≡ true → Next n (ts ++ after) → Chained (ts ++ after) → backoff_due (n + 1 + j) ≡ true → Some Rejoins ts
unfolding all_alone Next Chained
find j n [] after l a x h due = absurd (omega arith)
find zero n (t ∷ ts) after l a x h due =
    here (h.1.0 (and_left (knows_none t.met) _ a) (subst (λ (k : ℕ). backoff_due k ≡ true) (omega (arith, x)) due))
find (suc j) n (t ∷ ts) after l a x h due =
    later (find j (n + 1) ts after (omega arith) (and_right (knows_none t.met) _ a)
    (subst (λ (k : ℕ). Next k (ts ++ after)) (ap (λ (k : ℕ). k + 1) x) (h.0 (and_left (knows_none t.met) _ a))) h.1.1
    (subst (λ (k : ℕ). backoff_due k ≡ true) (omega arith) due))

first_met : (ts after : List Tick) → 1 ≤ length ts → (n : ℕ) × Next n (ts ++ after)
unfolding Next
first_met [] after l = absurd (omega arith)
first_met (t ∷ ts) after l = (t.met.passes_alone, refl)

-- Among any 12 maintenance timers in a row that find a station with both views empty, at least one asks every bootstrap peer to let it join.
pub rejoin_promise : RejoinPromise
unfolding new
rejoin_promise me d c given z vs before twelve after e l a =
    let t = accepted_new me d c z in
    let r = and_left (in_range c) (short_data d) t in
    let k = kept_new me d c given r (and_right (in_range c) (short_data d) t) in
    let q : (new me d c).state ≡ new_station me d c = ap (λ (m : Made). m.state) (choose_yes (in_range c && short_data d) _ _ t) in
    let all : Chained (before ++ (twelve ++ after)) = subst Chained e (subst (λ (s : Station). Chained (ticks definition (λ x. x) vs s)) (sym q) (chained r vs k).1) in
    let n = first_met twelve after (omega arith) in
    find (11 - n.0 % 12) n.0 twelve after (omega arith) a n.1 (drop_before before (twelve ++ after) all) (due_at n.0)
