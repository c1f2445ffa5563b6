-- One accepted event: with no timers scheduled yet it sets one shuffle timer, a shuffle timer sets the next, and every other event sets none.
-- Assumes nothing.
use mathlib.Core.Path.{◌≡◌, refl, sym, ap, subst, ◌∙◌}
use mathlib.Core.Bool.{Bool, true, false}
use mathlib.Core.List.{List, [], ◌∷◌}
use Prim.Native.Nat.{ℕ, zero, suc, ◌<◌, ◌≤◌}
use native.Mathlib.Omega.{arith}
use lib.ListN.{get_or}
use lib.Dec.{ltb, eqb}
use borrow.Author.Tests.{eqb-true, ltb-true}
use Rattle.base_lists.specs.Lists.{choose}
use Rattle.base_lists.proofs.Choice.{by_choice, choose_yes, choose_no, and_left, and_right}
use Rattle.base_timing.specs.Timing.{delay}
use Rattle.base_timing.specs.declared.Config.{Config}
use Rattle.record.specs.Kinds.{Message, DoShuffle, kind_byte}
use Rattle.record.specs.Format.{Rec}
use Rattle.spec_hyparview.specs.Station.{Station, draws_end}
use Rattle.spec_hyparview.specs.Run.{Run, on, emit, draw, drawn, timer}
use Rattle.spec_hyparview.specs.Rules.{all_under}
use Rattle.spec_hyparview.specs.Timers as T
use Rattle.spec_hyparview.specs.Handle as H
use Rattle.spec_hyparview.specs.Handle.{start, steps}
use Rattle.spec_hyparview.proofs.Keeping.{draw_station, draw_fine, emit_station, emit_fine, on_code}
use Rattle.spec_hyparview.proofs.Entering.{on_same}
use Rattle.spec_hyparview.proofs.Reading.{Readable}
use Rattle.spec_history.proofs.Ticks.{draw_out, on_out}
use Rattle.spec_chatter.proofs.Moves.{on_lent, on_station}
use Rattle.shuffle_times.specs.Times.{next_interval}
use Rattle.shuffle_times.proofs.Told.{timers_of}
use Rattle.shuffle_times.proofs.Quiet.{Adds, adds_more, Still, Quiet, then, changes, adds_one, schedule_maintenance, shuffle_any, dispatch}

-- the run w wrote one shuffle timer after the output x, with the interval i and one of the draws ds, and doubled the interval up to top
pub record Sets (x ds : List ℕ) (i top : ℕ) (w : Run) : Type 0 where
  pub draw_of : ℕ
  pub low : all_under draws_end ds ≡ true → draw_of < draws_end
  pub adds : Adds (delay i draw_of ∷ []) x w.out
  pub pace : w.station.next_interval ≡ next_interval top i

pub under_at : (l : List ℕ) (i : ℕ) → all_under draws_end l ≡ true → get_or l i 0 < draws_end
unfolding all_under
under_at [] i e = omega arith
under_at (x ∷ xs) zero e = ltb-true x draws_end (and_left (ltb x draws_end) (all_under draws_end xs) e)
under_at (x ∷ xs) (suc i) e = under_at xs i (and_right (ltb x draws_end) (all_under draws_end xs) e)

-- schedule_shuffle
module _ (r : Run) where
  schedule_fine : (T.schedule_shuffle r).code ≡ 0 → r.code ≡ 0
  unfolding T.schedule_shuffle
  schedule_fine z = subst (λ (c : ℕ). c ≡ 0) (on_code T.double_interval r) (draw_fine 1 _ (emit_fine _ _ z))

  schedule_station : (T.schedule_shuffle r).code ≡ 0 → (T.schedule_shuffle r).station ≡ T.double_interval r.station
  unfolding T.schedule_shuffle
  schedule_station z = emit_station _ _ ∙ (draw_station 1 _ ∙ on_station T.double_interval r (schedule_fine z))

  schedule_adds : (T.schedule_shuffle r).code ≡ 0 → Adds (delay r.station.next_interval (drawn r) ∷ []) r.out (T.schedule_shuffle r).out
  unfolding T.schedule_shuffle timers_of choose
  schedule_adds z =
      let e = timer (kind_byte DoShuffle) 0 (delay r.station.next_interval (drawn r)) 0 in
      let b = draw 1 (on T.double_interval r) in
      subst (λ (x : List ℕ). Adds (e.second ∷ []) x (emit e b).out) (draw_out 1 (on T.double_interval r) ∙ on_out T.double_interval r) (adds_one e b z)

  schedule_sets : (T.schedule_shuffle r).code ≡ 0 → Sets r.out r.draws r.station.next_interval r.station.config.shuffle_interval (T.schedule_shuffle r)
  unfolding drawn T.double_interval next_interval
  schedule_sets z = record {
    draw_of = drawn r;
    low = under_at r.draws r.used;
    adds = schedule_adds z;
    pace = ap (λ (s : Station). s.next_interval) (schedule_station z);
  }

-- quiet steps before and after
pub sets_after : {r w v : Run} → Still r w → Sets w.out w.draws w.station.next_interval w.station.config.shuffle_interval v → Sets r.out r.draws r.station.next_interval r.station.config.shuffle_interval v
sets_after {r} {w} {v} k h =
    let i : w.station.next_interval ≡ r.station.next_interval = ap (λ (p : Bool × (ℕ × Config)). p.1.0) k.same_clock in
    let t : w.station.config.shuffle_interval ≡ r.station.config.shuffle_interval = ap (λ (p : Bool × (ℕ × Config)). p.1.1.shuffle_interval) k.same_clock in
    record {
      draw_of = h.draw_of;
      low = λ u. h.low (subst (λ (l : List ℕ). all_under draws_end l ≡ true) (sym k.lent) u);
      adds = subst (λ (j : ℕ). Adds (delay j h.draw_of ∷ []) r.out v.out) i (adds_more k.adds h.adds);
      pace = h.pace ∙ cc (i, t);
    }

pub sets_before : {x ds : List ℕ} {i top : ℕ} {w v : Run} → Sets x ds i top w → Still w v → Sets x ds i top v
sets_before h k = record {
  draw_of = h.draw_of;
  low = h.low;
  adds = adds_more h.adds k.adds;
  pace = ap (λ (p : Bool × (ℕ × Config)). p.1.0) k.same_clock ∙ h.pace;
}

-- the first timers
timers_fine : (w : Run) → (H.first_timers w).code ≡ 0 → w.code ≡ 0
unfolding H.first_timers T.schedule_maintenance
timers_fine w =
    by_choice (λ (v : Run). v.code ≡ 0 → w.code ≡ 0) w.station.scheduled (λ e z. z)
    (λ e z. subst (λ (c : ℕ). c ≡ 0) (on_code H.note_scheduled w) (schedule_fine _ (emit_fine _ _ z)))

timers_kept : (w : Run) → w.station.scheduled ≡ true → H.first_timers w ≡ w
unfolding H.first_timers
timers_kept w e = choose_yes w.station.scheduled _ _ e

timers_new : (w : Run) → w.station.scheduled ≡ false → H.first_timers w ≡ T.schedule_maintenance (T.schedule_shuffle (on H.note_scheduled w))
unfolding H.first_timers
timers_new w e = choose_no w.station.scheduled _ _ e

note_pace : (w : Run) → (on H.note_scheduled w).station.next_interval ≡ w.station.next_interval
unfolding H.note_scheduled
note_pace w = on_same (λ s. s.next_interval) H.note_scheduled (λ s. refl) w

note_config : (w : Run) → (on H.note_scheduled w).station.config ≡ w.station.config
unfolding H.note_scheduled
note_config w = on_same (λ s. s.config) H.note_scheduled (λ s. refl) w

-- a run that sets a shuffle timer, and after which timers are scheduled
pub record Starts (x ds : List ℕ) (i top : ℕ) (w : Run) : Type 0 where
  pub sets : Sets x ds i top w
  pub mark : w.station.scheduled ≡ true

new_timers : (w : Run) → w.station.scheduled ≡ false → (H.first_timers w).code ≡ 0 → Starts w.out w.draws w.station.next_interval w.station.config.shuffle_interval (H.first_timers w)
unfolding H.note_scheduled T.double_interval
new_timers w e =
    rw (timers_new w e) (λ z.
    let n = on H.note_scheduled w in
    let v = T.schedule_shuffle n in
    let k = (schedule_maintenance v).so z in
    let h = schedule_sets n k.fine in
    record {
      sets = sets_before (record {
        draw_of = h.draw_of;
        low = λ u. h.low (subst (λ (l : List ℕ). all_under draws_end l ≡ true) (sym (on_lent H.note_scheduled w)) u);
        adds = subst (λ (j : ℕ). Adds (delay j h.draw_of ∷ []) w.out v.out) (note_pace w) (subst (λ (x : List ℕ). Adds (delay n.station.next_interval h.draw_of ∷ []) x v.out) (on_out H.note_scheduled w) h.adds);
        pace = h.pace ∙ cc (note_pace w, note_config w);
      }) k;
      mark = ap (λ (p : Bool × (ℕ × Config)). p.0) k.same_clock ∙ (ap (λ (s : Station). s.scheduled) (schedule_station n k.fine) ∙ ap (λ (s : Station). s.scheduled) (on_station H.note_scheduled w (timers_fine w (subst (λ (u : Run). u.code ≡ 0) (sym (timers_new w e)) z))));
    })

shuffle_dispatch : (e : Rec) → eqb e.kind (kind_byte DoShuffle) ≡ true → (r : Run) → H.dispatch e r ≡ T.handle_shuffle_timer r
unfolding H.dispatch choose
shuffle_dispatch e f r = rw (eqb-true e.kind (kind_byte DoShuffle) f)

-- the last step of an event is quiet
declined : (w : Run) → Quiet w (on H.forget_declined w)
unfolding H.forget_declined
declined w = changes _ (λ s. refl) w

starts_before : {x ds : List ℕ} {i top : ℕ} {w v : Run} → Starts x ds i top w → Still w v → Starts x ds i top v
starts_before h k = record { sets = sets_before h.sets k; mark = ap (λ (p : Bool × (ℕ × Config)). p.0) k.same_clock ∙ h.mark }

module _ (e : Rec) (readable : Readable e) (few : e.kind ≡ kind_byte Message → e.message ≤ 5) (s : Station) (ds : List ℕ) (room : ℕ) where
  -- no timer
  pub plain : eqb e.kind (kind_byte DoShuffle) ≡ false → s.scheduled ≡ true → (steps e (start s ds room)).code ≡ 0 → Still (start s ds room) (steps e (start s ds room))
  unfolding steps
  plain k m z =
      let w = H.dispatch e (start s ds room) in
      let h = (dispatch e readable few k (start s ds room)).so (timers_fine w ((declined (H.first_timers w)).so z).fine) in
      let g = subst (Still (start s ds room)) (sym (timers_kept w (ap (λ (p : Bool × (ℕ × Config)). p.0) h.same_clock ∙ m))) h in
      (then (record { so = λ y. g }) (declined (H.first_timers w))).so z

  -- the first event
  pub first : eqb e.kind (kind_byte DoShuffle) ≡ false → s.scheduled ≡ false → (steps e (start s ds room)).code ≡ 0 → Starts [] ds s.next_interval s.config.shuffle_interval (steps e (start s ds room))
  unfolding steps
  first k m z =
      let w = H.dispatch e (start s ds room) in
      let q = (declined (H.first_timers w)).so z in
      let h = (dispatch e readable few k (start s ds room)).so (timers_fine w q.fine) in
      let t = new_timers w (ap (λ (p : Bool × (ℕ × Config)). p.0) h.same_clock ∙ m) q.fine in
      starts_before (record { sets = sets_after h t.sets; mark = t.mark }) q

  -- a shuffle timer
  pub fired : eqb e.kind (kind_byte DoShuffle) ≡ true → s.scheduled ≡ true → (steps e (start s ds room)).code ≡ 0 → Starts [] ds s.next_interval s.config.shuffle_interval (steps e (start s ds room))
  unfolding steps T.handle_shuffle_timer T.double_interval
  fired k m =
      rw (shuffle_dispatch e k (start s ds room)) (λ z.
      let w = T.shuffle_any (start s ds room) in
      let v = T.schedule_shuffle w in
      let q = (declined (H.first_timers v)).so z in
      let y = timers_fine v q.fine in
      let h = (shuffle_any (start s ds room)).so (schedule_fine w y) in
      let on_still : v.station.scheduled ≡ true = ap (λ (u : Station). u.scheduled) (schedule_station w y) ∙ (ap (λ (p : Bool × (ℕ × Config)). p.0) h.same_clock ∙ m) in
      starts_before (subst (Starts [] ds s.next_interval s.config.shuffle_interval) (sym (timers_kept v on_still)) (record { sets = sets_after h (schedule_sets w y); mark = on_still })) q)
