-- What one maintenance timer does at a station with both views empty, and that no other event counts passes.
-- Assumes nothing.
use mathlib.Core.Path.{◌≡◌, refl, sym, ap, subst, ◌∙◌}
use mathlib.Core.Bool.{Bool, true}
use mathlib.Core.List.{List, [], ◌∷◌, ◌++◌, append_assoc, append-nil}
use Prim.Native.Nat.{ℕ, ◌+◌}
use native.Mathlib.Omega.{arith}
use lib.ListN.{length}
use lib.Dec.{leb, eqb}
use borrow.Author.Tests.{eqb-false}
use Rattle.record.specs.Kinds.{DoMaintenance, kind_byte}
use Rattle.base_lists.specs.Lists.{choose}
use Rattle.base_lists.proofs.Choice.{by_choice, choose_yes}
use Rattle.base_timing.specs.Timing.{backoff_due}
use Rattle.base_peer.specs.Data.{Data}
use Rattle.record.specs.Format.{Rec, size, encode}
use Rattle.spec_hyparview.specs.Station.{Station}
use Rattle.spec_hyparview.specs.Run.{Run, guard, on, emit, draw, draw_one_of, emit_all}
use Rattle.spec_hyparview.specs.Sending.{join_to, join}
use Rattle.spec_hyparview.specs.Timers as T
use Rattle.spec_hyparview.specs.Handle as H
use Rattle.spec_hyparview.specs.Handle.{start, steps, dispatch}
use Rattle.spec_hyparview.proofs.Keeping.{draw_station, draw_fine, emit_station, emit_fine, on_code, ten, require_fine}
use Rattle.spec_hyparview.proofs.Entering.{on_same}
use Rattle.spec_history.specs.Rejoin.{joins_to}

-- a list that begins with another
pub record Begins (x y : List ℕ) : Type 0 where
  pub rest : List ℕ
  pub is : y ≡ x ++ rest

begins_as : {x z y : List ℕ} → x ≡ z → Begins x y → Begins z y
begins_as e b = record { rest = b.rest; is = b.is ∙ ap (λ (l : List ℕ). l ++ b.rest) e }

-- from run r to run w, unless it is refused: bytes are only added, and the passes alone stay
record Grows (r w : Run) : Type 0 where
  fine : w.code ≡ 0 → r.code ≡ 0
  more : w.code ≡ 0 → Begins r.out w.out
  same : w.code ≡ 0 → w.station.passes_alone ≡ r.station.passes_alone

still : (r : Run) → Grows r r
still r = record { fine = λ z. z; more = λ z. record { rest = []; is = sym (append-nil r.out) }; same = λ z. refl }

then : {r w v : Run} → Grows r w → Grows w v → Grows r v
then {r} g h = record {
  fine = λ z. g.fine (h.fine z);
  more = λ z. let a = g.more (h.fine z) in let b = h.more z in record { rest = a.rest ++ b.rest; is = b.is ∙ (ap (λ (l : List ℕ). l ++ b.rest) a.is ∙ append_assoc r.out a.rest b.rest) };
  same = λ z. h.same z ∙ g.same (h.fine z);
}

either : {r w v : Run} (b : Bool) → Grows r w → Grows r v → Grows r (choose b w v)
either {r} b g h = by_choice (Grows r) b (λ e. g) (λ e. h)

pub emit_out : (e : Rec) (r : Run) → (emit e r).code ≡ 0 → (emit e r).out ≡ r.out ++ encode e
unfolding emit guard
emit_out e r =
    by_choice (λ (w : Run). w.code ≡ 0 → w.out ≡ r.out ++ encode e) (eqb r.code 0)
    (λ f. by_choice (λ (w : Run). w.code ≡ 0 → w.out ≡ r.out ++ encode e) (leb (length r.out + size e) r.room) (λ i z. refl) (λ i z. absurd (omega arith)))
    (λ f z. absurd (eqb-false r.code 0 f z))

pub draw_out : (n : ℕ) (r : Run) → (draw n r).out ≡ r.out
unfolding draw guard
draw_out n r =
    by_choice (λ (w : Run). w.out ≡ r.out) (eqb r.code 0)
    (λ e. by_choice (λ (w : Run). w.out ≡ r.out) (leb (r.used + n) (length r.draws)) (λ f. refl) (λ f. refl)) (λ e. refl)

pub on_out : (f : Station → Station) (r : Run) → (on f r).out ≡ r.out
unfolding on guard
on_out f r = by_choice (λ (w : Run). w.out ≡ r.out) (eqb r.code 0) (λ e. refl) (λ e. refl)

emits : (e : Rec) (r : Run) → Grows r (emit e r)
emits e r = record {
  fine = emit_fine e r;
  more = λ z. record { rest = encode e; is = emit_out e r z };
  same = λ z. ap (λ (s : Station). s.passes_alone) (emit_station e r);
}

draws : (n : ℕ) (r : Run) → Grows r (draw n r)
draws n r = record {
  fine = draw_fine n r;
  more = λ z. record { rest = []; is = draw_out n r ∙ sym (append-nil r.out) };
  same = λ z. ap (λ (s : Station). s.passes_alone) (draw_station n r);
}

changes : (f : Station → Station) → ((s : Station) → (f s).passes_alone ≡ s.passes_alone) → (r : Run) → Grows r (on f r)
changes f h r = record {
  fine = λ z. subst (λ (c : ℕ). c ≡ 0) (on_code f r) z;
  more = λ z. record { rest = []; is = on_out f r ∙ sym (append-nil r.out) };
  same = λ z. on_same (λ s. s.passes_alone) f h r;
}

-- the steps after the Joins
first_timers_grow : (r : Run) → Grows r (H.first_timers r)
unfolding H.first_timers H.note_scheduled T.schedule_maintenance T.schedule_shuffle T.double_interval
first_timers_grow r =
    either _ (still r) (then (changes _ (λ s. refl) r) (then (changes _ (λ s. refl) _) (then (draws 1 _) (then (emits _ _) (emits _ _)))))

ended_grows : (r : Run) → Grows r (on H.forget_declined (H.first_timers r))
unfolding H.forget_declined
ended_grows r = then (first_timers_grow r) (changes _ (λ s. refl) _)

recent_grows : (from : List ℕ) (r : Run) → Grows r (T.rejoin_recent from r)
unfolding T.rejoin_recent join draw_one_of
recent_grows from r = either _ (still r) (then (draws _ r) (emits _ _))

-- a Join to each of the peers
joins_out : (d : Data) (ps : List ℕ) (r : Run) → (emit_all (join_to d) ps r).code ≡ 0 → (emit_all (join_to d) ps r).out ≡ r.out ++ joins_to d ps
unfolding emit_all joins_to
joins_out d [] r z = sym (append-nil r.out)
joins_out d (p ∷ ps) r z =
    joins_out d ps (emit (join_to d p) r) z
    ∙ (ap (λ (l : List ℕ). l ++ joins_to d ps) (emit_out (join_to d p) r (all_fine ps (emit (join_to d p) r) z)) ∙ append_assoc r.out (encode (join_to d p)) (joins_to d ps))
  where
    all_fine : (qs : List ℕ) (w : Run) → (emit_all (join_to d) qs w).code ≡ 0 → w.code ≡ 0
    all_fine [] w z = z
    all_fine (q ∷ qs) w z = emit_fine (join_to d q) w (all_fine qs (emit (join_to d q) w) z)

joins_grow : (d : Data) (ps : List ℕ) (r : Run) → Grows r (emit_all (join_to d) ps r)
unfolding emit_all
joins_grow d [] r = still r
joins_grow d (p ∷ ps) r = then (emits (join_to d p) r) (joins_grow d ps (emit (join_to d p) r))

-- the end of a pass alone, once it is counted
after_count : Run → Run
after_count r = on H.forget_declined (H.first_timers (T.schedule_maintenance (T.rejoin_if_due r)))

after_count_grows : (r : Run) → Grows r (after_count r)
unfolding after_count T.rejoin_if_due T.rejoin T.rejoin_bootstrap T.schedule_maintenance
after_count_grows r =
    then (either (backoff_due r.station.passes_alone) (then (joins_grow _ _ r) (recent_grows _ _)) (still r)) (then (emits _ _) (ended_grows _))

after_due : (r : Run) → backoff_due r.station.passes_alone ≡ true → (after_count r).code ≡ 0 → Begins (r.out ++ joins_to r.station.own_data r.station.bootstrap) (after_count r).out
unfolding after_count T.rejoin_if_due T.rejoin T.rejoin_bootstrap T.schedule_maintenance
after_due r due =
    let d = r.station.own_data in
    let ps = r.station.bootstrap in
    let b = emit_all (join_to d) ps r in
    rw due (rw (choose_yes true (T.rejoin_recent (T.other_recent r.station) b) r refl)
    (λ z. let g = then (recent_grows (T.other_recent r.station) b) (then (emits _ _) (ended_grows _)) in
    begins_as (joins_out d ps r (g.fine z)) (g.more z)))

on_start : (f : Station → Station) (s : Station) (ds : List ℕ) (room : ℕ) → on f (start s ds room) ≡ start (f s) ds room
unfolding on guard choose
on_start f s ds room = refl

-- a maintenance timer at a station with both views empty
module _ (s : Station) (ds : List ℕ) (room : ℕ) (e : Rec) (kind : e.kind ≡ kind_byte DoMaintenance) (alone : T.knows_none s ≡ true) where
  counted : Station
  counted = T.add_alone (T.remember_all s)

  alone_dispatch : dispatch e (start s ds room) ≡ T.schedule_maintenance (T.rejoin_if_due (T.count_alone (start (T.remember_all s) ds room)))
  unfolding dispatch T.handle_maintenance_timer T.maintain T.pass_alone T.remember_all T.knows_none on guard choose
  alone_dispatch = rw (kind, alone)

  count_fine : (T.count_alone (start (T.remember_all s) ds room)).code ≡ 0 → T.count_alone (start (T.remember_all s) ds room) ≡ start counted ds room
  unfolding T.count_alone counted
  count_fine z =
      let r = start (T.remember_all s) ds room in
      let q = require_fine ten (T.alone_counts (T.remember_all s)) r (subst (λ (c : ℕ). c ≡ 0) (on_code T.add_alone _) z) in
      ap (on T.add_alone) q.0 ∙ on_start T.add_alone (T.remember_all s) ds room

  tick_run : (steps e (start s ds room)).code ≡ 0 → steps e (start s ds room) ≡ after_count (start counted ds room)
  unfolding steps after_count
  tick_run = rw alone_dispatch (λ z. ap after_count (count_fine ((after_count_grows _).fine z)))

  -- it counts a pass
  pub tick_counts : (steps e (start s ds room)).code ≡ 0 → (steps e (start s ds room)).station.passes_alone ≡ s.passes_alone + 1
  unfolding counted T.add_alone T.remember_all
  tick_counts z =
      ap (λ (r : Run). r.station.passes_alone) (tick_run z)
      ∙ (after_count_grows (start counted ds room)).same (subst (λ (r : Run). r.code ≡ 0) (tick_run z) z)

  -- and where the pass is due, it begins with a Join to every bootstrap peer
  pub tick_rejoins : backoff_due (s.passes_alone + 1) ≡ true → (steps e (start s ds room)).code ≡ 0 → Begins (joins_to s.own_data s.bootstrap) (steps e (start s ds room)).out
  unfolding counted T.add_alone T.remember_all
  tick_rejoins due z =
      subst (λ (r : Run). Begins (joins_to s.own_data s.bootstrap) r.out) (sym (tick_run z))
      (after_due (start counted ds room) due (subst (λ (r : Run). r.code ≡ 0) (tick_run z) z))
