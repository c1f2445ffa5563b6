-- Whom a node that knows no peer asks.
-- Assumes nothing.
use Prim.Native.Nat.{ℕ, ◌+◌, ◌≤◌, ◌<◌}
use mathlib.Core.Path.{◌≡◌, refl, sym, ap, ◌∙◌}
use mathlib.Core.Bool.{Bool, true, false}
use mathlib.Core.List.{List, [], ◌∷◌}
use native.Mathlib.Omega.{arith}
use lib.ListN.{length, take, drop, get_or, set}
use lib.Seq.{take_all, get_or-set_same}
use Rattle.base_lists.specs.Lists.{null}
use Rattle.base_lists.proofs.Choice.{split, choose_yes, choose_no}
use Rattle.base_lists.proofs.Members.{null_yes, null_no}
use Rattle.base_lists.proofs.Rest.{Rest, rest_next, rest_end}
use Rattle.base_util.specs.Chances.{pick}
use Rattle.base_timing.specs.Timing.{backoff_due}
use Rattle.base_peer.specs.Data.{Data}
use Rattle.base_util.specs.Section.{items_at, HoldsSet, working_places}
use Rattle.base_util.proofs.Sets.{lent}
use Rattle.record.specs.Format.{Rec}
use Rattle.spec_hyparview.specs.Run.{Run, emit, emit_all, draw, to_draw, one_of, draw_one_of, picked}
use Rattle.spec_hyparview.specs.Sending.{join_to, join}
use Rattle.spec_hyparview.specs.Timers.{other_recent, rejoin_recent, rejoin_bootstrap, rejoin, count_alone, rejoin_if_due, pass_alone}
use Rattle.work.specs.declared.Work.{Work}
use Rattle.hyparview_state.specs.Layout.{bootstrap_part, passes_alone, bootstrap_places, passes_alone_at}
use Rattle.hyparview_state.specs.Unpack.{unpack, station_of, long, PackedState}
use Rattle.hyparview_state.specs.Work.{work_of, run, run_of, Changes, DrawsAny, Room, Tells, Fine, Does}
use Rattle.hyparview_state.proofs.Access.{of_bootstrap}
use Rattle.hyparview_state.proofs.Bridge.{guard_shut, by, still, then, then_tell, seq, seq_at, taken, left}
use Rattle.hyparview_state.proofs.Any.{then_one_of}

-- ---- the bootstrap peers: the Joins to those to come, after what was done so far, are the answer

abbrev Then : Data → Run → List ℕ → Run
Then d g l = emit_all (join_to d) l g

pub record Joining (xs : List ℕ) (w : Work) (out₀ ps : List ℕ) (out : List ℕ) (r : Work) (i : ℕ) : Type 0 where
  pub room : Room (work_of r xs) out
  pub drawn : r.drawn ≡ w.drawn
  pub len : length out ≡ length out₀
  pub rest : (ds : List ℕ) → Rest (Then (unpack xs).own_data) (length ps) ps (length ps) (emit_all (join_to (unpack xs).own_data) ps (run (work_of w xs) ds out₀)) (run (work_of r xs) ds out) i

pub joins_start : (xs : List ℕ) (w : Work) (out ps : List ℕ) → Room (work_of w xs) out → Joining xs w out ps out w 0
joins_start xs w out ps v = record {
  room = v;
  drawn = refl;
  len = refl;
  rest = λ ds. record { low = omega arith; top = omega arith; long = refl; same = ap (λ (l : List ℕ). emit_all (join_to (unpack xs).own_data) l (run (work_of w xs) ds out)) (sym (take_all (length ps) ps (omega arith))) };
}

-- a Join is the record that carries the station's own data
join_is_told : (r : Work) (xs ds out : List ℕ) (p q : ℕ) → p ≡ q → join p (run (work_of r xs) ds out) ≡ emit (join_to (unpack xs).own_data q) (run (work_of r xs) ds out)
unfolding join run_of
join_is_told r xs ds out p q e = ap (λ (x : ℕ). emit (join_to (unpack xs).own_data x) (run (work_of r xs) ds out)) e

module _ (xs : List ℕ) (w : Work) (out₀ ps out : List ℕ) (r : Work) (i : ℕ) (v : Joining xs w out₀ ps out r i) where
  pub joins_next : (p : ℕ) (a : Work) (o : List ℕ) → i < length ps → p ≡ get_or ps i 0 → Tells (join p) (work_of r xs) (work_of a xs) out o → length o ≡ length out → Joining xs w out₀ ps o a (i + 1)
  unfolding emit_all
  joins_next p a o h e k q = record {
    room = k.room;
    drawn = k.drawn ∙ v.drawn;
    len = q ∙ v.len;
    rest = λ ds. rest_next 0 (Then (unpack xs).own_data) (v.rest ds) (run (work_of a xs) ds o) h (λ l. ap (emit_all (join_to (unpack xs).own_data) l) (sym (k.same ds ∙ join_is_told r xs ds out p _ e)));
  }

-- k words of their places are the bootstrap peers
lent_bootstrap : (xs : List ℕ) (k : ℕ) → PackedState xs → k ≡ length (items_at bootstrap_places (bootstrap_part xs)) → take k (bootstrap_part xs) ≡ items_at bootstrap_places (bootstrap_part xs)
lent_bootstrap xs k v e = let s = of_bootstrap xs v in ap (λ (n : ℕ). take n (bootstrap_part xs)) (e ∙ s.counted) ∙ lent bootstrap_places _ s

pub joins_end : (xs : List ℕ) (w : Work) (out₀ : List ℕ) (k : ℕ) (out : List ℕ) (r : Work) (i : ℕ) → k ≡ length (items_at bootstrap_places (bootstrap_part xs)) → Joining xs w out₀ (take k (bootstrap_part xs)) out r i
    → length (take k (bootstrap_part xs)) ≤ i → Tells rejoin_bootstrap (work_of w xs) (work_of r xs) out₀ out
unfolding rejoin_bootstrap emit_all run_of unpack station_of
joins_end xs w out₀ k out r i e v h = record {
  room = v.room;
  drawn = v.drawn;
  same = λ ds. sym (ap (λ (l : List ℕ). emit_all (join_to (unpack xs).own_data) l (run (work_of w xs) ds out₀)) (sym (lent_bootstrap xs k v.room.packed e)) ∙ rest_end 0 (Then (unpack xs).own_data) (v.rest ds) h);
}

-- ---- one recent neighbor

null_none : (l : List ℕ) → length l ≡ 0 → null l ≡ true
null_none l e = split (null l) (λ t. t) (λ t. absurd (omega (arith, e, null_no l t)))

null_some : (l : List ℕ) → (length l ≡ 0 → ⊥) → null l ≡ false
null_some l h = split (null l) (λ t. absurd (h (null_yes l t))) (λ t. t)

module _ (w : Work) (xs ds out v : List ℕ) (n : ℕ) (f : Fine (work_of w xs) ds out) (c : n ≡ length (items_at working_places v)) where
  pub no_recent : n ≡ 0 → Does (work_of w xs) ds out (rejoin_recent (items_at working_places v) (run (work_of w xs) ds out))
  unfolding rejoin_recent
  no_recent z = taken _ _ (null_none (items_at working_places v) (sym c ∙ z)) (still f)

  module _ (i p : ℕ) (j : i ≡ pick n (drop w.drawn ds)) (q : p ≡ get_or (items_at working_places v) i 0) where
    picked_is : p ≡ picked (items_at working_places v) (run (work_of w xs) ds out)
    unfolding picked one_of to_draw run_of
    picked_is = q ∙ ap (λ (k : ℕ). get_or (items_at working_places v) k 0) (j ∙ ap (λ (k : ℕ). pick k (drop w.drawn ds)) c)

    pub one_recent : (a r : Work) (o : List ℕ) → (n ≡ 0 → ⊥) → Tells (join p) (work_of a xs) (work_of r xs) out o → DrawsAny (draw_one_of n) w a ds → Does (work_of r xs) ds o (rejoin_recent (items_at working_places v) (run (work_of w xs) ds out))
    unfolding rejoin_recent
    one_recent a r o h k₂ k₁ =
        left _ _ (null_some (items_at working_places v) (λ z. h (c ∙ z))) (by _ (λ k. join (sym picked_is k) (draw_one_of (sym c k) (run (work_of w xs) ds out))) (then_tell k₂ (then_one_of _ k₁ (still f))))

-- ---- both

pub fine_told : {step : Run → Run} (w a : Work) (xs ys ds out o : List ℕ) → Fine (work_of w xs) ds out → Tells step (work_of w xs) (work_of a ys) out o → Fine (work_of a ys) ds o
fine_told w a xs ys ds out o v k = (then_tell k (still v)).fine

pub rejoined : (w a r : Work) (xs ds out o₁ o₂ v : List ℕ) → Fine (work_of w xs) ds out → HoldsSet working_places v (other_recent (unpack xs))
    → Does (work_of r xs) ds o₂ (rejoin_recent (items_at working_places v) (run (work_of a xs) ds o₁)) → Tells rejoin_bootstrap (work_of w xs) (work_of a xs) out o₁ → Does (work_of r xs) ds o₂ (rejoin (run (work_of w xs) ds out))
unfolding rejoin run_of
rejoined w a r xs ds out o₁ o₂ v f h k₂ k₁ = seq_at rejoin_recent h.items k₂ (then_tell k₁ (still f))

module _ (w : Work) (xs ds out : List ℕ) (t : Bool) (e : t ≡ backoff_due (passes_alone xs)) where
  due : {b : Bool} → t ≡ b → backoff_due (run (work_of w xs) ds out).station.passes_alone ≡ b
  unfolding run_of unpack station_of
  due h = sym e ∙ h

  pub rejoin_due : (r : Work) (o : List ℕ) → t ≡ true → Does (work_of r xs) ds o (rejoin (run (work_of w xs) ds out)) → Does (work_of r xs) ds o (rejoin_if_due (run (work_of w xs) ds out))
  unfolding rejoin_if_due
  rejoin_due r o h k = taken _ _ (due h) k

  pub rejoin_not_due : Fine (work_of w xs) ds out → t ≡ false → Does (work_of w xs) ds out (rejoin_if_due (run (work_of w xs) ds out))
  unfolding rejoin_if_due
  rejoin_not_due v h = left _ _ (due h) (still v)

-- ---- a pass that cannot be counted: no Join goes out

emits_rest : (f : ℕ → Rec) (l : List ℕ) (g : Run) → (g.code ≡ 0 → ⊥) → emit_all f l g ≡ g
unfolding emit_all emit
emits_rest f [] g h = refl
emits_rest f (p ∷ l) g h = ap (emit_all f l) (guard_shut g _ h) ∙ emits_rest f l g h

recent_rests : (from : List ℕ) (g : Run) → (g.code ≡ 0 → ⊥) → rejoin_recent from g ≡ g
unfolding rejoin_recent join emit draw_one_of draw
recent_rests from g h =
    split (null from)
    (λ t. choose_yes _ _ _ t)
    (λ t. choose_no _ _ _ t ∙ (ap (join (picked from g)) (guard_shut g _ h) ∙ guard_shut g _ h))

rejoin_rests : (g : Run) → (g.code ≡ 0 → ⊥) → rejoin_if_due g ≡ g
unfolding rejoin_if_due rejoin rejoin_bootstrap
rejoin_rests g h =
    split (backoff_due g.station.passes_alone)
    (λ t. choose_yes _ _ _ t ∙ (ap (rejoin_recent (other_recent g.station)) (emits_rest _ _ g h) ∙ recent_rests _ g h))
    (λ t. choose_no _ _ _ t)

stopped : (w : Work) (xs ds out : List ℕ) → (w.code ≡ 0 → ⊥) → rejoin_if_due (run (work_of w xs) ds out) ≡ run (work_of w xs) ds out
unfolding run_of
stopped w xs ds out h = rejoin_rests _ h

pub alone_stopped : (w a : Work) (xs ds out : List ℕ) → Fine (work_of w xs) ds out → (a.code ≡ 0 → ⊥) → Changes count_alone (work_of w xs) (work_of a xs) → Does (work_of a xs) ds out (pass_alone (run (work_of w xs) ds out))
unfolding pass_alone
alone_stopped w a xs ds out v h k = let d = then k (still v) in seq rejoin_if_due (by _ (stopped a xs ds out h) (still d.fine)) d

-- ---- a pass that is counted

-- the number that was written is the number of passes
pub due_counted : (xs : List ℕ) (n : ℕ) (t : Bool) → PackedState xs → t ≡ backoff_due n → t ≡ backoff_due (passes_alone (set xs passes_alone_at n))
due_counted xs n t l e = e ∙ ap backoff_due (sym (get_or-set_same xs passes_alone_at n 0 (omega (arith, long l))))

pub passed_alone : (w a r : Work) (xs ys ds out o : List ℕ) → Fine (work_of w xs) ds out → Does (work_of r ys) ds o (rejoin_if_due (run (work_of a ys) ds out)) → Changes count_alone (work_of w xs) (work_of a ys)
    → Does (work_of r ys) ds o (pass_alone (run (work_of w xs) ds out))
unfolding pass_alone
passed_alone w a r xs ys ds out o v k₂ k₁ = seq rejoin_if_due k₂ (then k₁ (still v))
