-- From the code's work and words to the definition's run: the terms that prove a step.
-- Assumes nothing.
use Prim.Native.Nat.{ℕ, ◌+◌, ◌≤◌, ◌<◌}
use mathlib.Core.Path.{◌≡◌, refl, sym, ap, ◌∙◌, subst}
use mathlib.Core.Bool.{Bool, true, false}
use mathlib.Core.List.{List, []}
use native.Mathlib.Omega.{arith}
use lib.ListN.{length}
use lib.Dec.{eqb}
use lib.Seq.{length-take-le}
use borrow.Author.Tests.{eq-eqb, ne_eqb, eqb-true, eqb-false, le-leb, lt-leb, leb-true}
use Rattle.base_lists.specs.Lists.{choose}
use Rattle.base_lists.specs.Bytes.{overwrite}
use Rattle.base_lists.proofs.Choice.{split, by_choice, choose_yes, choose_no}
use Rattle.base_lists.proofs.Bytes.{length_overwrite}
use Rattle.base_lists.proofs.Stored.{take_stored}
use Rattle.record.specs.Format.{Rec, size, encode}
use Rattle.record.proofs.Format.{length_encode}
use Rattle.std.specs.Prelude.{Option, Some, None}
use Rattle.record_writer.specs.Write.{fits, reached, written, Wrote}
use Rattle.work.specs.Run.{Run, guard, on, emit, draw, require}
use Rattle.work.specs.declared.Work.{Work}
use Rattle.work.specs.Work.{Form, Becomes, Held, work_of, run_of, Changes, Ready, DrawsFrom, Room, Tells, Fine, Does, after_record}

abbrev pub with_state : List ℕ → Held → Held
with_state s w = record { state = s; drawn = w.drawn; written = w.written; code = w.code }

abbrev pub with_code : ℕ → Held → Held
with_code k w = record { state = w.state; drawn = w.drawn; written = w.written; code = k }

abbrev pub with_drawn : ℕ → Held → Held
with_drawn k w = record { state = w.state; drawn = k; written = w.written; code = w.code }

module _ {S : Type 0} where
  pub guard_shut : (g after : Run S) → (g.code ≡ 0 → ⊥) → guard g after ≡ g
  unfolding guard
  guard_shut g after h = choose_no _ _ _ (ne_eqb _ _ h)

  pub guard_open : (g after : Run S) → g.code ≡ 0 → guard g after ≡ after
  unfolding guard
  guard_open g after h = choose_yes _ _ _ (eq-eqb _ _ h)

  -- two changes in a row are one
  pub on_twice : (f h : S → S) (g : Run S) → on (λ s. h (f s)) g ≡ on h (on f g)
  unfolding on
  on_twice f h g =
      split (eqb g.code 0)
      (λ t. let z = eqb-true _ _ t in guard_open g _ z ∙ sym (ap (on h) (guard_open g _ z) ∙ guard_open _ _ z))
      (λ t. let z = eqb-false _ _ t in guard_shut g _ z ∙ sym (ap (on h) (guard_shut g _ z) ∙ guard_shut g _ z))

  -- what a test that was passed says
  required : (k : ℕ) (t : Bool) (g : Run S) → 1 ≤ k → (require k t g).code ≡ 0 → (require k t g ≡ g) × (t ≡ true)
  unfolding require guard
  required k t g h =
      by_choice (λ (x : Run S). x.code ≡ 0 → (x ≡ g) × (t ≡ true)) (eqb g.code 0)
      (λ e. by_choice (λ (x : Run S). x.code ≡ 0 → (x ≡ g) × (t ≡ true)) t (λ f z. (refl, f)) (λ f z. absurd (omega arith)))
      (λ e z. absurd (eqb-false _ _ e z))

module _ {S : Type 0} {F : Form S} where
  -- ---- the four primitives

  module _ (w : Held) (v : F.Packed w.state) where
    -- the work as it came, where a code is set
    pub on_passed : (f : S → S) → (w.code ≡ 0 → ⊥) → Changes F (on f) w w
    unfolding run_of on
    on_passed f h = record { packed = v; drawn = refl; written = refl; same = λ ds out. sym (guard_shut _ _ h) }

    -- a new state
    pub on_done : (f : S → S) (s : List ℕ) → w.code ≡ 0 → (Becomes F w.state (F.unpack w.state) → Becomes F s (f (F.unpack w.state))) → Changes F (on f) w (with_state s w)
    unfolding run_of on
    on_done f s h change =
        let b = change (record { packed = v; same = refl }) in
        record { packed = b.packed; drawn = refl; written = refl; same = λ ds out. rw b.same (sym (guard_open _ _ h)) }

    pub require_passed : (k : ℕ) (b : Bool) → (w.code ≡ 0 → ⊥) → Changes F (require k b) w w
    unfolding run_of require
    require_passed k b h = record { packed = v; drawn = refl; written = refl; same = λ ds out. sym (guard_shut _ _ h) }

    pub require_held : (k : ℕ) (b : Bool) → w.code ≡ 0 → b ≡ true → Changes F (require k b) w w
    unfolding run_of require
    require_held k b h t = record { packed = v; drawn = refl; written = refl; same = λ ds out. sym (guard_open _ _ h ∙ choose_yes _ _ _ t) }

    pub require_refused : (k : ℕ) (b : Bool) → w.code ≡ 0 → b ≡ false → Changes F (require k b) w (with_code k w)
    unfolding run_of require
    require_refused k b h t = record { packed = v; drawn = refl; written = refl; same = λ ds out. sym (guard_open _ _ h ∙ choose_no _ _ _ t) }

  module _ (w : Held) (ds : List ℕ) (v : Ready F w ds) where
    pub draw_passed : (n : ℕ) → (w.code ≡ 0 → ⊥) → DrawsFrom F (draw n) w w ds
    unfolding run_of draw
    draw_passed n h = record { ready = v; written = refl; same = λ out. sym (guard_shut _ _ h) }

    pub draw_short : (n : ℕ) → w.code ≡ 0 → length ds < w.drawn + n → DrawsFrom F (draw n) w (with_code 5 w) ds
    unfolding run_of draw
    draw_short n h x =
        record { ready = record { packed = v.packed; drawn = v.drawn }; written = refl; same = λ out. sym (guard_open _ _ h ∙ choose_no _ _ _ (lt-leb _ _ x)) }

    pub draw_done : (n : ℕ) → w.code ≡ 0 → w.drawn + n ≤ length ds → DrawsFrom F (draw n) w (with_drawn (w.drawn + n) w) ds
    unfolding run_of draw
    draw_done n h x =
        record { ready = record { packed = v.packed; drawn = x }; written = refl; same = λ out. sym (guard_open _ _ h ∙ choose_yes _ _ _ (le-leb _ _ x)) }

  module _ (w : Work) (xs out : List ℕ) (e : Rec) (v : Room F (work_of w xs) out) where
    pub emit_passed : (w.code ≡ 0 → ⊥) → Tells F (emit e) (work_of w xs) (work_of w xs) out out
    unfolding run_of emit
    emit_passed h = record { room = v; drawn = refl; same = λ ds. sym (guard_shut _ _ h) }

    emit_full : w.code ≡ 0 → fits e w.written (length out) ≡ false → Tells F (emit e) (work_of w xs) (work_of (after_record None w) xs) out out
    unfolding run_of emit fits after_record
    emit_full h f = record {
      room = record { packed = v.packed; written = v.written };
      drawn = refl;
      same = λ ds. sym (guard_open _ _ h ∙ choose_no _ _ _ (rw (length-take-le w.written out v.written) f));
    }

    emit_told : w.code ≡ 0 → fits e w.written (length out) ≡ true → Tells F (emit e) (work_of w xs) (work_of (after_record (Some (w.written + size e)) w) xs) out (overwrite out w.written (encode e))
    unfolding run_of emit fits after_record
    emit_told h f =
        let at = w.written in
        let l = length_overwrite out at (encode e) in
        let fit : at + size e ≤ length out = leb-true _ _ f in
        let stored = take_stored out at (encode e) (omega (arith, length_encode e)) in
        let z : at + length (encode e) ≡ at + size e = omega (arith, length_encode e) in
        record {
          room = record { packed = v.packed; written = rw l fit };
          drawn = refl;
          same = λ ds. rw (l, ← z, stored) (sym (guard_open _ _ h ∙ choose_yes _ _ _ (rw (length-take-le at out v.written) f)));
        }

    -- what the writer answered and wrote
    emit_wrote : (a : Option ℕ) (o : List ℕ) → w.code ≡ 0 → Wrote e w.written out a o → Tells F (emit e) (work_of w xs) (work_of (after_record a w) xs) out o
    unfolding reached written
    emit_wrote a o h k =
        split (fits e w.written (length out))
        (λ t. subst (λ (x : Option ℕ). Tells F (emit e) (work_of w xs) (work_of (after_record x w) xs) out o) (sym (k.answer ∙ choose_yes _ _ _ t))
        (subst (λ (x : List ℕ). Tells F (emit e) (work_of w xs) (work_of (after_record (Some (w.written + size e)) w) xs) out x) (sym (k.bytes ∙ choose_yes _ _ _ t)) (emit_told h t)))
        (λ t. subst (λ (x : Option ℕ). Tells F (emit e) (work_of w xs) (work_of (after_record x w) xs) out o) (sym (k.answer ∙ choose_no _ _ _ t))
        (subst (λ (x : List ℕ). Tells F (emit e) (work_of w xs) (work_of (after_record None w) xs) out x) (sym (k.bytes ∙ choose_no _ _ _ t)) (emit_full h t)))

    pub emit_done : (a : Option ℕ) (o : List ℕ) (r : Work) → w.code ≡ 0 → Wrote e w.written out a o → r ≡ after_record a w → Tells F (emit e) (work_of w xs) (work_of r xs) out o
    emit_done a o r h k q = subst (λ (x : Work). Tells F (emit e) (work_of w xs) (work_of x xs) out o) (sym q) (emit_wrote a o h k)

  pub require_said : (w a : Held) (k : ℕ) (t : Bool) → 1 ≤ k → Changes F (require k t) w a → a.code ≡ 0 → (F.unpack a.state ≡ F.unpack w.state) × (t ≡ true)
  unfolding run_of
  require_said w a k t h c z =
      let e = c.same [] [] in
      let q = required k t (run_of F w [] []) h (ap (λ (g : Run S). g.code) (sym e) ∙ z) in
      (ap (λ (g : Run S). g.station) (e ∙ q.0), q.1)

  -- a test was made only where the run went on
  pub required_code : (k : ℕ) (b : Bool) (w a : Held) → Changes F (require k b) w a → a.code ≡ 0 → w.code ≡ 0
  unfolding run_of require
  required_code k b w a v z =
      split (eqb w.code 0) (λ t. eqb-true _ _ t)
      (λ t. sym (ap (λ (x : Run S). x.code) (v.same [] [] ∙ guard_shut (run_of F w [] []) _ (eqb-false _ _ t))) ∙ z)

  -- ---- steps in a row

  -- nothing done
  pub unchanged : {w : Held} (h : Run S → Run S) → F.Packed w.state → ((ds out : List ℕ) → h (run_of F w ds out) ≡ run_of F w ds out) → Changes F h w w
  unchanged h v e = record { packed = v; drawn = refl; written = refl; same = λ ds out. sym (e ds out) }

  -- the step h is the step g, at this run: a branch, or another name
  pub change_by : {w r : Held} {g : Run S → Run S} (h : Run S → Run S) → ((ds out : List ℕ) → h (run_of F w ds out) ≡ g (run_of F w ds out)) → Changes F g w r → Changes F h w r
  change_by h e k = record { packed = k.packed; drawn = k.drawn; written = k.written; same = λ ds out. k.same ds out ∙ sym (e ds out) }

  -- the step h is f and then g, at this run
  pub change_then : {w a r : Held} {f g : Run S → Run S} (h : Run S → Run S) → ((ds out : List ℕ) → h (run_of F w ds out) ≡ g (f (run_of F w ds out))) → Changes F g a r → Changes F f w a → Changes F h w r
  change_then {g = g} h e k₂ k₁ = record {
    packed = k₂.packed;
    drawn = k₂.drawn ∙ k₁.drawn;
    written = k₂.written ∙ k₁.written;
    same = λ ds out. k₂.same ds out ∙ (ap g (k₁.same ds out) ∙ sym (e ds out));
  }

  -- the branch of a test that was made of the state
  module _ {w r : Held} (test : S → Bool) {t : Bool} (e : t ≡ test (F.unpack w.state)) where
    pub change_yes : {x : Run S → Run S} (y : Run S → Run S) → t ≡ true → Changes F x w r → Changes F (λ g. choose (test g.station) (x g) (y g)) w r
    unfolding run_of
    change_yes y h k = change_by _ (λ ds out. choose_yes _ _ _ (sym e ∙ h)) k

    pub change_no : (x : Run S → Run S) {y : Run S → Run S} → t ≡ false → Changes F y w r → Changes F (λ g. choose (test g.station) (x g) (y g)) w r
    unfolding run_of
    change_no x h k = change_by _ (λ ds out. choose_no _ _ _ (sym e ∙ h)) k

  -- a step that is lent nothing, where output is lent
  pub telling : {w r : Held} {out : List ℕ} {g : Run S → Run S} → Room F w out → Changes F g w r → Tells F g w r out out
  telling v k = record { room = record { packed = k.packed; written = rw k.written v.written }; drawn = k.drawn; same = λ ds. k.same ds _ }

  pub tell_by : {w r : Held} {out o : List ℕ} {g : Run S → Run S} (h : Run S → Run S) → ((ds : List ℕ) → h (run_of F w ds out) ≡ g (run_of F w ds out)) → Tells F g w r out o → Tells F h w r out o
  tell_by h e k = record { room = k.room; drawn = k.drawn; same = λ ds. k.same ds ∙ sym (e ds) }

  pub tell_then : {w a r : Held} {out o₁ o₂ : List ℕ} {f g : Run S → Run S} (h : Run S → Run S) → ((ds : List ℕ) → h (run_of F w ds out) ≡ g (f (run_of F w ds out))) → Tells F g a r o₁ o₂ → Tells F f w a out o₁ → Tells F h w r out o₂
  tell_then {g = g} h e k₂ k₁ = record {
    room = k₂.room;
    drawn = k₂.drawn ∙ k₁.drawn;
    same = λ ds. k₂.same ds ∙ (ap g (k₁.same ds) ∙ sym (e ds));
  }

  module _ {w r : Held} {out o : List ℕ} (test : S → Bool) {t : Bool} (e : t ≡ test (F.unpack w.state)) where
    pub tell_yes : {x : Run S → Run S} (y : Run S → Run S) → t ≡ true → Tells F x w r out o → Tells F (λ g. choose (test g.station) (x g) (y g)) w r out o
    unfolding run_of
    tell_yes y h k = tell_by _ (λ ds. choose_yes _ _ _ (sym e ∙ h)) k

    pub tell_no : (x : Run S → Run S) {y : Run S → Run S} → t ≡ false → Tells F y w r out o → Tells F (λ g. choose (test g.station) (x g) (y g)) w r out o
    unfolding run_of
    tell_no x h k = tell_by _ (λ ds. choose_no _ _ _ (sym e ∙ h)) k

  -- nothing done
  pub still : {w : Held} {ds out : List ℕ} → Fine F w ds out → Does F w ds out (run_of F w ds out)
  still v = record { fine = v; same = refl }

  -- with another name for the run that is reached
  pub by : {r : Held} {ds o : List ℕ} {x : Run S} (y : Run S) → y ≡ x → Does F r ds o x → Does F r ds o y
  by y e d = record { fine = d.fine; same = d.same ∙ sym e }

  -- then a step that is lent nothing
  pub then : {a r : Held} {ds o : List ℕ} {g : Run S → Run S} {h : Run S} → Changes F g a r → Does F a ds o h → Does F r ds o (g h)
  then {g = g} k d = record {
    fine = record { ready = record { packed = k.packed; drawn = rw k.drawn d.fine.ready.drawn }; written = rw k.written d.fine.written };
    same = k.same _ _ ∙ ap g d.same;
  }

  -- then a step that is lent the draws
  pub then_draw : {a r : Held} {ds o : List ℕ} {g : Run S → Run S} {h : Run S} → DrawsFrom F g a r ds → Does F a ds o h → Does F r ds o (g h)
  then_draw {g = g} k d = record { fine = record { ready = k.ready; written = rw k.written d.fine.written }; same = k.same _ ∙ ap g d.same }

  -- then a step that is lent the output
  pub then_tell : {a r : Held} {ds o₁ o₂ : List ℕ} {g : Run S → Run S} {h : Run S} → Tells F g a r o₁ o₂ → Does F a ds o₁ h → Does F r ds o₂ (g h)
  then_tell {g = g} k d = record {
    fine = record { ready = record { packed = k.room.packed; drawn = rw k.drawn d.fine.ready.drawn }; written = k.room.written };
    same = k.same _ ∙ ap g d.same;
  }

  -- then a step that is lent both
  pub seq : {a r : Held} {ds o₁ o₂ : List ℕ} {h : Run S} (g : Run S → Run S) → Does F r ds o₂ (g (run_of F a ds o₁)) → Does F a ds o₁ h → Does F r ds o₂ (g h)
  seq g d₂ d₁ = record { fine = d₂.fine; same = d₂.same ∙ ap g d₁.same }

  -- the same, the later with a value that was read before: p in code, q in the definition
  pub seq_at : {A : Type 0} {p q : A} {a r : Held} {ds o₁ o₂ : List ℕ} {h : Run S} (g : A → Run S → Run S) → p ≡ q → Does F r ds o₂ (g p (run_of F a ds o₁)) → Does F a ds o₁ h → Does F r ds o₂ (g q h)
  seq_at g e d₂ d₁ = record { fine = d₂.fine; same = d₂.same ∙ (λ j. g (e j) (d₁.same j)) }

  -- ---- the branch of a test

  pub taken : {r : Held} {ds o : List ℕ} {x : Run S} (t : Bool) (y : Run S) → t ≡ true → Does F r ds o x → Does F r ds o (choose t x y)
  taken t y e d = record { fine = d.fine; same = d.same ∙ sym (choose_yes t _ _ e) }

  pub left : {r : Held} {ds o : List ℕ} {y : Run S} (t : Bool) (x : Run S) → t ≡ false → Does F r ds o y → Does F r ds o (choose t x y)
  left t x e d = record { fine = d.fine; same = d.same ∙ sym (choose_no t _ _ e) }

module _ {S : Type 0} (F : Form S) where
  -- what a test in code said, of the run's station
  pub holds_at : (w : Held) (ds out : List ℕ) {t b : Bool} (f : S → Bool) → t ≡ f (F.unpack w.state) → t ≡ b → f (run_of F w ds out).station ≡ b
  unfolding run_of
  holds_at w ds out f e h = sym e ∙ h

  -- what is read of the state is read of the run's station
  pub at_run : (w : Held) (ds out : List ℕ) {A : Type 0} (f : S → A) → f (F.unpack w.state) ≡ f (run_of F w ds out).station
  unfolding run_of
  at_run w ds out f = refl
