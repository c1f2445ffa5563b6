-- A step that looks at no draw after those that it uses does the same, byte for byte, with every list that begins with these.
-- Assumes nothing.
use Prim.Native.Nat.{ℕ, ◌+◌, ◌≤◌}
use mathlib.Core.Path.{◌≡◌, refl, sym, ap, subst, ◌∙◌}
use mathlib.Core.Bool.{Bool, true, false}
use mathlib.Core.List.{List, ◌++◌}
use native.Mathlib.Omega.{arith}
use lib.ListN.{length, drop, length-drop}
use lib.Dec.{leb, eqb}
use borrow.Author.Tests.{eqb-true, eqb-false, eq-eqb, ne_eqb, leb-true, le-leb}
use Rattle.base_lists.specs.Lists.{choose}
use Rattle.base_lists.proofs.Choice.{by_choice, choose_yes, choose_no, split}
use Rattle.base_util.proofs.Ahead.{Begins, begins_less, begins_length, begins_after, Ahead}
use Rattle.record.specs.Format.{Rec, size, encode}
use Rattle.work.specs.Run.{Run, with_station, with_used, with_out, with_code, guard, on, emit, draw, require, to_draw}

module _ {S : Type 0} where
  -- the run, lent other draws
  abbrev pub with_draws : List ℕ → Run S → Run S
  with_draws es r = record { station = r.station; draws = es; used = r.used; room = r.room; out = r.out; code = r.code }

  pub record Uses (f : Run S → Run S) : Type 0 where
    pub strict : (r : Run S) → (r.code ≡ 0 → ⊥) → f r ≡ r
    pub lent : (r : Run S) → (f r).draws ≡ r.draws
    pub onward : (r : Run S) → r.used ≤ (f r).used
    -- no more than are lent
    pub within : (r : Run S) → r.used ≤ length r.draws → (f r).used ≤ length r.draws
    -- where a draw is not missed
    pub same : (r : Run S) (es : List ℕ) → ((f r).code ≡ 5 → ⊥) → Begins (f r).used r.draws es → f (with_draws es r) ≡ with_draws es (f r)

  code_as : {a b : Run S} (c : ℕ) → a ≡ b → a.code ≡ c → b.code ≡ c
  code_as c e z = subst (λ (r : Run S). r.code ≡ c) e z

  pub same_uses : {f g : Run S → Run S} → ((r : Run S) → g r ≡ f r) → Uses f → Uses g
  same_uses {f} {g} q k = record {
    strict = λ r n. q r ∙ k.strict r n;
    lent = λ r. ap (λ (x : Run S). x.draws) (q r) ∙ k.lent r;
    onward = λ r. omega (arith, k.onward r, ap (λ (x : Run S). x.used) (q r));
    within = λ r l. omega (arith, k.within r l, ap (λ (x : Run S). x.used) (q r));
    same = λ r es n b. q (with_draws es r) ∙ (k.same r es (λ c. n (code_as 5 (sym (q r)) c)) (subst (λ (x : Run S). Begins x.used r.draws es) (q r) b) ∙ ap (with_draws es) (sym (q r)));
  }

  pub by_state : (f : S → Run S → Run S) → ((s : S) → Uses (f s)) → Uses (λ r. f r.station r)
  by_state f k = record {
    strict = λ r n. (k r.station).strict r n;
    lent = λ r. (k r.station).lent r;
    onward = λ r. (k r.station).onward r;
    within = λ r l. (k r.station).within r l;
    same = λ r es n b. (k r.station).same r es n b;
  }

  pub uses_none : Uses (λ (r : Run S). r)
  uses_none = record { strict = λ r n. refl; lent = λ r. refl; onward = λ r. omega arith; within = λ r l. l; same = λ r es n b. refl }

  pub uses_either : {f g : Run S → Run S} (t : Bool) → Uses f → Uses g → Uses (λ r. choose t (f r) (g r))
  unfolding choose
  uses_either true k h = k
  uses_either false k h = h

  -- one after the other
  module _ {f g : Run S → Run S} (k : Uses f) (h : Uses g) where
    not_before : (r : Run S) → ((g (f r)).code ≡ 5 → ⊥) → (f r).code ≡ 5 → ⊥
    not_before r n c = n (code_as 5 (sym (h.strict (f r) (λ z. omega (arith, z, c)))) c)

    pub uses_then : Uses (λ r. g (f r))
    uses_then = record {
      strict = λ r n. ap g (k.strict r n) ∙ h.strict r n;
      lent = λ r. h.lent (f r) ∙ k.lent r;
      onward = λ r. omega (arith, k.onward r, h.onward (f r));
      within = λ r l. omega (arith, ap length (k.lent r), h.within (f r) (omega (arith, ap length (k.lent r), k.within r l)));
      same = λ r es n b.
          ap g (k.same r es (not_before r n) (begins_less (f r).used (g (f r)).used r.draws es (h.onward (f r)) b))
          ∙ h.same (f r) es n (subst (λ (l : List ℕ). Begins (g (f r)).used l es) (sym (k.lent r)) b);
    }

  -- a change of a run that is not refused, the same whatever draws are lent
  guard_no : (r x : Run S) → (r.code ≡ 0 → ⊥) → guard r x ≡ r
  unfolding guard
  guard_no r x n = choose_no (eqb r.code 0) x r (ne_eqb r.code 0 n)

  guard_yes : (r x : Run S) → r.code ≡ 0 → guard r x ≡ x
  unfolding guard
  guard_yes r x z = choose_yes (eqb r.code 0) x r (eq-eqb r.code 0 z)

  by_code : (P : Run S → Type 0) (r x : Run S) → P r → P x → P (guard r x)
  unfolding guard
  by_code P r x a b = by_choice P (eqb r.code 0) (λ _. b) (λ _. a)

  guards : (f : Run S → Run S) → ((r : Run S) → (f r).draws ≡ r.draws) → ((r : Run S) → (f r).used ≡ r.used) → ((r : Run S) (es : List ℕ) → f (with_draws es r) ≡ with_draws es (f r)) → Uses (λ r. guard r (f r))
  unfolding guard
  guards f l u s = record {
    strict = λ r n. guard_no r (f r) n;
    lent = λ r. by_code (λ (x : Run S). x.draws ≡ r.draws) r (f r) refl (l r);
    onward = λ r. by_code (λ (x : Run S). r.used ≤ x.used) r (f r) (omega arith) (omega (arith, u r));
    within = λ r l. by_code (λ (x : Run S). x.used ≤ length r.draws) r (f r) l (omega (arith, u r, l));
    same = λ r es n b. split (eqb r.code 0)
        (λ e. let z = eqb-true r.code 0 e in guard_yes (with_draws es r) (f (with_draws es r)) z ∙ (s r es ∙ ap (with_draws es) (sym (guard_yes r (f r) z))))
        (λ e. let z = eqb-false r.code 0 e in guard_no (with_draws es r) (f (with_draws es r)) z ∙ ap (with_draws es) (sym (guard_no r (f r) z)));
  }

  pub uses_on : (f : S → S) → Uses (on f)
  unfolding on
  uses_on f = guards (λ r. with_station (f r.station) r) (λ r. refl) (λ r. refl) (λ r es. refl)

  chosen : (t : Bool) (f g : Run S → Run S) (es : List ℕ) (r : Run S) → f (with_draws es r) ≡ with_draws es (f r) → g (with_draws es r) ≡ with_draws es (g r) → choose t (f (with_draws es r)) (g (with_draws es r)) ≡ with_draws es (choose t (f r) (g r))
  unfolding choose
  chosen true f g es r a b = a
  chosen false f g es r a b = b

  pub uses_require : (c : ℕ) (t : Bool) → Uses (require c t)
  unfolding require
  uses_require c t = guards (λ r. choose t r (with_code c r)) (λ r. by_choice (λ (x : Run S). x.draws ≡ r.draws) t (λ _. refl) (λ _. refl)) (λ r. by_choice (λ (x : Run S). x.used ≡ r.used) t (λ _. refl) (λ _. refl))
      (λ r es. chosen t (λ x. x) (with_code c) es r refl refl)

  pub uses_emit : (e : Rec) → Uses (emit e)
  unfolding emit
  uses_emit e = guards _ (λ r. by_choice (λ (x : Run S). x.draws ≡ r.draws) _ (λ _. refl) (λ _. refl)) (λ r. by_choice (λ (x : Run S). x.used ≡ r.used) _ (λ _. refl) (λ _. refl))
      (λ r es. chosen (leb (length r.out + size e) r.room) (λ x. with_out (x.out ++ encode e) x) (with_code 9) es r refl refl)

  -- draws, whose number and use hang on what is read
  draw_yes : (n : ℕ) (r : Run S) → r.code ≡ 0 → r.used + n ≤ length r.draws → draw n r ≡ with_used (r.used + n) r
  unfolding draw
  draw_yes n r z l = guard_yes r _ z ∙ choose_yes (leb (r.used + n) (length r.draws)) _ _ (le-leb (r.used + n) (length r.draws) l)

  draw_open : (n : ℕ) (r : Run S) → r.code ≡ 0 → ((draw n r).code ≡ 5 → ⊥) → r.used + n ≤ length r.draws
  unfolding draw
  draw_open n r z h =
      split (leb (r.used + n) (length r.draws)) (λ e. leb-true (r.used + n) (length r.draws) e)
      (λ e. absurd (h (code_as 5 (sym (guard_yes r _ z ∙ choose_no (leb (r.used + n) (length r.draws)) (with_used (r.used + n) r) (with_code 5 r) e)) refl)))

  draw_no : (n : ℕ) (r : Run S) → (r.code ≡ 0 → ⊥) → draw n r ≡ r
  unfolding draw
  draw_no n r h = guard_no r _ h

  draw_lent : (n : ℕ) (r : Run S) → (draw n r).draws ≡ r.draws
  unfolding draw
  draw_lent n r = by_code (λ (x : Run S). x.draws ≡ r.draws) r _ refl (by_choice (λ (x : Run S). x.draws ≡ r.draws) _ (λ _. refl) (λ _. refl))

  draw_onward : (n : ℕ) (r : Run S) → r.used ≤ (draw n r).used
  unfolding draw
  draw_onward n r = by_code (λ (x : Run S). r.used ≤ x.used) r _ (omega arith) (by_choice (λ (x : Run S). r.used ≤ x.used) _ (λ _. omega arith) (λ _. omega arith))

  draw_within : (n : ℕ) (r : Run S) → r.used ≤ length r.draws → (draw n r).used ≤ length r.draws
  unfolding draw
  draw_within n r l = by_code (λ (x : Run S). x.used ≤ length r.draws) r _ l (by_choice (λ (x : Run S). x.used ≤ length r.draws) (leb (r.used + n) (length r.draws)) (λ e. leb-true (r.used + n) (length r.draws) e) (λ _. l))

  module _ {A : Type 0} {m : List ℕ → ℕ} {v : List ℕ → A} (a : Ahead m v) (g : A → Run S → Run S) (k : (x : A) → Uses (g x)) where
    abbrev F : Run S → Run S
    F r = g (v (to_draw r)) (draw (m (to_draw r)) r)

    reads_same : (r : Run S) (es : List ℕ) → ((F r).code ≡ 5 → ⊥) → Begins (F r).used r.draws es → r.code ≡ 0 → F (with_draws es r) ≡ with_draws es (F r)
    unfolding to_draw
    reads_same r es n b z =
        let ds = drop r.used r.draws in
        let h = k (v ds) in
        let d = draw (m ds) r in
        let fine : d.code ≡ 5 → ⊥ = (λ c. n (code_as 5 (sym (h.strict d (λ y. omega (arith, y, c)))) c)) in
        let l = draw_open (m ds) r z fine in
        let is = draw_yes (m ds) r z l in
        let there : r.used + m ds ≤ (F r).used = omega (arith, ap (λ (x : Run S). x.used) is, h.onward d) in
        let c = begins_less (r.used + m ds) (F r).used r.draws es there b in
        let e = begins_after r.used (m ds) r.draws es l c in
        let o : m ds ≤ length ds = omega (arith, l, length-drop r.used r.draws) in
        let is_there : draw (m ds) (with_draws es r) ≡ with_draws es d = draw_yes (m ds) (with_draws es r) z (begins_length (r.used + m ds) r.draws es l c) ∙ ap (with_draws es) (sym is) in
        ap (λ (j : ℕ). g (v (drop r.used es)) (draw j (with_draws es r))) (a.as_many ds (drop r.used es) o e)
        ∙ (ap (λ (x : A). g x (draw (m ds) (with_draws es r))) (a.as_read ds (drop r.used es) o e)
        ∙ (ap (g (v ds)) is_there ∙ h.same d es n (subst (λ (y : List ℕ). Begins (F r).used y es) (sym (draw_lent (m ds) r)) b)))

    pub uses_reads : Uses F
    uses_reads = record {
      strict = λ r n. ap (g (v (to_draw r))) (draw_no (m (to_draw r)) r n) ∙ (k (v (to_draw r))).strict r n;
      lent = λ r. (k (v (to_draw r))).lent (draw (m (to_draw r)) r) ∙ draw_lent (m (to_draw r)) r;
      onward = λ r. omega (arith, (k (v (to_draw r))).onward (draw (m (to_draw r)) r), draw_onward (m (to_draw r)) r);
      within = λ r l. let d = draw (m (to_draw r)) r in omega (arith, ap length (draw_lent (m (to_draw r)) r), (k (v (to_draw r))).within d (omega (arith, ap length (draw_lent (m (to_draw r)) r), draw_within (m (to_draw r)) r l)));
      same = λ r es n b. split (eqb r.code 0)
          (λ e. reads_same r es n b (eqb-true r.code 0 e))
          (λ e. let z = eqb-false r.code 0 e in rests (with_draws es r) z ∙ ap (with_draws es) (sym (rests r z)));
    }
      where
        rests : (r : Run S) → (r.code ≡ 0 → ⊥) → F r ≡ r
        rests r z = ap (g (v (to_draw r))) (draw_no (m (to_draw r)) r z) ∙ (k (v (to_draw r))).strict r z
