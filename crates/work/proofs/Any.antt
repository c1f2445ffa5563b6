-- Steps that are not lent the words: how they are proved, and what a step that has words gets of them.
-- Assumes nothing.
use Prim.Native.Nat.{ℕ, ◌+◌, ◌≤◌, ◌<◌}
use mathlib.Core.Path.{◌≡◌, refl, ap, ◌∙◌, subst}
use mathlib.Core.Bool.{Bool, true, false}
use mathlib.Core.List.{List, []}
use native.Mathlib.Omega.{arith}
use borrow.Author.Tests.{eqb-true, eqb-false, leb-true}
use lib.Dec.{eqb, leb}
use lib.ListN.{length, drop}
use Rattle.base_lists.specs.Lists.{choose}
use Rattle.base_lists.proofs.Bytes.{length_overwrite}
use Rattle.base_lists.proofs.Choice.{split, choose_yes, choose_no}
use Rattle.base_util.specs.Chances.{pick_draws, shuffle_draws}
use Rattle.record.specs.Format.{Rec, size, encode}
use Rattle.std.specs.Prelude.{Option, Some, None}
use Rattle.record_writer.specs.Write.{fits, reached, written, Wrote}
use Rattle.work.specs.Run.{Run, guard, emit, draw, to_draw, draw_one_of, draw_shuffle, require}
use Rattle.work.specs.declared.Work.{Work}
use Rattle.work.specs.Work.{Form, work_of, run_of, Changes, DrawsFrom, Tells, Does, ChangesAny, DrawsAny, Reaches, TellsAny, after_record}
use Rattle.work.proofs.Bridge.{require_passed, require_held, require_refused, draw_passed, draw_short, draw_done, emit_passed, emit_done, then_draw, then_tell}

module _ (w : Work) (k : ℕ) (t : Bool) where
  pub required_passed : (w.code ≡ 0 → ⊥) → ChangesAny (require k t) w w
  required_passed h = record { drawn = refl; written = refl; same = (require_passed (work_of w []) tt k t h).same }

  pub required_held : w.code ≡ 0 → t ≡ true → ChangesAny (require k t) w w
  required_held h e = record { drawn = refl; written = refl; same = (require_held (work_of w []) tt k t h e).same }

  pub required_refused : (c : ℕ) → c ≡ k → w.code ≡ 0 → t ≡ false → ChangesAny (require k t) w (record { drawn = w.drawn; written = w.written; code = c })
  required_refused c q h e = rw q (record { drawn = refl; written = refl; same = (require_refused (work_of w []) tt k t h e).same })

module _ (w : Work) (ds : List ℕ) (n : ℕ) (l : w.drawn ≤ length ds) where
  drew_passed : (w.code ≡ 0 → ⊥) → DrawsAny (draw n) w w ds
  drew_passed h = record { drawn = l; written = refl; same = (draw_passed (work_of w []) ds (record { packed = tt; drawn = l }) n h).same }

  drew_short : w.code ≡ 0 → length ds < w.drawn + n → DrawsAny (draw n) w (record { drawn = w.drawn; written = w.written; code = 5 }) ds
  drew_short h f = record { drawn = l; written = refl; same = (draw_short (work_of w []) ds (record { packed = tt; drawn = l }) n h f).same }

  drew : w.code ≡ 0 → w.drawn + n ≤ length ds → DrawsAny (draw n) w (record { drawn = w.drawn + n; written = w.written; code = w.code }) ds
  drew h f = record { drawn = f; written = refl; same = (draw_done (work_of w []) ds (record { packed = tt; drawn = l }) n h f).same }

-- the draws before `next`
module _ (w : Work) (ds : List ℕ) (l : w.drawn ≤ length ds) (next : ℕ) where
  pub reach_passed : (w.code ≡ 0 → ⊥) → Reaches next w w ds
  reach_passed h = record { taken = λ n e. drew_passed w ds n l h }

  pub reach_short : (c : ℕ) → c ≡ 5 → w.code ≡ 0 → length ds < next → Reaches next w (record { drawn = w.drawn; written = w.written; code = c }) ds
  reach_short c q h f = rw q (record { taken = λ n e. drew_short w ds n l h (omega arith) })

  pub reach_next : w.code ≡ 0 → next ≤ length ds → Reaches next w (record { drawn = next; written = w.written; code = w.code }) ds
  reach_next h f = record { taken = λ n e. rw e (drew w ds n l h (omega arith)) }

kept : (a : Option ℕ) (w : Work) → (after_record a w).drawn ≡ w.drawn
unfolding after_record
kept (Some n) w = refl
kept None w = refl

module _ (w : Work) (out : List ℕ) (e : Rec) (l : w.written ≤ length out) where
  within : (a : Option ℕ) (o : List ℕ) → Wrote e w.written out a o → (after_record a w).written ≤ length o
  unfolding reached written fits after_record
  within a o k =
      split (leb (w.written + size e) (length out))
      (λ t. rw (k.answer ∙ choose_yes _ _ _ t, k.bytes ∙ choose_yes _ _ _ t, length_overwrite out w.written (encode e)) (leb-true _ _ t))
      (λ t. rw (k.answer ∙ choose_no _ _ _ t, k.bytes ∙ choose_no _ _ _ t) l)

  pub emitted_passed : (w.code ≡ 0 → ⊥) → TellsAny (emit e) w w out out
  emitted_passed h = record { drawn = refl; written = l; same = (emit_passed w [] out e (record { packed = tt; written = l }) h).same }

  pub emitted : (a : Option ℕ) (o : List ℕ) (r : Work) → w.code ≡ 0 → Wrote e w.written out a o → r ≡ after_record a w → TellsAny (emit e) w r out o
  emitted a o r h k q = record {
    drawn = rw q (kept a w);
    written = rw q (within a o k);
    same = (emit_done w [] out e (record { packed = tt; written = l }) a o r h k q).same;
  }

-- ---- from no state to any

-- a run of no state, with the state s
abbrev put : {S : Type 0} → S → Run Unit → Run S
put s u = record { station = s; draws = u.draws; used = u.used; room = u.room; out = u.out; code = u.code }

module _ {S : Type 0} (s : S) where
  put_choice : (t : Bool) (x y : Run Unit) → put s (choose t x y) ≡ choose t (put s x) (put s y)
  unfolding choose
  put_choice true x y = refl
  put_choice false x y = refl

  -- each of the three steps that read no state
  put_step : (t : Bool) (x y u : Run Unit) → put s (guard u (choose t x y)) ≡ guard (put s u) (choose t (put s x) (put s y))
  unfolding guard
  put_step t x y u = put_choice (eqb u.code 0) (choose t x y) u ∙ ap (λ (z : Run S). choose (eqb u.code 0) z (put s u)) (put_choice t x y)

module _ {S : Type 0} {F : Form S} {w r : Work} (xs : List ℕ) (v : F.Packed xs) where
  pub required_at : (k : ℕ) (t : Bool) → ChangesAny (require k t) w r → Changes F (require k t) (work_of w xs) (work_of r xs)
  unfolding run_of require
  required_at k t c = record { packed = v; drawn = c.drawn; written = c.written; same = λ ds out. ap (put (F.unpack xs)) (c.same ds out) ∙ put_step (F.unpack xs) t _ _ _ }

  pub told_at : (e : Rec) {out o : List ℕ} → TellsAny (emit e) w r out o → Tells F (emit e) (work_of w xs) (work_of r xs) out o
  unfolding run_of emit
  told_at e c = record { room = record { packed = v; written = c.written }; drawn = c.drawn; same = λ ds. ap (put (F.unpack xs)) (c.same ds) ∙ put_step (F.unpack xs) _ _ _ _ }

  pub drawn_at : (n : ℕ) {ds : List ℕ} → DrawsAny (draw n) w r ds → DrawsFrom F (draw n) (work_of w xs) (work_of r xs) ds
  unfolding run_of draw
  drawn_at n c = record { ready = record { packed = v; drawn = c.drawn }; written = c.written; same = λ out. ap (put (F.unpack xs)) (c.same out) ∙ put_step (F.unpack xs) _ _ _ _ }

  pub one_of_at : (n : ℕ) {ds : List ℕ} → DrawsAny (draw_one_of n) w r ds → DrawsFrom F (draw_one_of n) (work_of w xs) (work_of r xs) ds
  unfolding run_of draw draw_one_of to_draw
  one_of_at n c = record { ready = record { packed = v; drawn = c.drawn }; written = c.written; same = λ out. ap (put (F.unpack xs)) (c.same out) ∙ put_step (F.unpack xs) _ _ _ _ }

  pub shuffle_at : (l : List ℕ) {ds : List ℕ} → DrawsAny (draw_shuffle l) w r ds → DrawsFrom F (draw_shuffle l) (work_of w xs) (work_of r xs) ds
  unfolding run_of draw draw_shuffle to_draw
  shuffle_at l c = record { ready = record { packed = v; drawn = c.drawn }; written = c.written; same = λ out. ap (put (F.unpack xs)) (c.same out) ∙ put_step (F.unpack xs) _ _ _ _ }

-- ---- in a row of steps that are lent both

module _ {S : Type 0} {F : Form S} {a r : Work} {xs ds o : List ℕ} {g : Run S} where
  pub then_drawn : (n : ℕ) → DrawsAny (draw n) a r ds → Does F (work_of a xs) ds o g → Does F (work_of r xs) ds o (draw n g)
  then_drawn n k d = then_draw (drawn_at xs d.fine.ready.packed n k) d

  pub then_one_of : (n : ℕ) → DrawsAny (draw_one_of n) a r ds → Does F (work_of a xs) ds o g → Does F (work_of r xs) ds o (draw_one_of n g)
  then_one_of n k d = then_draw (one_of_at xs d.fine.ready.packed n k) d

  pub then_shuffle : (l : List ℕ) → DrawsAny (draw_shuffle l) a r ds → Does F (work_of a xs) ds o g → Does F (work_of r xs) ds o (draw_shuffle l g)
  then_shuffle l k d = then_draw (shuffle_at xs d.fine.ready.packed l k) d

  pub then_tell_any : (e : Rec) {o₂ : List ℕ} → TellsAny (emit e) a r o o₂ → Does F (work_of a xs) ds o g → Does F (work_of r xs) ds o₂ (emit e g)
  then_tell_any e k d = then_tell (told_at xs d.fine.ready.packed e k) d

-- ---- the draws that a delay, a choice and a shuffle take

module _ (w r : Work) (ds : List ℕ) where
  pub drew_one : Reaches (w.drawn + 1) w r ds → DrawsAny (draw 1) w r ds
  drew_one k = k.taken 1 refl

  pub drew_one_of : (n next : ℕ) → next ≡ w.drawn + pick_draws n (drop w.drawn ds) → Reaches next w r ds → DrawsAny (draw_one_of n) w r ds
  unfolding draw_one_of to_draw run_of
  drew_one_of n next e k =
      let d = k.taken (pick_draws n (drop w.drawn ds)) e in
      record { drawn = d.drawn; written = d.written; same = λ out. d.same out }

  -- nothing to choose from takes no draw
  pub drew_none_of : (n : ℕ) → w.drawn ≤ length ds → n ≡ 0 → DrawsAny (draw_one_of n) w w ds
  unfolding draw_one_of pick_draws choose
  drew_none_of n l e =
      let z : w.drawn + 0 ≡ w.drawn = omega arith in
      rw e (split (eqb w.code 0)
      (λ t. subst (λ (k : ℕ). DrawsAny (draw 0) w (record { drawn = k; written = w.written; code = w.code }) ds) z (drew w ds 0 l (eqb-true _ _ t) (omega arith)))
      (λ t. drew_passed w ds 0 l (eqb-false _ _ t)))

  pub drew_shuffle : (l : List ℕ) (next : ℕ) → next ≡ w.drawn + shuffle_draws (drop w.drawn ds) l → Reaches next w r ds → DrawsAny (draw_shuffle l) w r ds
  unfolding draw_shuffle to_draw run_of
  drew_shuffle l next e k =
      let d = k.taken (shuffle_draws (drop w.drawn ds) l) e in
      record { drawn = d.drawn; written = d.written; same = λ out. d.same out }
