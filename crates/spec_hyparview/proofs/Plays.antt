-- Steps that read draws by delays, choices and shuffles alone, so that a run without the draws passed over goes on as one with them.
-- Assumes nothing.
use mathlib.Core.Path.{◌≡◌, refl, sym, ap, subst, ◌∙◌}
use mathlib.Core.Bool.{Bool, true, false}
use mathlib.Core.List.{List, [], ◌++◌, append_assoc, append-nil}
use Prim.Native.Nat.{ℕ, ◌+◌, ◌≤◌, ◌<◌}
use native.Mathlib.Omega.{arith}
use lib.ListN.{length, drop, length-append, length-drop}
use lib.Seq.{drop-drop, drop-append_seam, drop-append-add}
use lib.Dec.{leb, eqb}
use borrow.Author.Tests.{eqb-true, eqb-false, eq-eqb, ne_eqb, leb-true, leb-false, le-leb, lt-leb}
use Rattle.base_lists.specs.Lists.{choose}
use Rattle.base_lists.specs.Tests.{All}
use Rattle.base_lists.proofs.Choice.{by_choice, choose_yes, choose_no, split}
use Rattle.record.specs.Format.{Rec, size, encode}
use Rattle.record.proofs.Format.{length_encode}
use Rattle.spec_hyparview.specs.Station.{Station}
use Rattle.spec_hyparview.specs.Invariant.{Roomy}
use Rattle.spec_hyparview.specs.Run.{Run, with_used, with_out, with_code, guard, on, emit, draw, require}
use Rattle.spec_hyparview.proofs.Among.{all_append}
use Rattle.spec_hyparview.proofs.Readers.{Which, whole, kept, small, Sure, Parts, part, joined, part_both, part_joined, no_parts, part_none, Reading, took, wants}
use Rattle.spec_hyparview.proofs.Readers as R

-- two runs that differ in draws, and in what the records written hold
pub record Like (r w : Run) : Type 0 where
  pub station : w.station ≡ r.station
  pub room : w.room ≡ r.room
  pub written : length w.out ≡ length r.out
  pub code : w.code ≡ r.code

pub like_self : (r : Run) → Like r r
like_self r = record { station = refl; room = refl; written = refl; code = refl }

-- the draws ds are left
pub record At (r : Run) (ds : List ℕ) : Type 0 where
  pub within : r.used ≤ length r.draws
  pub left : drop r.used r.draws ≡ ds

pub record Both (r w : Run) : Type 0 where
  pub rest : List ℕ
  pub here : At r rest
  pub there : At w rest

pub record Alike (r w : Run) : Type 0 where
  pub like : Like r w
  pub both : r.code ≡ 0 → Both r w

like_of : {a b x y : Run} → a ≡ x → b ≡ y → Like x y → Like a b
like_of {a} {b} {x} {y} p q l = subst (λ (m : Run). Like m b) (sym p) (subst (λ (m : Run). Like x m) (sym q) l)

at_of : {a x : Run} {ds : List ℕ} → a ≡ x → At x ds → At a ds
at_of {ds = ds} p k = subst (λ (m : Run). At m ds) (sym p) k

alike_of : {a b x y : Run} → a ≡ x → b ≡ y → Alike x y → Alike a b
alike_of {a} {b} {x} {y} p q l = subst (λ (m : Run). Alike m b) (sym p) (subst (λ (m : Run). Alike x m) (sym q) l)

like_two : {r w z : Run} → Like r w → Like r z → Like w z
like_two l m = record { station = m.station ∙ sym l.station; room = m.room ∙ sym l.room; written = m.written ∙ sym l.written; code = m.code ∙ sym l.code }

code_of : {a x : Run} {c : ℕ} → a ≡ x → x.code ≡ c → a.code ≡ c
code_of p e = ap (λ (m : Run). m.code) p ∙ e

-- f from r on, with ds left: it takes some of them, and does the same with what is kept of these; or it takes all and wants more, or a view has grown too large
pub data Follows (f : Run → Run) (r : Run) (ds : List ℕ) : Type 0 where
  goes : (p : Parts) (t : List ℕ) → ds ≡ p.whole_of ++ t → ((f r).code ≡ 5 → ⊥)
      → ((i : Which) (w : Run) (u : List ℕ) → Like r w → At w (part i p ++ u) → Like (f r) (f w) × At (f w) u) → Follows f r ds
  ends : (p : Parts) → ds ≡ p.whole_of → ((i : Which) (w : Run) → Like r w → At w (part i p) → (f w).code ≡ 5)
      → ((u : List ℕ) (w z : Run) → Like r w → Like r z → At w (p.whole_of ++ u) → At z (p.kept_of ++ u) → Alike (f w) (f z)) → Follows f r ds
  crowded : (js : List ℕ) → All Sure js → ((w : Run) → Like r w → At w js → ((f w).code ≡ 5) × (Roomy (f w).station → ⊥)) → Follows f r ds

pub record Plays (f : Run → Run) : Type 0 where
  pub strict : (r : Run) → (r.code ≡ 0 → ⊥) → f r ≡ r
  pub even : (r w : Run) → r.code ≡ 0 → Alike r w → Alike (f r) (f w)
  pub follows : (r : Run) (ds : List ℕ) → r.code ≡ 0 → At r ds → Follows f r ds

five_not : (r : Run) → r.code ≡ 5 → r.code ≡ 0 → ⊥
five_not r e z = omega (arith, e, z)

pub even_any : {f : Run → Run} → Plays f → (r w : Run) → Alike r w → Alike (f r) (f w)
even_any k r w a =
    split (eqb r.code 0) (λ e. k.even r w (eqb-true r.code 0 e) a)
    (λ e. let n = eqb-false r.code 0 e in alike_of (k.strict r n) (k.strict w (λ y. n (sym a.like.code ∙ y))) a)

-- the same function
same_follows : {f g : Run → Run} (r : Run) (ds : List ℕ) → ((w : Run) → Like r w → g w ≡ f w) → Follows f r ds → Follows g r ds
same_follows {f} {g} r ds q (goes p t e n k) =
    goes p t e (λ c. n (code_of (sym (q r (like_self r))) c)) (λ i w u l a. let x = k i w u l a in (like_of (q r (like_self r)) (q w l) x.0, at_of (q w l) x.1))
same_follows {f} {g} r ds q (ends p e k h) = ends p e (λ i w l a. code_of (q w l) (k i w l a)) (λ u w z l m a b. alike_of (q w l) (q z m) (h u w z l m a b))
same_follows {f} {g} r ds q (crowded js s k) =
    crowded js s (λ w l a. let x = k w l a in (code_of (q w l) x.0, subst (λ (m : Run). Roomy m.station → ⊥) (sym (q w l)) x.1))

pub same_plays : {f g : Run → Run} → ((w : Run) → g w ≡ f w) → Plays f → Plays g
same_plays q k = record {
  strict = λ r n. q r ∙ k.strict r n;
  even = λ r w z a. alike_of (q r) (q w) (k.even r w z a);
  follows = λ r ds z a. same_follows r ds (λ w l. q w) (k.follows r ds z a);
}

-- f by what the station is
pub by_station : (f : Station → Run → Run) → ((s : Station) → Plays (f s)) → Plays (λ r. f r.station r)
by_station f k = record {
  strict = λ r n. (k r.station).strict r n;
  even = λ r w z a. alike_of refl (ap (λ (s : Station). f s w) a.like.station) ((k r.station).even r w z a);
  follows = λ r ds z a. same_follows r ds (λ w l. ap (λ (s : Station). f s w) l.station) ((k r.station).follows r ds z a);
}

pub idle : Plays (λ r. r)
unfolding no_parts
idle = record {
  strict = λ r n. refl;
  even = λ r w z a. a;
  follows = λ r ds z a. goes no_parts ds refl (λ c. omega (arith, c, z)) (λ i w u l b. (l, subst (At w) (part_none i u) b));
}

pub either : {f g : Run → Run} (b : Bool) → Plays f → Plays g → Plays (λ r. choose b (f r) (g r))
unfolding choose
either true k h = k
either false k h = h

-- one after the other
record Step (F g f : Run → Run) (r w : Run) (u : List ℕ) : Type 0 where
  same : F w ≡ g (f w)
  like : Like (f r) (f w)
  at : At (f w) u

module _ {F g : Run → Run} (f : Run → Run) (r : Run) (ds : List ℕ) (p : Parts) (t : List ℕ) (e : ds ≡ p.whole_of ++ t) (k : (i : Which) (w : Run) (u : List ℕ) → Like r w → At w (part i p ++ u) → Step F g f r w u) (b : Step F g f r r t) where
  extend : Follows g (f r) t → Follows F r ds
  unfolding part joined
  extend (goes q t2 e2 n h) =
      goes (joined p q) t2 (e ∙ (ap (λ (l : List ℕ). p.whole_of ++ l) e2 ∙ sym (append_assoc p.whole_of q.whole_of t2))) (λ c. n (code_of (sym b.same) c))
      (λ i w u l a. let s = k i w (part i q ++ u) l (subst (At w) (part_joined i p q u) a) in
      let x = h i (f w) u s.like s.at in (like_of b.same s.same x.0, at_of s.same x.1))
  extend (ends q e2 h m) =
      ends (joined p q) (e ∙ ap (λ (l : List ℕ). p.whole_of ++ l) e2)
      (λ i w l a. let s = k i w (part i q) l (subst (At w) (part_both i p q) a) in code_of s.same (h i (f w) s.like s.at))
      (λ u w z l y a c.
      let s = k whole w (q.whole_of ++ u) l (subst (At w) (append_assoc p.whole_of q.whole_of u) a) in
      let v = k kept z (q.kept_of ++ u) y (subst (At z) (append_assoc p.kept_of q.kept_of u) c) in
      alike_of s.same v.same (m u (f w) (f z) s.like v.like s.at v.at))
  extend (crowded js s h) =
      crowded (p.small_of ++ js) (all_append Sure p.small_of js p.sure s)
      (λ w l a. let s = k small w js l a in let x = h (f w) s.like s.at in (code_of s.same x.0, subst (λ (m : Run). Roomy m.station → ⊥) (sym s.same) x.1))

  chain : Plays g → ((f r).code ≡ 5 → ⊥) → Follows F r ds
  chain h n5 =
      split (eqb (f r).code 0) (λ z. extend (h.follows (f r) t (eqb-true (f r).code 0 z) b.at))
      (λ z. let n = eqb-false (f r).code 0 z in
      goes p t e (λ c. n5 (code_of (sym (b.same ∙ h.strict (f r) n)) c))
      (λ i w u l a. let s = k i w u l a in let y = s.same ∙ h.strict (f w) (λ o. n (sym s.like.code ∙ o)) in
      (like_of (b.same ∙ h.strict (f r) n) y s.like, at_of y s.at)))

module _ {f g : Run → Run} (k : Plays f) (h : Plays g) where
  then_follows : (r : Run) (ds : List ℕ) → At r ds → Follows f r ds → Follows (λ w. g (f w)) r ds
  unfolding part
  then_follows r ds a (goes p t e n m) =
      let step : (i : Which) (w : Run) (u : List ℕ) → Like r w → At w (part i p ++ u) → Step (λ x. g (f x)) g f r w u = (λ i w u l b. let x = m i w u l b in record { same = refl; like = x.0; at = x.1 }) in
      chain f r ds p t e step (step whole r t (like_self r) (subst (At r) e a)) h n
  then_follows r ds a (ends p e m n) =
      ends p e (λ i w l b. let c = m i w l b in code_of (h.strict (f w) (λ z. five_not (f w) c z)) c) (λ u w z l y b c. even_any h (f w) (f z) (n u w z l y b c))
  then_follows r ds a (crowded js s m) =
      crowded js s (λ w l b. let x = m w l b in let y = h.strict (f w) (λ z. five_not (f w) x.0 z) in (code_of y x.0, subst (λ (v : Run). Roomy v.station → ⊥) (sym y) x.1))

  pub thens : Plays (λ r. g (f r))
  thens = record {
    strict = λ r n. ap g (k.strict r n) ∙ h.strict r n;
    even = λ r w z a. even_any h (f r) (f w) (k.even r w z a);
    follows = λ r ds z a. then_follows r ds a (k.follows r ds z a);
  }

-- changes of a run that take no draws: what is left stays, a refused run stays, and code 5 is not given
record Quiet (f : Run → Run) : Type 0 where
  rests : (r : Run) → (r.code ≡ 0 → ⊥) → f r ≡ r
  leaves : (r : Run) (ds : List ℕ) → At r ds → At (f r) ds
  alike : (r w : Run) → Like r w → Like (f r) (f w)
  not_five : (r : Run) → r.code ≡ 0 → (f r).code ≡ 5 → ⊥

quiet : {f : Run → Run} → Quiet f → Plays f
unfolding no_parts
quiet {f} k = record {
  strict = k.rests;
  even = λ r w z a. let b = a.both z in record { like = k.alike r w a.like; both = λ _. record { rest = b.rest; here = k.leaves r b.rest b.here; there = k.leaves w b.rest b.there } };
  follows = λ r ds z a. goes no_parts ds refl (k.not_five r z) (λ i w u l b. (k.alike r w l, k.leaves w u (subst (At w) (part_none i u) b)));
}

guard_no : (r x : Run) → (r.code ≡ 0 → ⊥) → guard r x ≡ r
unfolding guard
guard_no r x n = choose_no (eqb r.code 0) x r (ne_eqb r.code 0 n)

guard_yes : (r x : Run) → r.code ≡ 0 → guard r x ≡ x
unfolding guard
guard_yes r x z = choose_yes (eqb r.code 0) x r (eq-eqb r.code 0 z)

-- by the code: the run as it was, or x
by_code : (P : Run → Run → Type 0) {x y : Run} (r w : Run) → Like r w → (P r w) → (r.code ≡ 0 → P x y) → P (guard r x) (guard w y)
by_code P {x} {y} r w l a b =
    split (eqb r.code 0)
    (λ e. let z = eqb-true r.code 0 e in subst (λ (m : Run). P m (guard w y)) (sym (guard_yes r x z)) (subst (λ (m : Run). P x m) (sym (guard_yes w y (l.code ∙ z))) (b z)))
    (λ e. let n = eqb-false r.code 0 e in subst (λ (m : Run). P m (guard w y)) (sym (guard_no r x n)) (subst (λ (m : Run). P r m) (sym (guard_no w y (λ o. n (sym l.code ∙ o)))) a))

pub changes : (f : Station → Station) → Plays (on f)
unfolding on guard
changes f = quiet (record {
  rests = λ r n. guard_no r _ n;
  leaves = λ r ds a. by_choice (λ (m : Run). At m ds) (eqb r.code 0) (λ _. record { within = a.within; left = a.left }) (λ _. a);
  alike = λ r w l. by_code Like r w l l (λ z. record { station = ap f l.station; room = l.room; written = l.written; code = l.code });
  not_five = λ r z c. omega (arith, z, code_of (sym (guard_yes r _ z)) c);
})

tested : (c : ℕ) (t : Bool) {r w : Run} → Like r w → Like (choose t r (with_code c r)) (choose t w (with_code c w))
unfolding choose
tested c true l = l
tested c false l = record { station = l.station; room = l.room; written = l.written; code = refl }

-- a test that refuses with another code than 5
pub tests : (c : ℕ) (b : Bool) → (c ≡ 5 → ⊥) → Plays (require c b)
unfolding require guard
tests c b n5 = quiet (record {
  rests = λ r n. guard_no r _ n;
  leaves = λ r ds a. by_choice (λ (m : Run). At m ds) (eqb r.code 0) (λ _. by_choice (λ (m : Run). At m ds) b (λ _. a) (λ _. record { within = a.within; left = a.left })) (λ _. a);
  alike = λ r w l. by_code Like r w l l (λ z. tested c b l);
  not_five = λ r z c5. by_choice (λ (m : Run). m.code ≡ 5 → ⊥) b (λ _ y. omega (arith, z, y)) (λ _ y. n5 y) (code_of (sym (guard_yes r _ z)) c5);
})

-- a record, of the same size in like runs
module _ (e d : Rec) (q : size d ≡ size e) where
  fits : (t : Bool) (r w : Run) → Like r w → Like (choose t (with_out (r.out ++ encode e) r) (with_code 9 r)) (choose t (with_out (w.out ++ encode d) w) (with_code 9 w))
  unfolding choose
  fits true r w l = record { station = l.station; room = l.room; written = omega (arith, l.written, q, length-append w.out (encode d), length-append r.out (encode e), length_encode e, length_encode d); code = l.code }
  fits false r w l = record { station = l.station; room = l.room; written = l.written; code = refl }

  like_emit : (r w : Run) → Like r w → Like (emit e r) (emit d w)
  unfolding emit
  like_emit r w l = by_code Like r w l l (λ z.
      let n = length r.out + size e in
      let same : leb (length w.out + size d) w.room ≡ leb n r.room = ap (λ (k : ℕ). leb k w.room) (omega (arith, l.written, q)) ∙ ap (leb n) l.room in
      subst (λ (t : Bool). Like (choose (leb n r.room) (with_out (r.out ++ encode e) r) (with_code 9 r)) (choose t (with_out (w.out ++ encode d) w) (with_code 9 w))) (sym same) (fits (leb n r.room) r w l))

module _ (e : Rec) where
  at_emit : (r : Run) (ds : List ℕ) → At r ds → At (emit e r) ds
  unfolding emit guard
  at_emit r ds a = by_choice (λ (m : Run). At m ds) (eqb r.code 0) (λ _. by_choice (λ (m : Run). At m ds) _ (λ _. record { within = a.within; left = a.left }) (λ _. record { within = a.within; left = a.left })) (λ _. a)

  emit_rests : (r : Run) → (r.code ≡ 0 → ⊥) → emit e r ≡ r
  unfolding emit
  emit_rests r n = guard_no r _ n

  emit_open : (r : Run) → (emit e r).code ≡ 0 → r.code ≡ 0
  unfolding emit guard
  emit_open r = by_choice (λ (m : Run). m.code ≡ 0 → r.code ≡ 0) (eqb r.code 0) (λ z _. eqb-true r.code 0 z) (λ z y. y)

  emit_five : (r : Run) → (emit e r).code ≡ 5 → r.code ≡ 5
  unfolding emit guard
  emit_five r = by_choice (λ (m : Run). m.code ≡ 5 → r.code ≡ 5) (eqb r.code 0) (λ z. by_choice (λ (m : Run). m.code ≡ 5 → r.code ≡ 5) _ (λ _ y. y) (λ _ y. absurd (omega (arith, y)))) (λ z y. y)

module _ {f : Run → Run} (k : Plays f) (e : Run → Rec) (q : (r w : Run) → w.station ≡ r.station → size (e w) ≡ size (e r)) where
  tell_follows : (r : Run) (ds : List ℕ) → Follows f r ds → Follows (λ w. emit (e w) (f w)) r ds
  tell_follows r ds (goes p t c n m) =
      goes p t c (λ y. n (emit_five (e r) (f r) y)) (λ i w u l a. let x = m i w u l a in (like_emit (e r) (e w) (q r w l.station) (f r) (f w) x.0, at_emit (e w) (f w) u x.1))
  tell_follows r ds (ends p c m n) =
      ends p c (λ i w l a. let y = m i w l a in code_of (emit_rests (e w) (f w) (five_not (f w) y)) y)
      (λ u w z l y a b. alike_emit w z (y.station ∙ sym l.station) (n u w z l y a b))
    where
      alike_emit : (w z : Run) → z.station ≡ w.station → Alike (f w) (f z) → Alike (emit (e w) (f w)) (emit (e z) (f z))
      alike_emit w z s a = record {
        like = like_emit (e w) (e z) (q w z s) (f w) (f z) a.like;
        both = λ o. let b = a.both (emit_open (e w) (f w) o) in record { rest = b.rest; here = at_emit (e w) (f w) b.rest b.here; there = at_emit (e z) (f z) b.rest b.there };
      }
  tell_follows r ds (crowded js s m) =
      crowded js s (λ w l a. let x = m w l a in let y = emit_rests (e w) (f w) (five_not (f w) x.0) in (code_of y x.0, subst (λ (v : Run). Roomy v.station → ⊥) (sym y) x.1))

  pub tells : Plays (λ r. emit (e r) (f r))
  tells = record {
    strict = λ r n. ap (emit (e r)) (k.strict r n) ∙ emit_rests (e r) r n;
    even = λ r w z a. let x = k.even r w z a in record {
      like = like_emit (e r) (e w) (q r w a.like.station) (f r) (f w) x.like;
      both = λ o. let b = x.both (emit_open (e r) (f r) o) in record { rest = b.rest; here = at_emit (e r) (f r) b.rest b.here; there = at_emit (e w) (f w) b.rest b.there };
    };
    follows = λ r ds z a. tell_follows r ds (k.follows r ds z a);
  }

-- a record that does not hang on the run
pub told : {f : Run → Run} → Plays f → (e : Rec) → Plays (λ r. emit e (f r))
told k e = tells k (λ r. e) (λ r w s. refl)

-- draws
draw_rests : (n : ℕ) (r : Run) → (r.code ≡ 0 → ⊥) → draw n r ≡ r
unfolding draw
draw_rests n r h = guard_no r _ h

module _ (n : ℕ) (r : Run) (ds : List ℕ) (z : r.code ≡ 0) (a : At r ds) where
  counts : length r.draws ≡ r.used + length ds
  counts = omega (arith, a.within, length-drop r.used r.draws, ap length a.left)

  draw_fits : n ≤ length ds → draw n r ≡ with_used (r.used + n) r
  unfolding draw
  draw_fits l = guard_yes r _ z ∙ choose_yes (leb (r.used + n) (length r.draws)) _ _ (le-leb (r.used + n) (length r.draws) (omega (arith, l, counts)))

  draw_short : length ds < n → draw n r ≡ with_code 5 r
  unfolding draw
  draw_short l = guard_yes r _ z ∙ choose_no (leb (r.used + n) (length r.draws)) _ _ (lt-leb (r.used + n) (length r.draws) (omega (arith, l, counts)))

  at_drawn : n ≤ length ds → At (with_used (r.used + n) r) (drop n ds)
  at_drawn l = record { within = omega (arith, l, counts); left = sym (drop-drop n r.used r.draws) ∙ ap (drop n) a.left }

like_used : (m n : ℕ) {r w : Run} → Like r w → Like (with_used m r) (with_used n w)
like_used m n l = record { station = l.station; room = l.room; written = l.written; code = l.code }

-- what is left after n draws of the one and m of the other is the same, or both are refused
alike_draw : (m n : ℕ) (r w : Run) (cs bs ds : List ℕ) → r.code ≡ 0 → Like r w → At r cs → At w bs → (k : ℕ) → m + length ds ≡ length cs + k → n + length ds ≡ length bs + k → (k ≤ length ds → (drop m cs ≡ drop k ds) × (drop n bs ≡ drop k ds)) → Alike (draw m r) (draw n w)
alike_draw m n r w cs bs ds z l a b k e f h =
    let y : w.code ≡ 0 = l.code ∙ z in
    split (leb k (length ds))
    (λ t. let c = leb-true k (length ds) t in let x = h c in
    alike_of (draw_fits m r cs z a (omega (arith, c, e))) (draw_fits n w bs y b (omega (arith, c, f)))
    (record { like = like_used (r.used + m) (w.used + n) l; both = λ _. record { rest = drop k ds; here = subst (At (with_used (r.used + m) r)) x.0 (at_drawn m r cs z a (omega (arith, c, e))); there = subst (At (with_used (w.used + n) w)) x.1 (at_drawn n w bs y b (omega (arith, c, f))) } }))
    (λ t. let c = leb-false k (length ds) t in
    alike_of (draw_short m r cs z a (omega (arith, c, e))) (draw_short n w bs y b (omega (arith, c, f)))
    (record { like = record { station = l.station; room = l.room; written = l.written; code = refl }; both = λ o. absurd (omega (arith, o)) }))

module _ {A : Type 0} (m : Station → List ℕ → ℕ) (v : Station → List ℕ → A) (rd : (s : Station) (ds : List ℕ) → Reading (m s) (v s) (Roomy s → ⊥) ds) (g : Station → A → Run → Run) (k : (s : Station) (a : A) → Plays (g s a)) where
  abbrev F : Run → Run
  F r = g r.station (v r.station (drop r.used r.draws)) (draw (m r.station (drop r.used r.draws)) r)

  met : (s : Station) (w : Run) (ds : List ℕ) → w.station ≡ s → At w ds → F w ≡ g s (v s ds) (draw (m s ds) w)
  met s w ds e a =
      ap (λ (x : Station). g x (v x (drop w.used w.draws)) (draw (m x (drop w.used w.draws)) w)) e
      ∙ ap (λ (l : List ℕ). g s (v s l) (draw (m s l) w)) a.left

  -- and by what is read
  met_as : (s : Station) (w : Run) (ds : List ℕ) (n : ℕ) (a : A) → w.station ≡ s → At w ds → m s ds ≡ n → v s ds ≡ a → F w ≡ g s a (draw n w)
  met_as s w ds n a e b p q = met s w ds e b ∙ (ap (λ (x : A). g s x (draw (m s ds) w)) q ∙ ap (λ (j : ℕ). g s a (draw j w)) p)

  refused : (s : Station) (a : A) (w : Run) (n : ℕ) (ds : List ℕ) → w.code ≡ 0 → At w ds → length ds < n → g s a (draw n w) ≡ with_code 5 w
  refused s a w n ds z b l = ap (g s a) (draw_short n w ds z b l) ∙ (k s a).strict (with_code 5 w) (λ o. omega (arith, o))

  record Taken (s : Station) (w : Run) (c u : List ℕ) : Type 0 where
    is : draw (m s (drop w.used w.draws)) w ≡ with_used (w.used + length c) w
    at : At (with_used (w.used + length c) w) u

  taken : (s : Station) (w : Run) (c u : List ℕ) → w.code ≡ 0 → At w (c ++ u) → m s (c ++ u) ≡ length c → Taken s w c u
  taken s w c u z b e =
      let l : length c ≤ length (c ++ u) = omega (arith, length-append c u) in
      record {
        is = ap (λ (j : ℕ). draw j w) (ap (m s) b.left ∙ e) ∙ draw_fits (length c) w (c ++ u) z b l;
        at = subst (At (with_used (w.used + length c) w)) (drop-append_seam c u) (at_drawn (length c) w (c ++ u) z b l);
      }

  read_follows : (r : Run) (ds : List ℕ) → r.code ≡ 0 → At r ds → Reading (m r.station) (v r.station) (Roomy r.station → ⊥) ds → Follows F r ds
  unfolding part All
  read_follows r ds z b (took p t a e f h) =
      let s = r.station in
      let f0 : Run → Run = (λ w. draw (m s (drop w.used w.draws)) w) in
      let base = taken s r p.whole_of t z (subst (At r) e b) (f whole t) in
      let step : (i : Which) (w : Run) (u : List ℕ) → Like r w → At w (part i p ++ u) → Step F (g s a) f0 r w u =
      (λ i w u l c. let x = taken s w (part i p) u (l.code ∙ z) c (f i u) in record {
        same = ap (λ (y : Station). g y (v y (drop w.used w.draws)) (draw (m y (drop w.used w.draws)) w)) l.station ∙ ap (λ (y : A). g s y (f0 w)) (ap (v s) c.left ∙ h i u);
        like = like_of base.is x.is (like_used _ _ l);
        at = at_of x.is x.at;
      }) in
      chain f0 r ds p t e step (step whole r t (like_self r) (subst (At r) e b)) (k s a) (λ c. omega (arith, z, code_of (sym base.is) c))
  read_follows r ds z b (wants p n a e f h o) =
      let s = r.station in
      ends p e
      (λ i w l c. let y : w.code ≡ 0 = l.code ∙ z in
      let c' = subst (At w) (sym (append-nil (part i p))) c in
      code_of (met_as s w (part i p ++ []) (length (part i p) + n []) (a []) l.station c' (f i []) (h i []) ∙ refused s (a []) w (length (part i p) + n []) (part i p) y c (omega (arith, o []))) refl)
      (λ u w x l j c d.
      alike_of (met_as s w (p.whole_of ++ u) (length p.whole_of + n u) (a u) l.station c (f whole u) (h whole u)) (met_as s x (p.kept_of ++ u) (length p.kept_of + n u) (a u) j.station d (f kept u) (h kept u))
      (even_any (k s (a u)) _ _
      (alike_draw (length p.whole_of + n u) (length p.kept_of + n u) w x (p.whole_of ++ u) (p.kept_of ++ u) u (l.code ∙ z) (like_two l j) c d (n u)
      (omega (arith, length-append p.whole_of u)) (omega (arith, length-append p.kept_of u)) (λ _. (drop-append-add p.whole_of u (n u), drop-append-add p.kept_of u (n u))))))
  read_follows r ds z b (R.crowded c o) =
      let s = r.station in
      crowded [] tt (λ w l d. let y = met s w [] l.station d ∙ refused s (v s []) w (m s []) [] (l.code ∙ z) d o in
      (code_of y refl, subst (λ (q : Run). Roomy q.station → ⊥) (sym y) (subst (λ (q : Station). Roomy q → ⊥) (sym l.station) c)))

  pub reads : Plays F
  reads = record {
    strict = λ r n. ap (g r.station _) (draw_rests _ r n) ∙ (k r.station _).strict r n;
    even = λ r w z a. let b = a.both z in let s = r.station in
        alike_of (met s r b.rest refl b.here) (met s w b.rest a.like.station b.there)
        (even_any (k s (v s b.rest)) _ _ (alike_draw (m s b.rest) (m s b.rest) r w b.rest b.rest b.rest z a.like b.here b.there (m s b.rest) (omega arith) (omega arith) (λ _. (refl, refl))));
    follows = λ r ds z a. read_follows r ds z a (rd r.station ds);
  }
