-- The rules by which steps keep the invariant: each primitive change of a run, and what it may spend.
-- Assumes nothing.
use mathlib.Core.Path.{◌≡◌, refl, sym, ap, subst}
use mathlib.Core.Bool.{Bool, true, false}
use mathlib.Core.List.{List, ◌∷◌, ◌++◌}
use Prim.Native.Nat.{ℕ, ◌+◌, ◌≤◌, ◌<◌}
use native.Mathlib.Omega.{arith}
use lib.ListN.{length, take, drop, length-append, length-drop}
use lib.Seq.{take-add}
use lib.Dec.{leb, eqb}
use borrow.Author.Tests.{eqb-true, eqb-false, eq-eqb, ne_eqb, leb-true, leb-false}
use Rattle.base_lists.specs.Lists.{choose}
use Rattle.base_lists.proofs.Choice.{by_choice, choose_yes}
use Rattle.base_timing.specs.declared.Config.{Config}
use Rattle.base_util.specs.Chances.{sure}
use Rattle.base_util.proofs.Chances.{Costs, sure_append, sure_at, one_costs, pick_costs}
use Rattle.record.specs.Format.{Rec, size, encode}
use Rattle.record.proofs.Format.{length_encode}
use Rattle.spec_hyparview.specs.Station.{Station, peers_end}
use Rattle.spec_hyparview.specs.Run.{Run, with_station, with_code, guard, on, emit, draw, to_draw, draw_one_of, require}
use Rattle.spec_hyparview.proofs.Law.{Lawful}
use Rattle.spec_hyparview.proofs.Told.{spell, note, up_after, sent_after, one_more}
use Rattle.spec_hyparview.proofs.Invariant.{Fixed, Terms, Core, Good, Told, Roomy, Codes, Ok, spent}

-- codes 6, 7, 8, 10, 17 and 18
pub record Plain (c : ℕ) : Type 0 where
  pub low : 5 ≤ c
  pub not_five : c ≡ 5 → ⊥
  pub not_nine : c ≡ 9 → ⊥

pub six : Plain 6
six = record { low = omega arith; not_five = λ e. omega arith; not_nine = λ e. omega arith }

pub seven : Plain 7
seven = record { low = omega arith; not_five = λ e. omega arith; not_nine = λ e. omega arith }

pub eight : Plain 8
eight = record { low = omega arith; not_five = λ e. omega arith; not_nine = λ e. omega arith }

pub ten : Plain 10
ten = record { low = omega arith; not_five = λ e. omega arith; not_nine = λ e. omega arith }

pub seventeen : Plain 17
seventeen = record { low = omega arith; not_five = λ e. omega arith; not_nine = λ e. omega arith }

pub eighteen : Plain 18
eighteen = record { low = omega arith; not_five = λ e. omega arith; not_nine = λ e. omega arith }

module _ {q : Fixed} {t : Terms} {m b d : ℕ} where
  pub ok_refuse : (c : ℕ) (r : Run) → 5 ≤ c → (c ≡ 5 → sure q.draws_lent < q.most_draws) → (c ≡ 5 → Roomy r.station) → (c ≡ 9 → q.room_lent < 8192) → Codes q r → Ok q t m b d (with_code c r)
  ok_refuse c r l f o n k =
      record { good = λ e. absurd (omega arith); codes = record { lent = k.lent; within = k.within; space = k.space; five = f; roomy = o; nine = n; low = λ w. l } }

  pub ok_if : (test : Bool) {x y : Run} → (test ≡ true → Ok q t m b d x) → (test ≡ false → Ok q t m b d y) → Ok q t m b d (choose test x y)
  ok_if test f g = by_choice (Ok q t m b d) test f g

  -- where nothing hangs on the test
  pub ok_either : (test : Bool) {x y : Run} → Ok q t m b d x → Ok q t m b d y → Ok q t m b d (choose test x y)
  ok_either test f g = by_choice (Ok q t m b d) test (λ e. f) (λ e. g)

  pub ok_guard : {r : Run} {after : Run} → Codes q r → (r.code ≡ 0 → Ok q t m b d after) → Ok q t m b d (guard r after)
  unfolding guard
  ok_guard {r} c f =
      ok_if (eqb r.code 0) (λ e. f (eqb-true r.code 0 e)) (λ e. record { good = λ z. absurd (eqb-false r.code 0 e z); codes = c })

  pub ok_fact : {P : Type 0} {r : Run} → ((o : List Rec) → Good q t m r.station o → Lawful r.station → P) → Ok q t m b d r → r.code ≡ 0 → P
  ok_fact h k z = let w = k.good z in h w.told w.core w.law

  pub ok_absurd : {u : Terms} {n c e : ℕ} {r : Run} → ((o : List Rec) → Good q t m r.station o → Lawful r.station → ⊥) → Ok q t m b d r → Ok q u n c e r
  ok_absurd h k = record { good = λ z. absurd (ok_fact h k z); codes = k.codes }

  -- other terms for the same run
  pub ok_map : {u : Terms} {n : ℕ} {r : Run} → ((o : List Rec) → Good q t m r.station o → Lawful r.station → Good q u n r.station o) → Ok q t m b d r → Ok q u n b d r
  ok_map h k = record {
    good = λ z. let w = k.good z in record {
      told = w.told;
      spelled = w.spelled;
      sound = w.sound;
      core = h w.told w.core w.law;
      law = w.law;
      bytes_left = w.bytes_left;
      draws_left = w.draws_left;
    };
    codes = k.codes;
  }

  -- less of each credit
  pub ease : {n c e : ℕ} {r : Run} → n ≤ m → c ≤ b → e ≤ d → Ok q t m b d r → Ok q t n c e r
  ease x y z k = record {
    good = λ i. let w = k.good i in let h = w.core in record {
      told = w.told;
      spelled = w.spelled;
      sound = w.sound;
      core = record { still = h.still; seats = h.seats; waits = h.waits; tally = record { noted = h.tally.noted; bound = omega (arith, h.tally.bound) } };
      law = w.law;
      bytes_left = omega (arith, w.bytes_left);
      draws_left = omega (arith, w.draws_left);
    };
    codes = k.codes;
  }

  -- other terms, and fewer bytes, as the run's views allow
  pub ok_shift : {u : Terms} {n c : ℕ} {r : Run} → ((o : List Rec) → Good q t m r.station o → Good q u n r.station o × (c ≤ b)) → Ok q t m b d r → Ok q u n c d r
  ok_shift h k = record {
    good = λ z. let w = k.good z in let g = h w.told w.core in record {
      told = w.told;
      spelled = w.spelled;
      sound = w.sound;
      core = g.0;
      law = w.law;
      bytes_left = omega (arith, w.bytes_left, g.1);
      draws_left = w.draws_left;
    };
    codes = k.codes;
  }

  -- a change of the station
  pub ok_change : {u : Terms} {n : ℕ} (f : Station → Station) {r : Run} → (r.code ≡ 0 → (o : List Rec) → Good q t m r.station o → Lawful r.station → Good q u n (f r.station) o × Lawful (f r.station)) → Ok q t m b d r → Ok q u n b d (on f r)
  unfolding on guard
  ok_change {u} {n} f {r} h k =
      by_choice (Ok q u n b d) (eqb r.code 0)
      (λ e. let z = eqb-true r.code 0 e in let w = k.good z in let g = h z w.told w.core w.law in record {
        good = λ y. record {
          told = w.told;
          spelled = w.spelled;
          sound = w.sound;
          core = g.0;
          law = g.1;
          bytes_left = w.bytes_left;
          draws_left = w.draws_left;
        };
        codes = record { lent = k.codes.lent; within = k.codes.within; space = k.codes.space; five = k.codes.five; roomy = λ y. absurd (omega (arith, y, z)); nine = k.codes.nine; low = k.codes.low };
      })
      (λ e. record { good = λ z. absurd (eqb-false r.code 0 e z); codes = k.codes })

  -- a change of the station, as it changes the views and joins, and as it keeps the other rules
  pub ok_on : {u : Terms} {n : ℕ} (f : Station → Station) {r : Run} → ((o : List Rec) → Good q t m r.station o → Good q u n (f r.station) o) → (Lawful r.station → Lawful (f r.station)) → Ok q t m b d r → Ok q u n b d (on f r)
  ok_on f h l k = ok_change f (λ z o g w. (h o g, l w)) k

  -- n draws, of which every choice would keep at most k
  pub ok_draw : {k : ℕ} (n : ℕ) {r : Run} → ((o : List Rec) → Good q t m r.station o → Lawful r.station → Costs k n (to_draw r)) → Ok q t m b (d + k) r → Ok q t m b d (draw n r)
  unfolding draw to_draw
  ok_draw {k} n {r} h i =
      ok_guard i.codes (λ z. let w = i.good z in let l = h w.told w.core w.law in
      ok_if (leb (r.used + n) (length r.draws))
      (λ e. record {
        good = λ y. record {
          told = w.told;
          spelled = w.spelled;
          sound = w.sound;
          core = w.core;
          law = w.law;
          bytes_left = w.bytes_left;
          draws_left = omega (arith, w.draws_left, l.taken, ap sure (take-add r.used n r.draws), sure_append (take r.used r.draws) (take n (drop r.used r.draws)));
        };
        codes = record { lent = i.codes.lent; within = omega (arith, leb-true (r.used + n) (length r.draws) e, ap length i.codes.lent); space = i.codes.space; five = i.codes.five; roomy = λ y. absurd (omega (arith, y, z)); nine = i.codes.nine; low = i.codes.low };
      })
      (λ e. ok_refuse 5 r (omega arith) (λ y. omega (arith, ap sure i.codes.lent, w.draws_left, sure_at r.used r.draws, l.short (omega (arith, i.codes.within, ap length i.codes.lent, length-drop r.used r.draws, leb-false (r.used + n) (length r.draws) e))))
      (λ y. let c = w.core in record { active_few = omega (arith, c.seats.slots_left, c.still.ranges.few_slots); passive_few = omega (arith, c.seats.places_left, c.still.ranges.few_places); recent_few = omega (arith, w.law.recent_ok.few) })
      (λ y. absurd (omega arith)) i.codes))

  pub ok_draw_one : {r : Run} → Ok q t m b (d + 1) r → Ok q t m b d (draw 1 r)
  ok_draw_one {r} k = ok_draw 1 (λ o g l. one_costs (to_draw r)) k

  -- the draws of a choice of at most 32 items
  pub ok_one_of : (n : ℕ) {r : Run} → ((o : List Rec) → Good q t m r.station o → Lawful r.station → n ≤ 32) → Ok q t m b (d + 1) r → Ok q t m b d (draw_one_of n r)
  unfolding draw_one_of
  ok_one_of n {r} h k = ok_draw _ (λ o g l. pick_costs n (to_draw r) (h o g l)) k

  pub ok_require : {c : ℕ} → Plain c → (test : Bool) {r : Run} → Ok q t m b d r → Ok q t m b d (require c test r)
  unfolding require
  ok_require {c} p test {r} k =
      ok_guard k.codes (λ z. ok_if test (λ e. k)
      (λ e. ok_refuse c r p.low (λ y. absurd (p.not_five y)) (λ y. absurd (p.not_five y)) (λ y. absurd (p.not_nine y)) k.codes))

-- what a test that was passed says
pub require_fine : {c : ℕ} → Plain c → (test : Bool) (r : Run) → (require c test r).code ≡ 0 → (require c test r ≡ r) × (test ≡ true)
unfolding require guard
require_fine {c} p test r =
    by_choice (λ (w : Run). w.code ≡ 0 → (w ≡ r) × (test ≡ true)) (eqb r.code 0)
    (λ e. by_choice (λ (w : Run). w.code ≡ 0 → (w ≡ r) × (test ≡ true)) test (λ f z. (refl, f)) (λ f z. absurd (omega (arith, p.low))))
    (λ e z. absurd (eqb-false r.code 0 e z))

-- a change that a test stands before
pub ok_claim : {q : Fixed} {t u : Terms} {m n b d c : ℕ} → Plain c → (test : Bool) (f : Station → Station) {r : Run} → (r.code ≡ 0 → test ≡ true → (o : List Rec) → Good q t m r.station o → Lawful r.station → Good q u n (f r.station) o × Lawful (f r.station)) → Ok q t m b d r → Ok q u n b d (on f (require c test r))
ok_claim {q} {t} {u} {m} {n} {c = c} p test f {r} h k =
    ok_change f (λ z. let e = require_fine p test r z in
    subst (λ (w : Run). (o : List Rec) → Good q t m w.station o → Lawful w.station → Good q u n (f w.station) o × Lawful (f w.station)) (sym e.0)
    (h (subst (λ (w : Run). w.code ≡ 0) e.0 z) e.1)) (ok_require p test k)

pub draw_station : (n : ℕ) (r : Run) → (draw n r).station ≡ r.station
unfolding draw guard
draw_station n r =
    by_choice (λ (w : Run). w.station ≡ r.station) (eqb r.code 0)
    (λ e. by_choice (λ (w : Run). w.station ≡ r.station) (leb (r.used + n) (length r.draws)) (λ f. refl) (λ f. refl))
    (λ e. refl)

pub one_of_station : (n : ℕ) (r : Run) → (draw_one_of n r).station ≡ r.station
unfolding draw_one_of
one_of_station n r = draw_station _ r

-- a run that is not refused was not refused before
pub draw_fine : (n : ℕ) (r : Run) → (draw n r).code ≡ 0 → r.code ≡ 0
unfolding draw guard
draw_fine n r =
    by_choice (λ (w : Run). w.code ≡ 0 → r.code ≡ 0) (eqb r.code 0) (λ e z. eqb-true r.code 0 e) (λ e z. z)

pub emit_fine : (e : Rec) (r : Run) → (emit e r).code ≡ 0 → r.code ≡ 0
unfolding emit guard
emit_fine e r =
    by_choice (λ (w : Run). w.code ≡ 0 → r.code ≡ 0) (eqb r.code 0) (λ f z. eqb-true r.code 0 f) (λ f z. z)

pub emit_station : (e : Rec) (r : Run) → (emit e r).station ≡ r.station
unfolding emit guard
emit_station e r =
    by_choice (λ (w : Run). w.station ≡ r.station) (eqb r.code 0)
    (λ z. by_choice (λ (w : Run). w.station ≡ r.station) _ (λ f. refl) (λ f. refl))
    (λ z. refl)

on_fine : (f : Station → Station) (r : Run) → r.code ≡ 0 → on f r ≡ with_station (f r.station) r
unfolding on guard
on_fine f r z = choose_yes (eqb r.code 0) _ _ (eq-eqb r.code 0 z)

pub on_code : (f : Station → Station) (r : Run) → (on f r).code ≡ r.code
unfolding on guard
on_code f r = by_choice (λ (w : Run). w.code ≡ r.code) (eqb r.code 0) (λ e. refl) (λ e. refl)

codes_on : {q : Fixed} (f : Station → Station) {r : Run} → Codes q r → Codes q (on f r)
unfolding on guard
codes_on {q} f {r} c =
    by_choice (Codes q) (eqb r.code 0)
    (λ e. record { lent = c.lent; within = c.within; space = c.space; five = c.five; roomy = λ y. absurd (omega (arith, y, eqb-true r.code 0 e)); nine = c.nine; low = c.low }) (λ e. c)

-- a record of at most n bytes
module _ {q : Fixed} {u : Terms} {m b d : ℕ} (e : Rec) (n : ℕ) where
  pub ok_emit_fine : {r : Run} → Codes q r → (r.code ≡ 0 → (length r.out + size e ≤ 8192) × Told q u m b d r.station (r.out ++ encode e) (spent r)) → Ok q u m b d (emit e r)
  unfolding emit
  ok_emit_fine {r} c h =
      ok_guard c (λ z. ok_if _
      (λ f. record {
        good = λ y. (h z).1;
        codes = record { lent = c.lent; within = c.within; space = c.space; five = c.five; roomy = λ y. absurd (omega (arith, y, z)); nine = c.nine; low = c.low };
      })
      (λ f. ok_refuse 9 r (omega arith) (λ y. absurd (omega arith)) (λ y. absurd (omega arith)) (λ y. omega (arith, c.space, (h z).0, leb-false (length r.out + size e) r.room f)) c))

  said : {t : Terms} {k : ℕ} {s v : Station} {out : List ℕ} {drawn : ℕ} → size e ≤ n → (9 ≤ e.kind → e.kind ≤ 10 → e.peer < peers_end)
      → ((o : List Rec) → Good q t k s o → Good q u m v (e ∷ o)) → (Lawful s → Lawful v) → Told q t k (b + n) d s out drawn
      → (length out + size e ≤ 8192) × Told q u m b d v (out ++ encode e) drawn
  unfolding spell
  said {out = out} l a h w g = (
    omega (arith, g.bytes_left),
    record {
      told = e ∷ g.told;
      spelled = ap (λ (x : List ℕ). x ++ encode e) g.spelled;
      sound = one_more {e = e} (record { small = omega (arith, g.bytes_left); narrow = a }) g.sound;
      core = h g.told g.core;
      law = w g.law;
      bytes_left = omega (arith, g.bytes_left, length-append out (encode e), length_encode e);
      draws_left = g.draws_left;
    },
  )

  pub ok_emit : {t : Terms} {k : ℕ} {r : Run} → (r.code ≡ 0 → (o : List Rec) → Good q t k r.station o → Lawful r.station → size e ≤ n) → (9 ≤ e.kind → e.kind ≤ 10 → e.peer < peers_end)
      → ((o : List Rec) → Good q t k r.station o → Good q u m r.station (e ∷ o)) → Ok q t k (b + n) d r → Ok q u m b d (emit e r)
  ok_emit s a h k = ok_emit_fine k.codes (λ z. said (ok_fact (s z) k z) a h (λ l. l) (k.good z))

  -- a notice of what was changed
  pub ok_tell : {t : Terms} {k : ℕ} (f : Station → Station) {r : Run} → size e ≤ n → ((o : List Rec) → Good q t k r.station o → e.peer < peers_end)
      → ((o : List Rec) → Good q t k r.station o → Good q u m (f r.station) (e ∷ o)) → (Lawful r.station → Lawful (f r.station)) → Ok q t k (b + n) d r → Ok q u m b d (emit e (on f r))
  ok_tell f {r} s a h l k =
      ok_emit_fine (codes_on f k.codes) (λ z. let y : r.code ≡ 0 = subst (λ (c : ℕ). c ≡ 0) (on_code f r) z in
      rw (on_fine f r y) (said s (λ _ _. ok_fact (λ o g w. a o g) k y) h l (k.good y)))

-- a message spends one of those allowed; other records but notices are free
pub charge : {cfg0 : Config} {me0 : ℕ} {kept : Bool} {old : ℕ} {t : Terms} {m : ℕ} {me : ℕ} {cfg : Config} {alone : ℕ} {act pas ali jks boo up : List ℕ} {sent allowed : ℕ} → Core cfg0 me0 kept old t (m + 1) me cfg alone act pas ali jks boo up sent allowed → Core cfg0 me0 kept old t m me cfg alone act pas ali jks boo up (sent + 1) allowed
charge c = record { still = c.still; seats = c.seats; waits = c.waits; tally = record { noted = c.tally.noted; bound = omega (arith, c.tally.bound) } }

module _ {q : Fixed} {t : Terms} {m b d : ℕ} (e : Rec) (n : ℕ) {r : Run} where
  pub ok_message : e.kind ≡ 0 → (r.code ≡ 0 → (o : List Rec) → Good q t (m + 1) r.station o → Lawful r.station → size e ≤ n) → Ok q t (m + 1) (b + n) d r → Ok q t m b d (emit e r)
  unfolding up_after note sent_after choose
  ok_message z s k = ok_emit e n s (λ x y. absurd (omega arith)) (λ o c. rw z (charge c)) k

  -- timers (kinds 1 to 4) and peer data (11)
  pub ok_quiet : (1 ≤ e.kind) → (e.kind ≡ 9 → ⊥) → (e.kind ≡ 10 → ⊥) → (r.code ≡ 0 → Lawful r.station → size e ≤ n) → Ok q t m (b + n) d r → Ok q t m b d (emit e r)
  unfolding up_after note sent_after choose
  ok_quiet x y z s k =
      ok_emit e n (λ i o g l. s i l) (λ v w. absurd (omega (arith, y, z)))
      (λ o c. rw (ne_eqb e.kind 9 y, ne_eqb e.kind 10 z, ne_eqb e.kind 0 (λ w. omega arith)) c) k
