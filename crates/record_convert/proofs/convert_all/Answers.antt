-- What remains: the records from place `taken` on, into the room from place `written` on. The measure is the bytes that are left.
use Prim.Native.Nat.{ℕ}
use mathlib.Core.Path.{◌≡◌, refl, ap, ◌∙◌}
use mathlib.Core.List.{List, []}
use native.Mathlib.Omega.{arith}
use lib.ListN.{length}
use Rattle.base_lists.specs.Array.{pad}
use Rattle.base_lists.proofs.Array.{length_pad}
use Rattle.record_convert.specs.Walk.{walked, Outcomes, outcomes}
use Rattle.record_convert.proofs.Laws.{zeroes, refusal_some}
use Rattle.record_convert.proofs.Walk.{Walking, walking_start, walking_len, walking_end, walking_top, walking_stop, walking_less, walking_next}
use borrow.Author.Rules.{rules}
use Rattle.record_convert.proofs.convert_all.Invariants.{Inv}
use Rattle.record_convert.proofs.convert_all.Goals as goal

inv : (v w : ℕ) (b : List ℕ) (room : ℕ) (out : List ℕ) (from to : ℕ) → Walking v w b room out from to → Inv v w b room out from to
inv v w b room out from to u = record { low = u.low; top = u.top; len = walking_len v w b room out from to u; at = u }

start : (v w : ℕ) (b : List ℕ) (n : ℕ) (out : List ℕ) → out ≡ pad 0 n [] → Inv v w b (length out) out 0 0
start v w b n out e =
    let l : length out ≡ n = ap length e ∙ length_pad {A = ℕ} 0 n [] in
    inv v w b (length out) out 0 0 (walking_start v w b (length out) out (e ∙ rw l))

same_room : (v w : ℕ) (b : List ℕ) (n m : ℕ) (x : Outcomes) → n ≡ m → x ≡ outcomes (walked v w b n) n → x ≡ outcomes (walked v w b m) m
same_room v w b n m x e q = q ∙ ap (λ (k : ℕ). outcomes (walked v w b k) k) e

pub loop-taken-init : goal.loop-taken-init
loop-taken-init c = start _ _ _ _ _ (c.fill.ensures.after (search rules) ∙ zeroes _)

pub overflow_add-written : goal.overflow_add-written
overflow_add-written c =
    let long = c.loop-taken.invariant.len in
    let top =
    walking_top _ _ _ _ _ _ _ c.loop-taken.invariant.at c.loop-taken-test.true _ c.first_length.ensures.0 _ _ _ c.in-Ok.ensures in
    record { fits = omega (arith, top, long) }

pub returns-in-Err-clause-walks : goal.returns-in-Err-clause-walks
returns-in-Err-clause-walks c =
    same_room _ _ _ _ _ _ (search rules) (walking_stop _ _ _ _ _ _ _ c.loop-taken.invariant.at c.loop-taken-test.true _ c.first_length.ensures.0 _ _ _ c.in-Err.ensures (refusal_some c.in-Err.why))

pub loop-taken-smaller : goal.loop-taken-smaller
loop-taken-smaller c =
    walking_less _ _ _ _ _ _ _ c.loop-taken.invariant.at c.loop-taken-test.true _ c.first_length.ensures.0 _ _ _ c.in-Ok.ensures refl

pub loop-taken-preserved : goal.loop-taken-preserved
loop-taken-preserved c =
    inv _ _ _ _ _ _ _ (walking_next _ _ _ _ _ _ _ c.loop-taken.invariant.at c.loop-taken-test.true _ c.first_length.ensures.0 _ _ _ c.in-Ok.ensures refl c.first_length.ensures.1)

pub returns-clause-walks : goal.returns-clause-walks
returns-clause-walks c = same_room _ _ _ _ _ _ (search rules) (walking_end _ _ _ _ _ _ _ c.loop-taken.invariant.at c.loop-taken-test.false)
