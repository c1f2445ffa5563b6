-- What the records to come make of the work so far is the whole.
use Prim.Native.Nat.{ℕ, ◌+◌, ◌≤◌, ◌<◌}
use mathlib.Core.Path.{◌≡◌, refl, sym, ap, ◌∙◌}
use mathlib.Core.List.{List}
use native.Mathlib.Omega.{arith}
use lib.ListN.{length, get_or}
use lib.Seq.{take_all}
use Rattle.base_lists.proofs.Rest.{rest_next, rest_end}
use Rattle.record.specs.Format.{Rec}
use Rattle.spec_hyparview.specs.Run.{emit, emit_all}
use Rattle.work.specs.declared.Work.{Work}
use Rattle.hyparview_state.specs.Work.{work_of, run, TellsAny, Fine, Does}
use Rattle.hyparview_state.proofs.Bridge.{still}
use Rattle.hyparview_state.proofs.Any.{then_tell_any}
use Rattle.step_refill.proofs.Asking.{fine_after}
use Rattle.step_messages.proofs.Laws.{walk_fits, joins_forwarded}
use Rattle.step_messages.proofs.Between.{pending_calm, joined}
use borrow.Author.Rules.{rules}
use Rattle.step_messages.proofs.on_join.Invariants.{Then, Telling}
use Rattle.step_messages.proofs.on_join.Goals as goal

begin : (f : ℕ → Rec) (xs ds out ps : List ℕ) (w : Work) → Fine (work_of w xs) ds out → Telling f xs ds out ps w out w 0
begin f xs ds out ps w v = record {
  fine = v;
  len = refl;
  rest = record { low = omega arith; top = omega arith; long = refl; same = ap (λ (l : List ℕ). emit_all f l (run (work_of w xs) ds out)) (sym (take_all (length ps) ps (omega arith))) };
}

module _ (f : ℕ → Rec) (xs ds out₀ ps : List ℕ) (w : Work) (out : List ℕ) (a : Work) (i : ℕ) (v : Telling f xs ds out₀ ps w out a i) where
  more : (r : Work) (o : List ℕ) → i < length ps → TellsAny (emit (f (get_or ps i 0))) a r out o → length o ≡ length out → Telling f xs ds out₀ ps w o r (i + 1)
  unfolding emit_all
  more r o h t q =
      let d = then_tell_any _ t (still v.fine) in
      record { fine = d.fine; len = q ∙ v.len; rest = rest_next 0 (Then f) v.rest (run (work_of r xs) ds o) h (λ l. ap (emit_all f l) (sym d.same)) }

  end : length ps ≤ i → Does (work_of a xs) ds out (emit_all f ps (run (work_of w xs) ds out₀))
  unfolding emit_all
  end h = record { fine = v.fine; same = sym (rest_end 0 (Then f) v.rest h) }

-- What on_join was given.
given : (c : goal.After-loop-q) → Fine (work_of c.args.w c.args.st.now) c.args.draws.now c.args.out.now
given c = c.requires.given

pub add_active-b-requires-clause-given : goal.add_active-b-requires-clause-given
add_active-b-requires-clause-given c = search (fine_after, rules)

pub add_active-b-requires-clause-meets : goal.add_active-b-requires-clause-meets
add_active-b-requires-clause-meets c = search pending_calm

pub overflow_cast-ttl : goal.overflow_cast-ttl
overflow_cast-ttl c =
    record { fits = omega (arith, walk_fits _ c.add_active-b.ensures.fine.ready.packed) }

pub loop-q-init : goal.loop-q-init
loop-q-init c = search (begin, rules)

pub loop-q-preserved : goal.loop-q-preserved
loop-q-preserved c = search more

pub returns : goal.returns
returns c =
    let told = end _ _ _ _ _ _ _ _ _ c.loop-q.invariant c.loop-q-test.false in
    joined _ _ _ _ _ c.drop_pending-a.ensures (given c) _ _ _ _ _ (joins_forwarded _ _ _ _ _ _ _ _ _ _ c.other_active.ensures c.count-k.ensures.0 told) c.add_active-b.ensures
