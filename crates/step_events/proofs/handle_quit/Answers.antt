-- The neighbors to come, after what was done so far, quit as well in the answer; a refusal ends it.
use Prim.Native.Nat.{ℕ, ◌+◌, ◌≤◌, ◌<◌}
use mathlib.Core.Path.{◌≡◌, refl, sym, ap, ◌∙◌}
use mathlib.Core.Bool.{false}
use mathlib.Core.List.{List}
use native.Mathlib.Omega.{arith}
use lib.ListN.{length, take, get_or}
use lib.Seq.{slice, take_all}
use Rattle.base_lists.proofs.Rest.{rest_next, rest_end}
use Rattle.base_util.specs.Section.{part}
use Rattle.spec_hyparview.specs.Run.{on}
use Rattle.spec_hyparview.specs.Sending.{send_disconnect}
use Rattle.spec_hyparview.specs.Events.{remove_neighbor, quit_all}
use Rattle.work.specs.declared.Work.{Work}
use Rattle.hyparview_state.specs.Work.{work_of, run, run_of, Changes, Fine, Does}
use Rattle.hyparview_state.proofs.Access.{of_packed}
use Rattle.step_events.proofs.Leaving.{neighbor_removed, quitted, quits_shut, quit_refused, quit_passed, quit_handled}
use borrow.Author.Rules.{rules}
use Rattle.step_events.proofs.handle_quit.Invariants.{Then, Quitting}
use Rattle.step_events.proofs.handle_quit.Goals as goal
use Rattle.step_events.proofs.handle_quit.Goals.{After-send_disconnect-r}

start : (w : Work) (st ds out ps : List ℕ) → Fine (work_of w st) ds out → Quitting w st ds out ps st out w 0
start w st ds out ps f = record {
  fine = f;
  len = refl;
  rest = record { low = omega arith; top = omega arith; long = refl; same = ap (λ (x : List ℕ). quit_all x (run (work_of w st) ds out)) (sym (take_all (length ps) ps (omega arith))) };
}

module _ (w : Work) (st₀ ds out₀ ps st out : List ℕ) (r : Work) (i : ℕ) (q : Quitting w st₀ ds out₀ ps st out r i) where
  next : (xs o : List ℕ) (b a : Work) → i < length ps → Does (work_of a xs) ds o (send_disconnect (get_or ps i 0) false (run (work_of b xs) ds out)) → Changes (on (remove_neighbor (get_or ps i 0))) (work_of r st) (work_of b xs)
      → length o ≡ length out → Quitting w st₀ ds out₀ ps xs o a (i + 1)
  unfolding quit_all
  next xs o b a h k₂ k₁ m =
      let k = quitted _ _ _ _ _ _ _ q.fine k₂ k₁ in
      record {
        fine = k.fine;
        len = m ∙ q.len;
        rest = rest_next 0 Then q.rest (run (work_of a xs) ds o) h (λ l. ap (quit_all l) (sym k.same));
      }

  end : length ps ≤ i → Does (work_of r st) ds out (quit_all ps (run (work_of w st₀) ds out₀))
  unfolding quit_all
  end h = record { fine = q.fine; same = sym (rest_end 0 Then q.rest h) }

  stopped : (r.code ≡ 0 → ⊥) → Does (work_of r st) ds out (quit_all ps (run (work_of w st₀) ds out₀))
  unfolding run_of
  stopped h = record { fine = q.fine; same = sym (q.rest.same ∙ quits_shut (slice i (length ps) ps) (run (work_of r st) ds out) h) }

pub returns-then-w-ne0 : goal.returns-then-w-ne0
returns-then-w-ne0 c = quit_refused _ _ _ _ c.requires.given c.if-w-ne0.true

pub copy_into-requires-clause-valid_set : goal.copy_into-requires-clause-valid_set
unfolding part
copy_into-requires-clause-valid_set c = search (of_packed, rules)

pub loop-p-init : goal.loop-p-init
unfolding part
loop-p-init c = (start _ _ _ _ _ c.requires.given, c.if-w-ne0.false)

-- one more neighbor quits
quit_next : (c : After-send_disconnect-r) → Quitting c.args.w c.args.st.now c.args.draws.now c.args.out.now (take c.count-n.result c.copy_into.new.t) c.remove_neighbor.new.st c.send_disconnect-r.new.out c.send_disconnect-r.result (c.loop-p.p-index + 1)
quit_next c =
    let inv = c.loop-p.invariant in
    next _ _ _ _ _ _ _ _ _ inv.0 _ _ _ _ c.loop-p-test.true c.send_disconnect-r.ensures (neighbor_removed _ _ _ _ inv.0.fine.ready.packed inv.1 c.remove_neighbor.ensures) (search rules)

pub returns-then-r-ne0 : goal.returns-then-r-ne0
returns-then-r-ne0 c =
    let there = (goal.at.returns-then-r-ne0 c).After-send_disconnect-r in
    quit_passed _ _ _ _ _ _ _ _ c.count-n.result (stopped _ _ _ _ _ _ _ _ _ (quit_next there) c.if-r-ne0.true) c.copy_into.ensures (search c.count-n.ensures) c.if-r-ne0.true

pub loop-p-preserved : goal.loop-p-preserved
loop-p-preserved c = (quit_next (goal.at.loop-p-preserved c).After-send_disconnect-r, c.if-r-ne0.false)

pub returns : goal.returns
returns c =
    let inv = c.loop-p.invariant in
    quit_handled _ _ _ _ _ _ _ _ c.count-n.result (end _ _ _ _ _ _ _ _ _ inv.0 c.loop-p-test.false) c.copy_into.ensures (search c.count-n.ensures) _ inv.1 c.clear_all.ensures
