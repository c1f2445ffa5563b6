-- What the records to come make of the work so far is the whole.
use Prim.Native.Nat.{ℕ}
use mathlib.Core.Path.{◌≡◌}
use mathlib.Core.List.{List}
use lib.ListN.{length}
use Rattle.base_lists.proofs.Rest.{Rest}
use Rattle.base_peer.specs.Held.{node_in}
use Rattle.record.specs.Format.{Rec}
use Rattle.spec_hyparview.specs.Run.{Run, emit_all}
use Rattle.spec_hyparview.specs.Messages.{forward_join_to}
use Rattle.work.specs.declared.Work.{Work}
use Rattle.hyparview_state.specs.Work.{work_of, run, Fine}
use Rattle.step_messages.proofs.on_join.Given as goal

abbrev pub Then : (ℕ → Rec) → Run → List ℕ → Run
Then f g l = emit_all f l g

pub record Telling (f : ℕ → Rec) (xs ds out₀ ps : List ℕ) (w : Work) (out : List ℕ) (r : Work) (i : ℕ) : Type 0 where
  pub fine : Fine (work_of r xs) ds out
  pub len : length out ≡ length out₀
  pub rest : Rest (Then f) (length ps) ps (length ps) (emit_all f ps (run (work_of w xs) ds out₀)) (run (work_of r xs) ds out) i

abbrev pub invariant-loop-q : goal.invariant-loop-q
invariant-loop-q l = Telling (forward_join_to (node_in l.n) l.ttl) l.st l.draws l.initial.out l.q-items l.initial.b l.out l.b l.q-index
