-- The neighbors to come, after what was done so far, quit as well in the answer, and nothing is refused so far.
use Prim.Native.Nat.{ℕ}
use mathlib.Core.Path.{◌≡◌}
use mathlib.Core.List.{List}
use lib.ListN.{length}
use Rattle.base_lists.proofs.Rest.{Rest}
use Rattle.spec_hyparview.specs.Run.{Run}
use Rattle.spec_hyparview.specs.Events.{quit_all}
use Rattle.work.specs.declared.Work.{Work}
use Rattle.hyparview_state.specs.Work.{work_of, run, Fine}
use Rattle.step_events.proofs.handle_quit.Given as goal

abbrev pub Then : Run → List ℕ → Run
Then g l = quit_all l g

pub record Quitting (w : Work) (st₀ ds out₀ ps st out : List ℕ) (r : Work) (i : ℕ) : Type 0 where
  pub fine : Fine (work_of r st) ds out
  pub len : length out ≡ length out₀
  pub rest : Rest Then (length ps) ps (length ps) (quit_all ps (run (work_of w st₀) ds out₀)) (run (work_of r st) ds out) i

abbrev pub invariant-loop-p : goal.invariant-loop-p
invariant-loop-p l = Quitting l.initial.r l.initial.st l.draws l.initial.out l.p-items l.st l.out l.r l.p-index × (l.r.code ≡ 0)
