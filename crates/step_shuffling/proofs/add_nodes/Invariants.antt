-- What the nodes to come make of the work so far is the whole.
use Prim.Native.Nat.{ℕ, ◌-◌, ◌≤◌}
use mathlib.Core.Path.{◌≡◌}
use mathlib.Core.Bool.{Bool, ◌||◌}
use mathlib.Core.List.{List}
use lib.ListN.{length}
use Rattle.record.specs.Read.{nodes_of}
use Rattle.spec_hyparview.specs.Peers.{add_nodes, any_new}
use Rattle.work.specs.declared.Work.{Work}
use Rattle.hyparview_state.specs.Work.{work_of, run, Fine}
use Rattle.step_shuffling.proofs.add_nodes.Given as goal

pub record Adding (xs ds out₀ b : List ℕ) (n : ℕ) (w : Work) (ys out : List ℕ) (a : Work) (fresh : Bool) (i : ℕ) : Type 0 where
  pub fine : Fine (work_of a ys) ds out
  pub low : i ≤ n
  pub len : length out ≡ length out₀
  pub work : add_nodes (nodes_of b 0 n) (run (work_of w xs) ds out₀) ≡ add_nodes (nodes_of b i (n - i)) (run (work_of a ys) ds out)
  pub news : any_new (nodes_of b 0 n) (run (work_of w xs) ds out₀) ≡ (fresh || any_new (nodes_of b i (n - i)) (run (work_of a ys) ds out))

abbrev pub invariant-loop-i : goal.invariant-loop-i
invariant-loop-i l = Adding l.initial.st l.draws l.initial.out l.b l.n l.initial.a l.st l.out l.a l.fresh l.i
