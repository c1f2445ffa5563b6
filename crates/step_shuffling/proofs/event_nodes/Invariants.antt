-- The nodes of t, and those to come, are the answer.
use Prim.Native.Nat.{ℕ, ◌-◌, ◌≤◌}
use mathlib.Core.Path.{◌≡◌}
use mathlib.Core.List.{List, ◌++◌}
use Rattle.record.specs.Read.{nodes_of}
use Rattle.record_writer.specs.declared.nodes.Nodes.{Nodes}
use Rattle.record_writer.specs.Nodes.{nodes_in}
use Rattle.step_shuffling.proofs.event_nodes.Given as goal

pub record Naming (b : List ℕ) (n : ℕ) (t : Nodes) (i : ℕ) : Type 0 where
  pub count : t.len ≡ i
  pub low : i ≤ n
  pub few : n ≤ 32
  pub same : nodes_of b 0 n ≡ nodes_in t ++ nodes_of b i (n - i)

abbrev pub invariant-loop-i : goal.invariant-loop-i
invariant-loop-i l = Naming l.b l.n l.t l.i
