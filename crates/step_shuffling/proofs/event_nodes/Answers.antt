-- The nodes of t, and those to come, are the answer.
use Prim.Native.Nat.{ℕ, ◌+◌, ◌-◌, ◌≤◌, ◌<◌}
use mathlib.Core.Path.{◌≡◌, sym, ap, ◌∙◌}
use mathlib.Core.Bool.{true}
use mathlib.Core.List.{List, [], ◌∷◌, ◌++◌, append-nil}
use native.Mathlib.Omega.{arith}
use lib.ListN.{length, length-append}
use lib.Seq.{append_snoc}
use Rattle.base_peer.specs.Data.{Node}
use Rattle.base_peer.specs.Held.{node_in}
use Rattle.base_peer.specs.declared.PeerInfo.{PeerInfo}
use Rattle.record.specs.Read.{header_of, well_formed, node_at, nodes_of}
use Rattle.record_writer.specs.declared.nodes.Nodes.{Nodes}
use Rattle.record_writer.specs.Nodes.{nodes_in}
use Rattle.step_shuffling.proofs.Nodes.{nodes_from, nodes_start, nodes_end, few_nodes, length_nodes}
use borrow.Author.Rules.{rules}
use Rattle.step_shuffling.proofs.event_nodes.Invariants.{Naming}
use Rattle.step_shuffling.proofs.event_nodes.Goals as goal

start : (b : List ℕ) (n : ℕ) (t : Nodes) → nodes_in t ≡ [] → well_formed b ≡ true → n ≡ (header_of b).nodes → Naming b n t 0
start b n t h w e = record {
  count = omega (arith, length_nodes t, ap length h);
  low = omega arith;
  few = few_nodes b n w e;
  same = nodes_start b n ∙ ap (λ (l : List Node). l ++ nodes_of b 0 (n - 0)) (sym h);
}

module _ (b : List ℕ) (n : ℕ) (t : Nodes) (i : ℕ) (v : Naming b n t i) where
  next : (x : PeerInfo) (r : Nodes) → i < n → node_in x ≡ node_at b i → nodes_in r ≡ nodes_in t ++ (node_in x ∷ []) → Naming b n r (i + 1)
  next x r h e k = record {
    count =
        let q : length (nodes_in r) ≡ length (nodes_in t) + 1 = ap length k ∙ length-append (nodes_in t) (node_in x ∷ []) in
        omega (arith, v.count, length_nodes t, length_nodes r);
    low = omega arith;
    few = v.few;
    same =
        v.same ∙ ap (λ (l : List Node). nodes_in t ++ l) (nodes_from b i n h)
        ∙ ap (λ (y : Node). nodes_in t ++ (y ∷ nodes_of b (i + 1) (n - (i + 1)))) (sym e)
        ∙ sym (append_snoc (nodes_in t) (node_in x) (nodes_of b (i + 1) (n - (i + 1))))
        ∙ ap (λ (l : List Node). l ++ nodes_of b (i + 1) (n - (i + 1))) (sym k);
  }

  end : n ≤ i → nodes_in t ≡ nodes_of b 0 n
  end h = sym (v.same ∙ ap (λ (l : List Node). nodes_in t ++ l) (nodes_end b i n h) ∙ append-nil _)

pub loop-i-init : goal.loop-i-init
loop-i-init c = search (start, rules)

pub loop-i-preserved : goal.loop-i-preserved
loop-i-preserved c = search next

pub returns : goal.returns
returns c = search end
