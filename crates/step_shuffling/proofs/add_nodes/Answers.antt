-- What the nodes to come make of the work so far is the whole.
use Prim.Native.Nat.{ℕ, ◌+◌, ◌-◌, ◌≤◌, ◌<◌}
use mathlib.Core.Path.{◌≡◌, refl, sym, ap, ◌∙◌}
use mathlib.Core.Bool.{Bool, true, false, ◌||◌}
use mathlib.Core.List.{List, ◌∷◌}
use mathlib.Core.Option.{Option}
use native.Mathlib.Omega.{arith}
use lib.ListN.{length}
use Rattle.base_peer.specs.Data.{Node}
use Rattle.base_peer.specs.Held.{data_in, node_in}
use Rattle.base_peer.specs.declared.PeerInfo.{PeerInfo}
use Rattle.record.specs.Read.{node_at, nodes_of}
use Rattle.spec_hyparview.specs.Run.{Run}
use Rattle.spec_hyparview.specs.Peers.{is_newcomer, add_passive, add_nodes, any_new}
use Rattle.work.specs.declared.Work.{Work}
use Rattle.hyparview_state.specs.Unpack.{unpack}
use Rattle.hyparview_state.specs.Work.{work_of, run, Does}
use Rattle.hyparview_state.proofs.Bridge.{at_run}
use Rattle.step_peers.specs.declared.Added.{Added}
use Rattle.step_peers.specs.Answer.{Adds}
use Rattle.step_shuffling.proofs.Nodes.{nodes_from, nodes_end, or_more}
use Rattle.step_shuffling.proofs.add_nodes.Invariants.{Adding}
use Rattle.step_shuffling.proofs.add_nodes.Goals as goal

add_more : (m x : Node) (l : List Node) (g h : Run) → x ≡ m → h ≡ add_passive x.id x.data_of g → add_nodes (m ∷ l) g ≡ add_nodes l h
unfolding add_nodes
add_more m x l g h e k = ap (λ (y : Node). add_nodes l (add_passive y.id y.data_of g)) (sym e) ∙ ap (add_nodes l) (sym k)

new_more : (m x : Node) (l : List Node) (g h : Run) (f t : Bool) → x ≡ m → t ≡ is_newcomer x.id g.station → h ≡ add_passive x.id x.data_of g
    → (f || any_new (m ∷ l) g) ≡ ((f || t) || any_new l h)
unfolding any_new
new_more m x l g h f t e q k =
    ap (λ (y : Node). f || (is_newcomer y.id g.station || any_new l (add_passive y.id y.data_of g))) (sym e)
    ∙ (λ j. f || (sym q j || any_new l (sym k j)))
    ∙ or_more f t (any_new l h)

module _ (xs ds out₀ b : List ℕ) (n : ℕ) (w : Work) (ys out : List ℕ) (a : Work) (fresh : Bool) (i : ℕ) (v : Adding xs ds out₀ b n w ys out a fresh i) where
  next : (x : PeerInfo) (t : Bool) (m : Added) (zs o : List ℕ) (y : Option ℕ) → i < n → node_in x ≡ node_at b i → t ≡ is_newcomer x.id (unpack ys)
      → Adds m zs ds o (add_passive x.id (data_in x.data) (run (work_of a ys) ds out)) y → length o ≡ length out → Adding xs ds out₀ b n w zs o m.work (fresh || t) (i + 1)
  unfolding node_in
  next x t m zs o y h k e d q = record {
    fine = d.does.fine;
    low = omega arith;
    len = q ∙ v.len;
    work =
        v.work ∙ ap (λ (l : List Node). add_nodes l (run (work_of a ys) ds out)) (nodes_from b i n h)
        ∙ add_more (node_at b i) (node_in x) (nodes_of b (i + 1) (n - (i + 1))) (run (work_of a ys) ds out) (run (work_of m.work zs) ds o) k d.does.same;
    news =
        v.news ∙ ap (λ (l : List Node). fresh || any_new l (run (work_of a ys) ds out)) (nodes_from b i n h)
        ∙ new_more (node_at b i) (node_in x) (nodes_of b (i + 1) (n - (i + 1))) (run (work_of a ys) ds out) (run (work_of m.work zs) ds o) fresh t k (e ∙ at_run (work_of a ys) ds out (is_newcomer x.id)) d.does.same;
  }

  none_more : (f : Bool) → (f || false) ≡ f
  none_more true = refl
  none_more false = refl

  end-work : n ≤ i → Does (work_of a ys) ds out (add_nodes (nodes_of b 0 n) (run (work_of w xs) ds out₀))
  unfolding add_nodes
  end-work h = record { fine = v.fine; same = sym (v.work ∙ ap (λ (l : List Node). add_nodes l (run (work_of a ys) ds out)) (nodes_end b i n h)) }

  end-news : n ≤ i → fresh ≡ any_new (nodes_of b 0 n) (run (work_of w xs) ds out₀)
  unfolding any_new
  end-news h = sym (v.news ∙ ap (λ (l : List Node). fresh || any_new l (run (work_of a ys) ds out)) (nodes_end b i n h) ∙ none_more fresh)

pub loop-i-preserved : goal.loop-i-preserved
loop-i-preserved c = search next

pub returns-clause-makes : goal.returns-clause-makes
returns-clause-makes c = search end-work

pub returns-clause-fresh_value : goal.returns-clause-fresh_value
returns-clause-fresh_value c = search end-news
