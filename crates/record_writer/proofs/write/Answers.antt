-- The first loop sums the data's lengths, the second writes nodes up to k into the room found.
use Prim.Native.Nat.{ℕ, suc, ◌+◌, ◌*◌, ◌≤◌, ◌<◌}
use mathlib.Core.Path.{◌≡◌, refl, sym, ap, ◌∙◌}
use mathlib.Core.List.{List, [], ◌∷◌, map}
use native.Mathlib.Numerals.{add-one}
use native.Mathlib.Omega.{arith}
use borrow.Author.Rules.{rules}
use lib.ListN.{length, take, drop, get_or, length-map}
use lib.Seq.{drop-length, length-take-le}
use Rattle.std.proofs.Common.{length-drop}
use Rattle.base_lists.specs.Bytes.{overwrite}
use Rattle.base_lists.proofs.Array.{length_pad}
use Rattle.base_peer.specs.declared.PeerInfo.{PeerInfo}
use Rattle.base_peer.specs.Held.{node_in}
use Rattle.record.specs.Format.{header_length, node_length, entry, entries, entries_by, datas}
use Rattle.record_writer.specs.Blank.{blank}
use Rattle.record_writer.specs.declared.nodes.Nodes.{Nodes}
use Rattle.record_writer.specs.Nodes.{nodes_in}
use Rattle.record_writer.proofs.Laws.{with_nodes, node_next, sum, sum_next, drop_next, data_of}
use Rattle.record_writer.proofs.Ways.{no_room, room, done}
use Rattle.record_writer.proofs.write.Invariants.{Sizes, Stored, spot}
use Rattle.record_writer.proofs.write.Goals as goal

-- the node that a walk has come to, and those behind it
to_come : (xs : List PeerInfo) (i : ℕ) (p : PeerInfo) → i < length xs → p ≡ get_or xs i p → drop i xs ≡ p ∷ drop (i + 1) xs
to_come xs i p h q = drop_next p xs i h ∙ ap (λ (x : PeerInfo). x ∷ drop (suc i) xs) (sym q) ∙ rw (add-one i) refl

at_end : (xs : List PeerInfo) (i : ℕ) → i ≡ length xs → drop i xs ≡ []
at_end xs i e = rw e (drop-length xs)

module _ (xs : List PeerInfo) (fixed size i : ℕ) (v : Sizes xs fixed size i) where
  sizes_next : (p : PeerInfo) (n : ℕ) → i < length xs → p ≡ get_or xs i p → n ≡ length (data_of p) → n ≤ 16 → Sizes xs fixed (size + n) (i + 1)
  sizes_next p n h q e f = record {
    sums = rw e (sym (sum_next size p (drop (i + 1) xs))) ∙ ap (sum size) (sym (to_come xs i p h q)) ∙ v.sums;
    small = omega (arith, v.small);
  }

  sizes_end : i ≡ length xs → size ≡ sum fixed xs
  unfolding datas
  sizes_end h = omega (arith, ap (λ (l : List PeerInfo). sum size l) (at_end xs i h), v.sums)

-- how many nodes there are, and what they stand for
module _ (s : Nodes) where
  abbrev items : List PeerInfo
  items = take s.len s.items

  count : length items ≡ s.len
  count = length-take-le s.len s.items (omega (arith, s.fits, ap length s.packed ∙ length_pad blank 32 items))

  nodes_are : nodes_in s ≡ map node_in items
  unfolding nodes_in
  nodes_are = refl

  count_in : s.len ≡ length (nodes_in s)
  count_in = sym (ap length nodes_are ∙ length-map items node_in ∙ count)

  module _ (size i : ℕ) (v : Sizes items (header_length + node_length * s.len) size i) (e : i ≡ length items) where
    size_is : size ≡ header_length + (node_length * s.len + length (datas (nodes_in s)))
    size_is = omega (arith, sizes_end items _ size i v e, ap (λ l. length (datas l)) nodes_are)

    few : size ≤ 928
    few = omega (arith, v.small, e, count, s.fits)

    least : header_length ≤ size
    least = omega (arith, size_is)

stored_start : (s : Nodes) (out o : List ℕ) {at z : ℕ} → at + z ≤ length out → z ≡ header_length + (node_length * s.len + length (datas (nodes_in s))) → length o ≡ length out
    → Stored o at (header_length + node_length * s.len) (items s) o (header_length + node_length * s.len) 0
stored_start s out o h e l = record {
  walk = refl;
  sums = refl;
  room = omega (arith, h, e, l, ap (λ x. length (datas x)) (nodes_are s));
  low = omega arith;
  len = refl;
}

module _ (out₀ : List ℕ) (at n : ℕ) (xs : List PeerInfo) (out : List ℕ) (reached k : ℕ) (c : length xs ≡ n) (v : Stored out₀ at (header_length + node_length * n) xs out reached k) where
  module _ (p : PeerInfo) (h : k < length xs) (q : p ≡ get_or xs k p) where
    entry_room : at + (header_length + node_length * k + node_length) ≤ length out
    entry_room = omega (arith, v.room, c)

    data_room : at + reached + length (data_of p) ≤ length out
    data_room = omega (arith, v.room, sym v.sums ∙ ap (sum reached) (to_come xs k p h q) ∙ sum_next reached p (drop (k + 1) xs))

    stored_next : (m : ℕ) (o : List ℕ) → m ≡ length (data_of p)
        → o ≡ overwrite (overwrite out (at + (header_length + node_length * k)) (entry (node_in p) reached)) (at + reached) (data_of p)
        → length o ≡ length out → Stored out₀ at (header_length + node_length * n) xs o (reached + m) (k + 1)
    stored_next m o z e l = record {
      walk = rw z
          (sym (node_next at out o (at + (header_length + node_length * k)) (at + (header_length + node_length * (k + 1))) reached p (drop (k + 1) xs) e (omega arith)
          (omega (arith, v.low, length-drop (k + 1) xs, c))))
          ∙ ap (with_nodes at (spot out at k reached)) (sym (to_come xs k p h q)) ∙ v.walk;
      sums = rw z (sym (sum_next reached p (drop (k + 1) xs))) ∙ ap (sum reached) (sym (to_come xs k p h q)) ∙ v.sums;
      room = omega (arith, v.room, l);
      low = omega (arith, v.low);
      len = l ∙ v.len;
    }

  stored_end : k ≡ length xs
      → out ≡ overwrite (overwrite out₀ (at + header_length) (entries (map node_in xs) (header_length + node_length * n))) (at + (header_length + node_length * n)) (datas (map node_in xs))
  unfolding datas entries_by overwrite
  stored_end h = ap (with_nodes at (spot out at k reached)) (sym (at_end xs k h)) ∙ v.walk

pub loop-p-preserved : goal.loop-p-preserved
loop-p-preserved c =
    sizes_next _ _ _ _ c.loop-p.invariant _ _ c.loop-p-test.true c.p-item.is c.data_len-size.ensures.0 c.data_len-size.ensures.1

pub put_header-requires : goal.put_header-requires
put_header-requires c = least c.args.ns.now _ _ c.loop-p.invariant (search rules)

pub returns-in_err-end : goal.returns-in_err-end
returns-in_err-end c =
    rw c.from_residual.ensures
    (no_room _ _ _ _ _ _ _ _ (count_in c.args.ns.now) (size_is c.args.ns.now _ _ c.loop-p.invariant (search rules)) (rw c.in_err-end.was at c.put_header.ensures) refl)

pub loop-k-init : goal.loop-k-init
loop-k-init c =
    stored_start c.args.ns.now _ _ (room _ _ _ _ _ _ _ _ (count_in c.args.ns.now) (size_is c.args.ns.now _ _ c.loop-p.invariant (search rules)) c.put_header.ensures _ c.in_ok-end.was)
    (size_is c.args.ns.now _ _ c.loop-p.invariant (search rules)) c.put_header.auto.out

pub put_node-requires-clause-data_in_bounds : goal.put_node-requires-clause-data_in_bounds
put_node-requires-clause-data_in_bounds c =
    data_room _ _ _ _ _ _ _ (count c.args.ns.now) c.loop-k.invariant _ c.loop-k-test.true c.index-nodes-k.is

pub loop-k-preserved : goal.loop-k-preserved
loop-k-preserved c =
    stored_next _ _ _ _ _ _ _ (count c.args.ns.now) c.loop-k.invariant _ c.loop-k-test.true c.index-nodes-k.is _ _ c.data_len-reached.ensures.0 c.put_node.ensures c.put_node.auto.out

pub returns : goal.returns
unfolding nodes_in
returns c =
    rw (← c.in_ok-end.was)
    (done _ _ _ _ _ _ _ _ (count_in c.args.ns.now) (size_is c.args.ns.now _ _ c.loop-p.invariant (search rules)) c.put_header.ensures _ c.in_ok-end.was _
    (stored_end _ _ _ _ _ _ _ (count c.args.ns.now) c.loop-k.invariant (search rules)))
