-- What remains: the entries from the i-th node on, whose data stand from `reached` on.
use Prim.Native.Nat.{ℕ, suc, ◌+◌, ◌≤◌, ◌<◌}
use mathlib.Core.Path.{◌≡◌, sym, ap, ◌∙◌}
use mathlib.Core.Bool.{true}
use mathlib.Core.List.{List, ◌++◌}
use native.Mathlib.Nat.{mul-le-mul_left}
use native.Mathlib.Numerals.{add-one}
use native.Mathlib.Omega.{arith}
use lib.ListN.{length}
use Rattle.base_lists.specs.Bytes.{overwrite}
use Rattle.base_lists.proofs.Bytes.{overwrite_append}
use Rattle.base_peer.specs.Data.{bytes_of}
use Rattle.record.specs.Format.{header_length_by, node_length_by, place_by, entry_by, entries_by}
use Rattle.record.specs.Read.{header_of_by, entry_at_by, well_formed_by, node_at_by, nodes_of_by}
use Rattle.record.specs.declared.Entry.{Entry}
use Rattle.record.proofs.Format.{length_entry}
use Rattle.record.proofs.Nodes.{entry_in}
use Rattle.record_convert.specs.Convert.{entry_fields, moved_entry}
use Rattle.record_convert.proofs.Laws.{few, length_data, entry_moved}
use borrow.Author.Rules.{rules}
use Rattle.record_convert.proofs.write_entries.Invariants.{Inv}
use Rattle.record_convert.proofs.write_entries.Goals as goal

crowd : (v : ℕ) (b : List ℕ) (n : ℕ) → well_formed_by v b ≡ true → n ≡ (header_of_by v b).nodes → n ≤ 255
crowd v b n t q = omega (arith, few v b t, q)

start : (v w : ℕ) (b : List ℕ) (n : ℕ) (out : List ℕ) (at : ℕ) → at ≡ place_by w n → at ≤ 3092 → well_formed_by v b ≡ true → n ≡ (header_of_by v b).nodes → Inv v w b n out out at 0
start v w b n out at e m t q = record {
  most = omega (arith, few v b t, q);
  small = omega arith;
  same = λ left k. let l : left ≡ n = omega arith in let z : place_by w 0 ≡ header_length_by w = omega arith in rw (l, e, z);
}

module _ (v w : ℕ) (b : List ℕ) (n i : ℕ) (t : well_formed_by v b ≡ true) (count : n ≡ (header_of_by v b).nodes) (l : i < n) where
  there : i < (header_of_by v b).nodes
  there = omega arith

  entry_room : place_by v i + node_length_by v ≤ length b
  entry_room = (entry_in v b t i there).room

  few_bytes : (e : Entry) → e ≡ entry_at_by v b i → e.len ≤ 16
  few_bytes e q = rw q (entry_in v b t i there).few

  module _ (out₀ out : List ℕ) (reached : ℕ) (u : Inv v w b n out₀ out reached i) where
    next : (e m : Entry) (p : ℕ) (o : List ℕ) → e ≡ entry_at_by v b i → m ≡ moved_entry e reached → p ≡ place_by w i → o ≡ overwrite out p (entry_fields w m)
        → Inv v w b n out₀ o (reached + e.len) (i + 1)
    unfolding nodes_of_by entries_by node_at_by
    next e m p o q k d s = record {
      most = u.most;
      small = omega (arith, u.small, few_bytes e q);
      same = λ left f.
          let rest : List ℕ = entries_by w (nodes_of_by v b (suc i) left) (reached + length (bytes_of (node_at_by v b i).data_of)) in
          let one : List ℕ = entry_by w (node_at_by v b i) reached in
          let wrote : o ≡ overwrite out (place_by w i) one = s ∙ rw (d, k, q) (ap (overwrite out (place_by w i)) (sym (entry_moved v w b t i reached there))) in
          let place : place_by w (i + 1) ≡ place_by w i + length one = omega (arith, length_entry w (node_at_by v b i) reached) in
          let size : reached + e.len ≡ reached + length (bytes_of (node_at_by v b i).data_of) = omega (arith, length_data v b t i there, ap (λ (x : Entry). x.len) q) in
          let step : overwrite o (place_by w (i + 1)) rest ≡ overwrite out (place_by w i) (one ++ rest) = rw (place, wrote) (overwrite_append out (place_by w i) one rest) in
          (λ j. overwrite o (place_by w (i + 1)) (entries_by w (nodes_of_by v b (add-one i j) left) (size j))) ∙ step ∙ u.same (suc left) (omega arith);
    }

fits : (w n i : ℕ) (out₀ out : List ℕ) (p : ℕ) → place_by w n ≤ length out₀ → length out ≡ length out₀ → i < n → p ≡ place_by w i → p + node_length_by w ≤ length out
fits w n i out₀ out p r k l e = omega (arith, e, r, k, mul-le-mul_left (node_length_by w) l)

end : (v w : ℕ) (b : List ℕ) (n : ℕ) (out₀ out : List ℕ) (reached i : ℕ) → Inv v w b n out₀ out reached i → i ≤ n → n ≤ i
    → out ≡ overwrite out₀ (header_length_by w) (entries_by w (nodes_of_by v b 0 n) (place_by w n))
unfolding nodes_of_by entries_by overwrite
end v w b n out₀ out reached i u k l = u.same 0 (omega arith)

pub place-reached-requires : goal.place-reached-requires
place-reached-requires c = search crowd

pub loop-i-init : goal.loop-i-init
loop-i-init c = start _ _ _ _ _ _ c.place-reached.ensures.0 c.place-reached.ensures.1 (search rules) (search rules)

pub node_by-e-requires-clause-in_bounds : goal.node_by-e-requires-clause-in_bounds
node_by-e-requires-clause-in_bounds c = search entry_room

pub put_entry-requires : goal.put_entry-requires
put_entry-requires c = search fits

pub loop-i-preserved : goal.loop-i-preserved
loop-i-preserved c =
    next _ _ _ _ _ (search rules) (search rules) c.loop-i-test.true _ _ _ c.loop-i.invariant _ _ _ _ c.node_by-e.ensures c.moved.ensures c.place.ensures.0 c.put_entry.ensures

pub returns : goal.returns
returns c = search end
