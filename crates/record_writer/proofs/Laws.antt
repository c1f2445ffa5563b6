-- Laws of the nodes that are written, and of the bytes that their data take.
-- Assumes nothing.
use Prim.Native.Nat.{ℕ, zero, suc, ◌+◌, ◌*◌, ◌≤◌, ◌<◌}
use mathlib.Core.Path.{◌≡◌, refl, sym, ap, ◌∙◌}
use mathlib.Core.List.{List, [], ◌∷◌, ◌++◌, map, map-append}
use native.Mathlib.Nat.{le_of_suc-le-suc, not-suc-le-zero}
use native.Mathlib.Numerals.{add-one}
use native.Mathlib.Omega.{arith}
use lib.ListN.{length, take, drop, get_or, set, length-append, length-map}
use lib.Seq.{length-take-le, take-suc-set, set_comm}
use Rattle.std.specs.Prelude.{Option, Some, None}
use Rattle.base_lists.specs.Array.{pad}
use Rattle.base_lists.specs.Bytes.{le, overwrite}
use Rattle.base_lists.proofs.Array.{length_pad, push_pad}
use Rattle.base_lists.proofs.Bytes.{overwrite_append, then, length_le}
use Rattle.base_peer.specs.Data.{bytes_of}
use Rattle.base_peer.specs.Held.{data_in, node_in}
use Rattle.base_peer.proofs.Data.{length_bytes}
use Rattle.base_peer.specs.declared.PeerData.{PeerData}
use Rattle.base_peer.specs.declared.PeerInfo.{PeerInfo}
use Rattle.record.specs.Format.{peer_length, node_length, present, offset, entry, entry_by, entries, entries_by, datas}
use Rattle.record.proofs.Format.{length_entries}
use Rattle.record_writer.specs.Blank.{blank}

-- the bytes that a node's data take
abbrev pub data_of : PeerInfo → List ℕ
data_of p = bytes_of (data_in p.data)

pub length_there : (p : PeerInfo) (d : PeerData) → p.data ≡ Some d → d.len ≡ length (data_of p)
unfolding data_in bytes_of
length_there p d q = sym (length_bytes d) ∙ ap (λ (x : Option PeerData). length (bytes_of (data_in x))) (sym q)

-- ---- a node entry

module _ (id at : ℕ) (d : PeerData) where
  entry_there : le peer_length id ++ (le 2 at ++ (d.len ∷ 1 ∷ [])) ≡ entry (node_in (record { id = id; «data» = Some d })) at
  unfolding entry_by node_in data_in le offset present bytes_of
  entry_there = ap (λ (n : ℕ). le peer_length id ++ (le 2 at ++ (n ∷ 1 ∷ []))) (sym (length_bytes d))

entry_absent : (id at : ℕ) → le peer_length id ++ le 4 0 ≡ entry (node_in (record { id = id; «data» = None })) at
unfolding entry_by node_in data_in le offset present bytes_of
entry_absent id at = refl

module _ (p : PeerInfo) (at k : ℕ) (out o₁ : List ℕ) (e₁ : o₁ ≡ overwrite out at (le peer_length p.id)) where
  abbrev after : at + peer_length ≡ at + length (le peer_length p.id)
  after = sym (ap (λ (n : ℕ). at + n) (length_le peer_length p.id))

  -- the bytes with the entry and the data at place j, where the data is x
  abbrev with_data : ℕ → Option PeerData → List ℕ
  with_data j x = overwrite (overwrite out at (entry (node_in (record { id = p.id; «data» = x })) k)) j (bytes_of (data_in x))

  -- the entry, and then the data at place j
  pub node_put : (d : PeerData) (o₂ o₃ o : List ℕ) (j : ℕ) → p.data ≡ Some d → o ≡ overwrite o₃ j (take d.len d.bytes)
      → o₃ ≡ overwrite o₂ (at + 10) (d.len ∷ 1 ∷ []) → o₂ ≡ overwrite o₁ (at + peer_length) (le 2 k)
      → o ≡ overwrite (overwrite out at (entry (node_in p) k)) j (data_of p)
  unfolding data_in bytes_of
  node_put d o₂ o₃ o j q e₄ e₃ e₂ =
      e₄ ∙ ap (λ (m : List ℕ). overwrite m j (take d.len d.bytes))
      (then out at (le peer_length p.id) (le 2 k ++ (d.len ∷ 1 ∷ [])) e₁ (then o₁ (at + peer_length) (le 2 k) (d.len ∷ 1 ∷ []) e₂ e₃ (omega (arith, length_le 2 k))) after
      ∙ ap (overwrite out at) (entry_there p.id k d))
      ∙ ap (with_data j) (sym q)

  pub node_absent : (o : List ℕ) (j : ℕ) → p.data ≡ None → o ≡ overwrite o₁ (at + peer_length) (le 4 0)
      → o ≡ overwrite (overwrite out at (entry (node_in p) k)) j (data_of p)
  unfolding data_in bytes_of overwrite
  node_absent o j q e₂ = then out at (le peer_length p.id) (le 4 0) e₁ e₂ after ∙ ap (overwrite out at) (entry_absent p.id k) ∙ ap (with_data j) (sym q)

-- ---- nodes as they are gathered

module _ (l : List PeerInfo) (n : ℕ) (p : PeerInfo) (h : n < 32) (e : l ≡ pad blank 32 (take n l)) where
  long : length l ≡ 32
  long = ap length e ∙ length_pad blank 32 (take n l)

  first : length (take n l) ≡ n
  first = length-take-le n l (omega (arith, long))

  taken : take (n + 1) (set l n p) ≡ take n l ++ (p ∷ [])
  taken = rw (add-one n) (take-suc-set l n p (omega (arith, long)))

  pub stored : set l n p ≡ pad blank 32 (take (n + 1) (set l n p))
  stored =
      ap (λ (k : List PeerInfo). set k n p) e
      ∙ ap (λ (m : ℕ). set (pad blank 32 (take n l)) m p) (sym first)
      ∙ push_pad blank 32 (take n l) p (omega (arith, first))
      ∙ ap (pad blank 32) (sym taken)

  pub pushed : map node_in (take (n + 1) (set l n p)) ≡ map node_in (take n l) ++ (node_in p ∷ [])
  pushed = ap (map node_in) taken ∙ map-append node_in (take n l) (p ∷ [])

-- ---- a walk over the nodes

-- the nodes from the j-th on
pub drop_next : {A : Type 0} (d : A) (xs : List A) (j : ℕ) → j < length xs → drop j xs ≡ get_or xs j d ∷ drop (suc j) xs
drop_next d [] j h = absurd (not-suc-le-zero h)
drop_next d (x ∷ xs) zero h = refl
drop_next d (x ∷ xs) (suc j) h = drop_next d xs j (le_of_suc-le-suc h)

-- the lengths of the data, added up
abbrev pub sum : ℕ → List PeerInfo → ℕ
sum k l = k + length (datas (map node_in l))

pub sum_next : (k : ℕ) (p : PeerInfo) (l : List PeerInfo) → sum k (p ∷ l) ≡ sum (k + length (data_of p)) l
unfolding datas node_in
sum_next k p l = omega (arith, length-append (data_of p) (datas (map node_in l)))

-- ---- entries and data, stored one after the other

-- the bytes so far, the place of the next entry, and the place that the data have reached
pub record Spot : Type 0 where
  pub bytes : List ℕ
  pub at : ℕ
  pub reached : ℕ

entry_then : (out : List ℕ) (at reached : ℕ) (p : PeerInfo) (l : List PeerInfo)
    → overwrite out at (entries (map node_in (p ∷ l)) reached)
    ≡ overwrite (overwrite out at (entry (node_in p) reached)) (at + node_length) (entries (map node_in l) (reached + length (data_of p)))
unfolding entries_by node_in entry_by le
entry_then out at reached p l =
    sym (overwrite_append out at (entry (node_in p) reached) (entries (map node_in l) (reached + length (data_of p))))

data_then : (out : List ℕ) (at : ℕ) (p : PeerInfo) (l : List PeerInfo)
    → overwrite out at (datas (map node_in (p ∷ l))) ≡ overwrite (overwrite out at (data_of p)) (at + length (data_of p)) (datas (map node_in l))
unfolding datas node_in
data_then out at p l = sym (overwrite_append out at (data_of p) (datas (map node_in l)))

-- what is stored further on does not matter to a byte
set_before : (l : List ℕ) (i x j : ℕ) (ys : List ℕ) → i < j → overwrite (set l i x) j ys ≡ set (overwrite l j ys) i x
unfolding overwrite
set_before l i x j [] h = refl
set_before l i x j (y ∷ ys) h =
    ap (λ (m : List ℕ). overwrite m (suc j) ys) (set_comm l i j x y (λ e. omega arith))
    ∙ set_before (set l j y) i x (suc j) ys (omega arith)

-- bytes that do not meet may be stored in either order
either_order : (l : List ℕ) (i : ℕ) (xs : List ℕ) (j : ℕ) (ys : List ℕ) → i + length xs ≤ j → overwrite (overwrite l i xs) j ys ≡ overwrite (overwrite l j ys) i xs
unfolding overwrite
either_order l i [] j ys h = refl
either_order l i (x ∷ xs) j ys h = either_order (set l i x) (suc i) xs j ys (omega arith) ∙ ap (λ (m : List ℕ). overwrite m (suc i) xs) (set_before l i x j ys (omega arith))

-- the entries and the data of the nodes that are to come, of the record at place `at`
abbrev pub with_nodes : ℕ → Spot → List PeerInfo → List ℕ
with_nodes at x l = overwrite (overwrite x.bytes x.at (entries (map node_in l) x.reached)) (at + x.reached) (datas (map node_in l))

pub node_next : (at : ℕ) (out o : List ℕ) (k k' reached : ℕ) (p : PeerInfo) (l : List PeerInfo)
    → o ≡ overwrite (overwrite out k (entry (node_in p) reached)) (at + reached) (data_of p) → k' ≡ k + node_length → k' + node_length * length l ≤ at + reached
    → with_nodes at (record { bytes = out; at = k; reached = reached }) (p ∷ l) ≡ with_nodes at (record { bytes = o; at = k'; reached = reached + length (data_of p) }) l
node_next at out o k k' reached p l e q h =
    let one : List ℕ = entry (node_in p) reached in
    let others : List ℕ = entries (map node_in l) (reached + length (data_of p)) in
    let ends : at + reached + length (data_of p) ≡ at + (reached + length (data_of p)) = omega arith in
    ap (λ (m : List ℕ). overwrite m (at + reached) (datas (map node_in (p ∷ l)))) (entry_then out k reached p l)
    ∙ data_then (overwrite (overwrite out k one) (k + node_length) others) (at + reached) p l
    ∙ ap (λ (m : List ℕ). overwrite m (at + reached + length (data_of p)) (datas (map node_in l)))
    (either_order (overwrite out k one) (k + node_length) others (at + reached) (data_of p)
    (omega (arith, length_entries peer_length (map node_in l) (reached + length (data_of p)), length-map l node_in)))
    ∙ rw (e, q, ends)
