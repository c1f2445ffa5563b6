-- Laws of what the writers do, in each of the ways through them.
-- Assumes nothing.
use Prim.Native.Nat.{ℕ, ◌+◌, ◌*◌, ◌≤◌, ◌<◌}
use mathlib.Core.Path.{◌≡◌, refl, sym, ap, ◌∙◌}
use mathlib.Core.Bool.{Bool, true, false}
use mathlib.Core.List.{List, [], ◌∷◌, ◌++◌, append-nil}
use native.Mathlib.Omega.{arith}
use borrow.Author.Tests.{leb-true, le-leb, lt-leb}
use lib.ListN.{length, length-append}
use lib.Dec.{leb}
use Rattle.base_lists.specs.Lists.{choose}
use Rattle.base_lists.specs.Bytes.{le, overwrite}
use Rattle.base_lists.proofs.Bytes.{then, length_le}
use Rattle.base_peer.specs.Data.{Node}
use Rattle.base_peer.specs.Held.{node_in}
use Rattle.base_peer.specs.declared.PeerInfo.{PeerInfo}
use Rattle.record.specs.Format.{Rec, peer_length, header_length, node_length, entry, entries, entries_by, datas, size, size_by, header, header_by, encode, encode_by}
use Rattle.record.proofs.Format.{length_entries, length_header}
use Rattle.std.specs.Prelude.{Option, Some, None}
use Rattle.record_writer.specs.Write.{rec_in, header_bytes, fits, written, reached, Wrote, HeaderPut}
use Rattle.record_writer.specs.declared.Fields.{Fields}
use Rattle.record_writer.proofs.Laws.{data_of}

module _ (e : Rec) (at : ℕ) (out : List ℕ) where
  -- header, entries and data, stored one after the other
  in_turn : (o₁ o₂ o₃ : List ℕ) (n : ℕ) → n ≡ length e.nodes → o₃ ≡ overwrite o₂ (at + (header_length + node_length * n)) (datas e.nodes) → o₂ ≡ overwrite o₁ (at + header_length) (entries e.nodes (header_length + node_length * n))
      → o₁ ≡ overwrite out at (header e) → o₃ ≡ overwrite out at (encode e)
  unfolding encode_by
  in_turn o₁ o₂ o₃ n k r q p =
      let s : List ℕ = entries e.nodes (header_length + node_length * length e.nodes) in
      let z : length s ≡ node_length * length e.nodes = length_entries peer_length e.nodes (header_length + node_length * length e.nodes) in
      let q' : o₂ ≡ overwrite o₁ (at + header_length) s = q ∙ rw k in
      then out at (header e) (s ++ datas e.nodes) p
      (then o₁ (at + header_length) s (datas e.nodes) q' r (omega (arith, z, k)))
      (omega (arith, length_header peer_length e))

-- a header's first four bytes and its numbers, stored one after the other
pub header_put : (f : Fields) (n z at : ℕ) (out o₁ o₂ o₃ o₄ o₅ o₆ : List ℕ) → o₆ ≡ overwrite o₅ (at + 24) (le 8 f.number) → o₅ ≡ overwrite o₄ (at + 22) (le 2 z) → o₄ ≡ overwrite o₃ (at + 20) (le 2 f.ttl)
    → o₃ ≡ overwrite o₂ (at + 12) (le peer_length f.second) → o₂ ≡ overwrite o₁ (at + 4) (le peer_length f.peer) → o₁ ≡ overwrite out at (f.kind ∷ f.message ∷ f.flags ∷ n ∷ [])
    → o₆ ≡ overwrite out at (header_bytes f n z)
unfolding header_bytes
header_put f n z at out o₁ o₂ o₃ o₄ o₅ o₆ e₆ e₅ e₄ e₃ e₂ e₁ =
    let x : List ℕ = le peer_length f.peer in
    let y : List ℕ = le peer_length f.second in
    let t : List ℕ = le 2 f.ttl in
    let s : List ℕ = le 2 z in
    let u : List ℕ = le 8 f.number in
    then out at (f.kind ∷ f.message ∷ f.flags ∷ n ∷ []) (x ++ (y ++ (t ++ (s ++ u)))) e₁
    (then o₁ (at + 4) x (y ++ (t ++ (s ++ u))) e₂
    (then o₂ (at + 12) y (t ++ (s ++ u)) e₃ (then o₃ (at + 20) t (s ++ u) e₄ (then o₄ (at + 22) s u e₅ e₆ (omega (arith, length_le 2 z))) (omega (arith, length_le 2 f.ttl))) (omega (arith, length_le peer_length f.second)))
    (omega (arith, length_le peer_length f.peer)))
    refl

-- ---- the header of a record that fits, or not

module _ (f : Fields) (n z at : ℕ) (out : List ℕ) where
  pub headed_full : length out < at + z → HeaderPut f n z at out None out
  unfolding choose
  headed_full h = let q : leb (at + z) (length out) ≡ false = lt-leb (at + z) (length out) h in record { answer = rw q; bytes = rw q }

  pub headed : at + z ≤ length out → (o : List ℕ) → o ≡ overwrite out at (header_bytes f n z) → HeaderPut f n z at out (Some (at + z)) o
  unfolding choose
  headed h o e = let q : leb (at + z) (length out) ≡ true = le-leb (at + z) (length out) h in record { answer = rw q; bytes = e ∙ rw q }

abbrev answered : Option ℕ → Bool
answered (Some x) = true
answered None = false

fitted : (r : Option ℕ) (t : Bool) (x : ℕ) → r ≡ choose t (Some x) None → answered r ≡ t
unfolding choose
fitted r true x e = ap answered e
fitted r false x e = ap answered e

-- a record of n nodes and z bytes, whose header was answered with r
module _ (f : Fields) (ns : List Node) (n z at : ℕ) (out : List ℕ) (r : Option ℕ) (o : List ℕ) (p : n ≡ length ns) (k : z ≡ header_length + (node_length * n + length (datas ns))) (a : HeaderPut f n z at out r o) where
  size_is : size (rec_in f ns) ≡ z
  unfolding size_by rec_in
  size_is = omega (arith, k, p)

  answer_is : r ≡ reached (rec_in f ns) at out
  unfolding reached fits
  answer_is = rw size_is a.answer

  test_is : (b : Bool) → answered r ≡ b → leb (at + z) (length out) ≡ b
  test_is b e = sym (fitted r (leb (at + z) (length out)) (at + z) a.answer) ∙ e

  pub no_room : r ≡ None → Wrote (rec_in f ns) at out r o
  unfolding written fits choose
  no_room e =
      let q : leb (at + z) (length out) ≡ false = test_is false (ap answered e) in
      record { answer = answer_is; bytes = a.bytes ∙ rw (size_is, q) }

  pub room : (x : ℕ) → r ≡ Some x → at + z ≤ length out
  room x e = leb-true _ _ (test_is true (ap answered e))

  header_is : header_bytes f n z ≡ header (rec_in f ns)
  unfolding header_bytes header_by rec_in size_by
  header_is =
      let q : z ≡ header_length + (node_length * length ns + length (datas ns)) = omega (arith, k, p) in
      λ i. f.kind ∷ f.message ∷ f.flags ∷ p i ∷ (le peer_length f.peer ++ (le peer_length f.second ++ (le 2 f.ttl ++ (le 2 (q i) ++ le 8 f.number))))

  header_stored : leb (at + z) (length out) ≡ true → o ≡ overwrite out at (header (rec_in f ns))
  unfolding choose
  header_stored q = a.bytes ∙ rw q (ap (overwrite out at) header_is)

  pub done : (x : ℕ) → r ≡ Some x → (o₃ : List ℕ) → o₃ ≡ overwrite (overwrite o (at + header_length) (entries ns (header_length + node_length * n))) (at + (header_length + node_length * n)) (datas ns)
      → Wrote (rec_in f ns) at out r o₃
  unfolding written fits choose rec_in
  done x e o₃ w =
      let q : leb (at + z) (length out) ≡ true = test_is true (ap answered e) in
      let s : o₃ ≡ overwrite out at (encode (rec_in f ns)) = in_turn (rec_in f ns) at out o _ o₃ n p w refl (header_stored q) in
      record { answer = answer_is; bytes = s ∙ rw (size_is, q) }

-- ---- the records of no node and of one

pub done_bare : (f : Fields) (at : ℕ) (out : List ℕ) (r : Option ℕ) (o : List ℕ) → HeaderPut f 0 header_length at out r o → Wrote (rec_in f []) at out r o
unfolding datas entries_by overwrite
done_bare f at out r o a = go r refl where
  go : (s : Option ℕ) → r ≡ s → Wrote (rec_in f []) at out r o
  go (Some x) e = done f [] 0 header_length at out r o refl refl a x e o refl
  go None e = no_room f [] 0 header_length at out r o refl refl a e

-- where the data of one node stand
abbrev fixed : ℕ
fixed = header_length + node_length

module _ (f : Fields) (p : PeerInfo) (m at : ℕ) (out : List ℕ) (r : Option ℕ) (o : List ℕ) (v : m ≡ length (data_of p)) (a : HeaderPut f 1 (fixed + m) at out r o) where
  abbrev one : List Node
  one = node_in p ∷ []

  size_one : fixed + m ≡ header_length + (node_length * 1 + length (datas one))
  unfolding datas node_in
  size_one = omega (arith, length-append (data_of p) [], v)

  pub no_room_one : r ≡ None → Wrote (rec_in f one) at out r o
  no_room_one e = no_room f one 1 (fixed + m) at out r o refl size_one a e

  pub room_one : (x : ℕ) → r ≡ Some x → at + (fixed + length (data_of p)) ≤ length out
  room_one x e = omega (arith, room f one 1 (fixed + m) at out r o refl size_one a x e, v)

  pub done_one : (x : ℕ) → r ≡ Some x → (o₃ : List ℕ) → o₃ ≡ overwrite (overwrite o (at + (header_length + node_length * 0)) (entry (node_in p) fixed)) (at + fixed) (data_of p)
      → Wrote (rec_in f one) at out r o₃
  unfolding datas entries_by node_in
  done_one x e o₃ s =
      done f one 1 (fixed + m) at out r o refl size_one a x e o₃
      (s ∙ rw (append-nil (data_of p), append-nil (entry (node_in p) fixed)))
